-- `wide::Part::step` meets its contract: within a word nothing is shifted out, so that it is the law's step as it stands, and by one bit the quotient's
-- digit is 0 or 1 (`bit-none`, `bit-one`). Assumes nothing.
use Rattle.std.proofs.Common.{arith}
use Rattle.words.specs.Divide.{stepped, rest-kept, quotient_fits, quotient-kept, bit-none, bit-one}
use Rattle.words.proofs.wide.Part.step.Goals as goal

pub overflow_add-result : goal.overflow_add-result
overflow_add-result c =
    let s = c in
    let a = s.args in
    let h = c.if-d-lt-HALF.true in
    record {
      fits = rw (quotient-kept a.self a.digit a.d a.size s.requires h, rest-kept a.self a.digit a.d a.size s.requires h)
          (quotient_fits a.self a.digit a.d a.size s.requires h);
    }

pub returns-then-d-lt-HALF : goal.returns-then-d-lt-HALF
unfolding stepped
returns-then-d-lt-HALF c =
    let s = c in
    let a = s.args in
    let h = c.if-d-lt-HALF.true in
    rw (quotient-kept a.self a.digit a.d a.size s.requires h, rest-kept a.self a.digit a.d a.size s.requires h)

pub overflow_add-result-then-next-gap : goal.overflow_add-result-then-next-gap
overflow_add-result-then-next-gap c = let s = c in let a = s.args in omega (arith, (bit-none a.self a.digit a.d a.size s.requires c.if-d-lt-HALF.false c.if-next-gap.true).0)

pub returns-then-next-gap : goal.returns-then-next-gap
returns-then-next-gap c = let s = c in let a = s.args in (bit-none a.self a.digit a.d a.size s.requires c.if-d-lt-HALF.false c.if-next-gap.true).1

pub overflow_add-result-2 : goal.overflow_add-result-2
overflow_add-result-2 c = let s = c in let a = s.args in omega (arith, (bit-one a.self a.digit a.d a.size s.requires c.if-d-lt-HALF.false c.if-next-gap.false).0)

pub overflow_add-result-3 : goal.overflow_add-result-3
overflow_add-result-3 c = let s = c in let a = s.args in omega (arith, (bit-one a.self a.digit a.d a.size s.requires c.if-d-lt-HALF.false c.if-next-gap.false).0)

pub returns : goal.returns
returns c = let s = c in let a = s.args in (bit-one a.self a.digit a.d a.size s.requires c.if-d-lt-HALF.false c.if-next-gap.false).1
