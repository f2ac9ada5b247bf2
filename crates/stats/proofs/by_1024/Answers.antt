-- `by_1024` meets its contract: 1024 divides what the high word counts. Assumes nothing.
use Prim.Native.Nat.{◌+◌, ◌*◌, ◌/◌}
use mathlib.Core.Path.{◌≡◌, ◌∙◌}
use native.Mathlib.Omega.{arith}
use Rattle.words.specs.Sums.{quotient-word, quotient-cap}
use Rattle.words.specs.Wide.{wide_of}
use Rattle.words.specs.Divide.{fits_word, past_word_is}
use Rattle.words.specs.declared.wide.Wide.{Wide}
use Rattle.stats.proofs.by_1024.Goals as goal

shifted : (w : Wide) → w.high * 18014398509481984 + w.low / 1024 ≡ wide_of w / 1024
unfolding wide_of
shifted w = omega arith

pub returns-then-w-ge-FEE_UNIT : goal.returns-then-w-ge-FEE_UNIT
returns-then-w-ge-FEE_UNIT c = quotient-cap (wide_of c.args.w) 1024 (omega arith) (past_word_is c.args.w (omega arith) (omega arith))

pub returns : goal.returns
returns c =
    let w = c.args.w in
    shifted w ∙ quotient-word (wide_of w) 1024 (omega arith) (fits_word w (omega arith) (omega arith))
