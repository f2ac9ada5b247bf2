-- `nums::pad` meets its contract, by recursion on the width: the digits of the quotient, then that of the rest. Assumes nothing.
use Rattle.std.proofs.Common.{ℕ, ◌+◌, sym, subst, slice_set, arith}
use Rattle.forms.specs.Nums as T
use Rattle.forms.specs.NumLaws as W
use Rattle.forms.proofs.nums.+pad.Goals as goal

pub returns-then-width-eq0 : goal.returns-then-width-eq0
returns-then-width-eq0 t c =
    W.padded-none c.args.base c.args.v c.args.width c.args.at c.args.out.now c.if-width-eq0.true c.requires.2

pub pad-k-requires : goal.pad-k-requires
pad-k-requires t c =
    (omega (arith, c.if-width-eq0.false), (c.requires.0, c.requires.1, W.pow-less c.args.base c.args.v c.args.width (omega arith) c.if-width-eq0.false c.requires.2, omega (arith, c.if-width-eq0.false)))

pub returns : goal.returns
returns t c =
    subst (λ (z : ℕ). T.Padded c.args.base c.args.v c.args.width c.args.at c.args.out.now (slice_set c.pad-k.new.out c.pad-k.result z) (c.pad-k.result + 1)) (sym c.digit_byte.ensures) (W.padded-more c.args.base c.args.v c.args.width c.args.at c.args.out.now c.pad-k.new.out c.pad-k.result c.requires.0 c.requires.1 c.requires.3 c.if-width-eq0.false c.pad-k.ensures)
