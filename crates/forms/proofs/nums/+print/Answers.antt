-- `nums::print` meets its contract, by recursion on the width: the digits of the quotient, then that of the rest. Assumes nothing.
use Rattle.std.proofs.Common.{ℕ, ◌+◌, sym, subst, slice_set}
use Rattle.forms.specs.Nums as T
use Rattle.forms.specs.NumLaws as W
use Rattle.forms.proofs.nums.+print.Goals as goal

pub returns-then-v-base : goal.returns-then-v-base
returns-then-v-base t c =
    subst (λ (z : ℕ). T.Printed c.args.base c.args.v c.args.width c.args.at c.args.out.now (slice_set c.args.out.now c.args.at z) (c.args.at + 1)) (sym c.digit_byte.ensures) (W.printed-one c.args.base c.args.v c.args.width c.args.at c.args.out.now c.requires.1 c.requires.2 c.requires.4 c.if-v-base.true)

pub returns : goal.returns
returns t c =
    subst (λ (z : ℕ). T.Printed c.args.base c.args.v c.args.width c.args.at c.args.out.now (slice_set c.print-k.new.out c.print-k.result z) (c.print-k.result + 1)) (sym c.digit_byte-2.ensures) (W.printed-more c.args.base c.args.v c.args.width c.args.at c.args.out.now c.print-k.new.out c.print-k.result c.requires.0 c.requires.1 c.requires.4 c.if-v-base.false (W.pow-down c.args.base c.args.v c.args.width c.requires.0 c.if-v-base.false c.requires.3).0 c.print-k.ensures)
