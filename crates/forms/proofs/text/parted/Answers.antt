-- `text::parted` meets its contract, by the cases of `Gap`.
use Rattle.std.proofs.Common.{arith, ltb-true, ltb-false}
use Rattle.forms.specs.TextLaws as W
use Rattle.forms.proofs.text.parted.Goals as goal

pub returns-then-gap-clause-yes : goal.returns-then-gap-clause-yes
returns-then-gap-clause-yes c = λ e. W.gap-true _ _ c.if-gap.true

pub returns-else-gap-clause-yes : goal.returns-else-gap-clause-yes
returns-else-gap-clause-yes c = λ e. W.gap-false _ _ c.if-gap.false (ltb-true _ _ e)

pub returns-else-gap-clause-not : goal.returns-else-gap-clause-not
returns-else-gap-clause-not c = λ e g. let h = W.gap-pos _ _ c.if-gap.false g in omega (arith, ltb-false 0 c.args.spaces e)
