-- `fields::judge` meets its contract: the first word is compared with the three, and the list must end behind the last member.
use Rattle.std.proofs.Common.{sym, ◌∙◌}
use Rattle.forms.specs.TextLaws.{if-none}
use Rattle.lines.specs.FieldLaws as W
use Rattle.lines.proofs.fields.judge.Goals as goal

pub returns-in_err-word : goal.returns-in_err-word
returns-in_err-word c = if-none _ _ c.from_residual.ensures (W.judge-none _ c.in_err-word.ensures)

pub returns-in_err-cost : goal.returns-in_err-cost
returns-in_err-cost c = if-none _ _ c.from_residual-in_err-cost.ensures (W.judge-no-cost _ _ _ c.in_ok-word.ensures (sym c.same_word.ensures ∙ c.if-same_word.true) c.in_err-cost.ensures)

pub returns-then-same_word : goal.returns-then-same_word
returns-then-same_word c = W.judge-match _ _ (W.judge-ok _ _ _ c.in_ok-word.ensures (sym c.same_word.ensures ∙ c.if-same_word.true) _ _ c.in_ok-cost.ensures _ c.if_ends.ensures)

pub returns-then-same_word-2 : goal.returns-then-same_word-2
returns-then-same_word-2 c = W.judge-match _ _ (W.judge-bad _ _ _ c.in_ok-word.ensures (sym c.same_word.ensures ∙ c.if-same_word.false) (sym c.same_word-2.ensures ∙ c.if-same_word-2.true) _ c.if_ends-then-same_word-2.ensures)

pub returns-then-same_word-3 : goal.returns-then-same_word-3
returns-then-same_word-3 c = W.judge-match _ _ (W.judge-absent _ _ _ c.in_ok-word.ensures (sym c.same_word.ensures ∙ c.if-same_word.false) (sym c.same_word-2.ensures ∙ c.if-same_word-2.false) (sym c.same_word-3.ensures ∙ c.if-same_word-3.true) _ c.if_ends-then-same_word-3.ensures)

pub returns : goal.returns
returns c = W.judge-other _ _ _ c.in_ok-word.ensures (sym c.same_word.ensures ∙ c.if-same_word.false) (sym c.same_word-2.ensures ∙ c.if-same_word-2.false) (sym c.same_word-3.ensures ∙ c.if-same_word-3.false)
