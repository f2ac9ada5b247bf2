-- `fields::choice` meets its contract: the word that stands next is compared with both.
use Rattle.std.proofs.Common.{sym, ◌∙◌}
use Rattle.forms.specs.TextLaws.{if-none}
use Rattle.lines.specs.FieldLaws as W
use Rattle.lines.proofs.fields.choice.Goals as goal

pub returns-in_err-word : goal.returns-in_err-word
returns-in_err-word g c = if-none _ _ c.from_residual.ensures (W.field-no _ _ _ c.in_err-word.ensures)

pub returns-then-same_word : goal.returns-then-same_word
returns-then-same_word g c = W.choice-yes _ _ _ _ _ _ _ _ c.in_ok-word.ensures (sym c.same_word.ensures ∙ c.if-same_word.true)

pub returns-then-same_word-2 : goal.returns-then-same_word-2
returns-then-same_word-2 g c = W.choice-not _ _ _ _ _ _ _ _ c.in_ok-word.ensures (sym c.same_word.ensures ∙ c.if-same_word.false) (sym c.same_word-2.ensures ∙ c.if-same_word-2.true)

pub returns : goal.returns
returns g c = W.choice-off _ _ _ _ _ _ _ _ c.in_ok-word.ensures (sym c.same_word.ensures ∙ c.if-same_word.false) (sym c.same_word-2.ensures ∙ c.if-same_word-2.false)
