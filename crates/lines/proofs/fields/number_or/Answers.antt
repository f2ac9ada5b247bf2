-- `fields::number_or` meets its contract: the word that stands next is compared, then read as a number.
use Rattle.std.proofs.Common.{sym, ◌∙◌}
use Rattle.forms.specs.TextLaws.{if-none}
use Rattle.lines.specs.FieldLaws as W
use Rattle.lines.proofs.fields.number_or.Goals as goal

pub returns-in_err-word : goal.returns-in_err-word
returns-in_err-word c = if-none _ _ c.from_residual.ensures (W.field-no _ _ _ c.in_err-word.ensures)

pub returns-then-same_word : goal.returns-then-same_word
returns-then-same_word c = W.optional-word _ _ _ _ c.in_ok-word.ensures (sym c.same_word.ensures ∙ c.if-same_word.true)

pub returns-in_err-value : goal.returns-in_err-value
returns-in_err-value c = if-none _ _ c.from_residual-in_err-value.ensures (W.optional-off _ _ _ _ c.in_ok-word.ensures _ (sym c.same_word.ensures ∙ c.if-same_word.false) c.read_decimal.ensures c.in_err-value.was)

pub returns : goal.returns
returns c = W.optional-some _ _ _ _ c.in_ok-word.ensures _ _ (sym c.same_word.ensures ∙ c.if-same_word.false) c.read_decimal.ensures c.in_ok-value.was
