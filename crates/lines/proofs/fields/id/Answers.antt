-- `fields::id` meets its contract: what stands next, and what its digits say.
use Rattle.forms.specs.TextLaws.{if-none}
use Rattle.lines.specs.FieldLaws as W
use Rattle.lines.proofs.fields.id.Goals as goal

pub returns-in_err-word : goal.returns-in_err-word
returns-in_err-word c = if-none _ _ c.from_residual.ensures (W.field-no _ _ _ c.in_err-word.ensures)

pub returns-in_err-value : goal.returns-in_err-value
returns-in_err-value c = if-none _ _ c.from_residual-in_err-value.ensures (W.id-off _ _ _ _ _ c.in_ok-word.ensures c.read_id.ensures c.in_err-value.was)

pub returns : goal.returns
returns c = W.id-yes _ _ _ _ _ c.in_ok-word.ensures c.read_id.ensures _ c.in_ok-value.was
