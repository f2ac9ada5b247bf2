-- `fields::number` meets its contract: what stands next, and what its digits say.
use Rattle.forms.specs.TextLaws.{if-none}
use Rattle.lines.specs.FieldLaws as W
use Rattle.lines.proofs.fields.number.Goals as goal

pub returns-in_err-word-clause-is : goal.returns-in_err-word-clause-is
returns-in_err-word-clause-is c = if-none _ _ c.from_residual.ensures (W.field-no _ _ _ c.in_err-word.ensures)

pub returns-in_err-value-clause-is : goal.returns-in_err-value-clause-is
returns-in_err-value-clause-is c = if-none _ _ c.from_residual-in_err-value.ensures (W.number-off _ _ _ _ _ _ c.in_ok-word.ensures c.read_decimal.ensures c.in_err-value.was)

pub returns-clause-is : goal.returns-clause-is
returns-clause-is c = W.number-yes _ _ _ _ _ _ c.in_ok-word.ensures c.read_decimal.ensures _ c.in_ok-value.was

pub returns-clause-small : goal.returns-clause-small
returns-clause-small c = W.number_small _ _ _ _ c.read_decimal.ensures c.in_ok-value.was
