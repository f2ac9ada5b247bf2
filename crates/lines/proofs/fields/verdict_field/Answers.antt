-- `fields::verdict_field` meets its contract: a list stands next, and its members are a verdict's.
use Rattle.forms.specs.TextLaws.{if-none}
use Rattle.lines.specs.FieldLaws as W
use Rattle.lines.proofs.fields.verdict_field.Goals as goal

pub returns-in_err-inside : goal.returns-in_err-inside
returns-in_err-inside c = if-none _ _ c.from_residual.ensures (W.verdict-none _ _ c.in_err-inside.ensures)

pub returns-in_err-verdict : goal.returns-in_err-verdict
returns-in_err-verdict c = if-none _ _ c.from_residual-in_err-verdict.ensures (W.verdict-off _ _ _ _ c.in_ok-inside.ensures c.in_err-verdict.ensures)

pub returns : goal.returns
returns c = W.verdict-yes _ _ _ _ c.in_ok-inside.ensures _ c.in_ok-verdict.ensures
