-- `items::list_field` meets its contract: a list stands next, and its members are records that have room.
use Rattle.forms.specs.TextLaws.{if-none}
use Rattle.lines.specs.ItemLaws as L
use Rattle.lines.proofs.items.list_field.Goals as goal

pub returns-in_err-inside : goal.returns-in_err-inside
returns-in_err-inside c = if-none _ _ c.from_residual.ensures (L.list-none _ _ _ _ c.in_err-inside.ensures)

pub returns-in_err-words : goal.returns-in_err-words
returns-in_err-words c = if-none _ _ c.from_residual-in_err-words.ensures (L.list-off _ _ _ _ _ c.in_ok-inside.ensures _ c.in_err-words.ensures)

pub returns : goal.returns
returns c = L.list-yes _ _ _ _ _ c.in_ok-inside.ensures _ _ _ c.in_ok-words.ensures
