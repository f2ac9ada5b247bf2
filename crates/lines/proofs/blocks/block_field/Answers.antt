-- `blocks::block_field` meets its contract: a list stands next, and its members are transactions that have room.
use Rattle.forms.specs.TextLaws.{if-none}
use Rattle.lines.specs.BlockLaws as L
use Rattle.lines.proofs.blocks.block_field.Goals as goal

pub returns-in_err-inside : goal.returns-in_err-inside
returns-in_err-inside c = if-none _ _ c.from_residual.ensures (L.block_none _ _ _ _ c.in_err-inside.ensures)

pub returns-in_err-transactions : goal.returns-in_err-transactions
returns-in_err-transactions c = if-none _ _ c.from_residual-in_err-transactions.ensures (L.block-off _ _ _ _ c.in_ok-inside.ensures _ _ c.in_err-transactions.ensures)

pub returns : goal.returns
returns c = L.block-yes _ _ _ _ c.in_ok-inside.ensures _ _ _ _ _ _ c.in_ok-transactions.ensures
