-- `blocks::put_tx` meets its contract: an id and a list of boxes, then the end, and the record is written.
use Rattle.std.proofs.Common.{refl}
use Rattle.forms.specs.TextLaws.{if-none}
use Rattle.lines.specs.Items as I
use Rattle.lines.specs.BlockLaws as L
use Rattle.lines.proofs.blocks.put_tx.Goals as goal

pub returns-in_err-inside : goal.returns-in_err-inside
returns-in_err-inside c = if-none _ _ c.from_residual.ensures (L.tx-none _ _ _ _ c.in_err-inside.ensures)

pub returns-in_err-id : goal.returns-in_err-id
returns-in_err-id c = if-none _ _ c.from_residual-in_err-id.ensures (L.tx-no-id _ _ _ _ _ c.in_ok-inside.ensures _ c.in_err-id.ensures)

pub returns-in_err-words : goal.returns-in_err-words
unfolding I.item_of
returns-in_err-words c = if-none _ _ c.from_residual-in_err-words.ensures (L.tx-no-boxes _ _ _ _ _ c.in_ok-inside.ensures _ _ c.in_ok-id.ensures _ c.in_err-words.ensures)

pub returns-then-not-ends : goal.returns-then-not-ends
unfolding I.item_of
returns-then-not-ends c = L.tx-off _ _ _ _ _ c.in_ok-inside.ensures _ _ c.in_ok-id.ensures _ _ _ _ c.in_ok-words.ensures _ c.ends.ensures c.if-not-ends.true

pub returns : goal.returns
unfolding I.item_of
returns c = L.tx-yes _ _ _ _ _ c.in_ok-inside.ensures _ _ c.in_ok-id.ensures _ _ _ _ c.in_ok-words.ensures _ c.ends.ensures _ _ _ _ c.if-not-ends.false c.requires.1 c.put_words.ensures refl
