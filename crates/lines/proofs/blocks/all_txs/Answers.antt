-- `blocks::all_txs` meets its contract: reading on from where it stands, over the words that were written into both slices, is reading from the start (`Moves`).
use Rattle.std.proofs.Common.{arith, refl}
use Rattle.forms.specs.TextLaws.{if-none}
use Rattle.lines.specs.ItemLaws.{end_is, back-length}
use Rattle.lines.specs.BlockLaws as L
use Rattle.lines.proofs.blocks.all_txs.Goals as goal

pub loop-rest-init : goal.loop-rest-init
loop-rest-init c = L.moves-start _ _ _ _

pub returns-then-first-k-lt5 : goal.returns-then-first-k-lt5
returns-then-first-k-lt5 c = L.ends-full _ _ _ _ _ _ _ _ _ _ c.loop-rest.invariant (end_is _ _ _ _ c.ends.ensures c.loop-rest-test.true) c.if-first-k-lt5.true

pub returns-in_err-words : goal.returns-in_err-words
returns-in_err-words c = if-none _ _ c.from_residual.ensures (L.ends-tx _ _ _ _ _ _ _ _ _ _ c.loop-rest.invariant _ refl (end_is _ _ _ _ c.ends.ensures c.loop-rest-test.true) c.in_err-words.ensures)

pub loop-rest-preserved : goal.loop-rest-preserved
loop-rest-preserved c = L.moves_from _ _ _ _ _ _ _ _ _ _ c.loop-rest.invariant _ _ _ _ _ (omega (arith, c.if-first-k-lt5.false, c.loop-rest.invariant.room, c.loop-rest.invariant.same)) (L.tx-part _ _ _ _ _ _ _ _ _ _ (omega (arith, c.loop-rest.invariant.room, c.loop-rest.invariant.same)) c.in_ok-words.ensures) refl (end_is _ _ _ _ c.ends.ensures c.loop-rest-test.true) (back-length _ _ (omega (arith, c.loop-rest.invariant.room, c.loop-rest.invariant.same)) _ c.put_tx.auto.first) c.put_tx.auto.second

pub returns : goal.returns
returns c = L.ends-whole _ _ _ _ _ _ _ _ _ _ c.loop-rest.invariant (end_is _ _ _ _ c.ends.ensures c.loop-rest-test.false)
