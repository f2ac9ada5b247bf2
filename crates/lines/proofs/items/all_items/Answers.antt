-- `items::all_items` meets its contract: reading on from where it stands, over the words that were written, is reading from the start (`Goes`).
use Rattle.std.proofs.Common.{arith}
use Rattle.forms.specs.TextLaws.{if-none}
use Rattle.lines.specs.ItemLaws as L
use Rattle.lines.proofs.items.all_items.Goals as goal

pub loop-rest-init : goal.loop-rest-init
loop-rest-init c = L.goes-start _ _ _ _

pub returns-then-out-k : goal.returns-then-out-k
returns-then-out-k c = L.ends-full _ _ _ _ _ _ _ _ c.loop-rest.invariant (L.end_is _ _ _ _ c.ends.ensures c.loop-rest-test.true) (omega (arith, c.if-out-k.true, c.width-w.ensures))

pub returns-in_err-rest : goal.returns-in_err-rest
returns-in_err-rest c = if-none _ _ c.from_residual.ensures (L.ends-item _ _ _ _ _ _ _ _ c.loop-rest.invariant (L.end_is _ _ _ _ c.ends.ensures c.loop-rest-test.true) c.in_err-rest.ensures)

pub loop-rest-preserved : goal.loop-rest-preserved
loop-rest-preserved c = L.goes_by _ _ _ _ _ _ _ _ c.loop-rest.invariant _ _ _ (L.end_is _ _ _ _ c.ends.ensures c.loop-rest-test.true) (omega (arith, c.if-out-k.false, c.width-w.ensures, c.loop-rest.invariant.room, c.loop-rest.invariant.same)) (L.item-part _ _ _ _ _ _ _ _ (omega (arith, c.loop-rest.invariant.room, c.loop-rest.invariant.same)) c.in_ok-rest.ensures) c.width-w.ensures

pub returns : goal.returns
returns c = L.ends-whole _ _ _ _ _ _ _ _ c.loop-rest.invariant (L.end_is _ _ _ _ c.ends.ensures c.loop-rest-test.false)
