-- `records::compact` meets its contract. The loop's invariant: the records of the slots before `from` are in the first `kept`, and both indexes are right for them
-- (`Moves`). Assumes nothing.
use native.Mathlib.Omega.{arith}
use mathlib.Core.Path.{sym, ◌∙◌}
use Rattle.boxes.specs.Compacting.{moves-none, moves-gone, moves-kept}
use Rattle.boxes.proofs.records.compact.Goals as goal

pub loop-from-init : goal.loop-from-init
loop-from-init c = moves-none _ _

pub loop-from-preserved-then-is_gone : goal.loop-from-preserved-then-is_gone
loop-from-preserved-then-is_gone c = moves-gone _ _ _ _ _ c.loop-from.invariant (omega arith) (sym c.is_gone.ensures ∙ c.if-is_gone.true)

pub loop-from-preserved : goal.loop-from-preserved
loop-from-preserved c = moves-kept _ _ _ _ _ c.loop-from.invariant (omega arith) _ (omega (arith, c.loop-from.invariant.len)) c.move_in.auto.s (sym c.is_gone.ensures ∙ c.if-is_gone.false) c.move_in.ensures
