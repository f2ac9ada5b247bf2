-- `resolved::inputs_resolved` meets its contract. The loop's invariant: the inputs from the j-th on say what all say (`Submitting`). Assumes nothing.
use Rattle.indexes.specs.Resolved.{submit-fails, submit-on, submit-end}
use native.Mathlib.Omega.{arith}
use Rattle.indexes.proofs.resolved.inputs_resolved.Goals as goal

pub returns-then-not-resolved : goal.returns-then-not-resolved
returns-then-not-resolved c = submit-fails _ _ _ _ _ _ (omega (arith, rw (c.new-ids.ensures.0, c.new-ids.ensures.1) at c.len-j-end.ensures)) (rw (c.new-ids.ensures.0, c.new-ids.ensures.1) at c.id_at.ensures) c.loop-j.invariant c.resolved.ensures (c.if-not-resolved.true)

pub loop-j-preserved : goal.loop-j-preserved
loop-j-preserved c = submit-on _ _ _ _ _ _ (omega (arith, rw (c.new-ids.ensures.0, c.new-ids.ensures.1) at c.len-j-end.ensures)) (rw (c.new-ids.ensures.0, c.new-ids.ensures.1) at c.id_at.ensures) c.loop-j.invariant c.resolved.ensures (c.if-not-resolved.false)

pub returns : goal.returns
returns c = submit-end _ _ _ _ (omega (arith, rw (c.new-ids.ensures.0, c.new-ids.ensures.1) at c.len-j-end.ensures)) c.loop-j.invariant
