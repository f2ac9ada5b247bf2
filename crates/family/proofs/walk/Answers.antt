-- `family::walk` meets its contract. The loop's invariant, `Walking`: what is left of the walk, over where it is, gives what the whole walk gives.
-- The measure is two for each visit left and one for each open frame. Assumes nothing.
use Rattle.std.specs.Prelude.{length}
use Rattle.std.proofs.Common.{arith, refl, ap, ◌∙◌, length-set}
use Rattle.entries.specs.Layout.{ok-still as entries-still}
use Rattle.family.specs.Steps.{walk-on, walked_whole}
use Rattle.family.proofs.walk.Goals as goal

pub loop-w-init : goal.loop-w-init
loop-w-init c = (refl, refl, simp length-set (omega arith), λ k. record { kept = k.entries; same = refl })

pub turn-w-requires-clause-entries_ok : goal.turn-w-requires-clause-entries_ok
turn-w-requires-clause-entries_ok c = entries-still _ _ _ _ c.requires.pool_fits.entries c.loop-w.invariant.0 (omega arith)

pub loop-w-preserved : goal.loop-w-preserved
loop-w-preserved c =
    let k = c.loop-w.invariant in
    let n = c.new-records.ensures in
    let t = c.turn-w.ensures in (
      omega arith,
      omega arith,
      omega (arith, t.nearer.room),
      λ h. let w = k.3 h in walk-on _ _ _ _ _ _ _ _ _ w _ _ _ (rw (n.0, n.1) at (t.turned w.kept (rw (n.0, n.1) h.boxes))),
    )

pub returns : goal.returns
returns c h =
    let k = c.loop-w.invariant in
    walked_whole _ _ _ _ _ _ _ _ _ _ _ c.requires.pool_fits k.0 (c.end-bound.ensures ∙ ap length c.new-records.ensures.0) (omega arith) c.loop-w-test.false h (k.3 h)
