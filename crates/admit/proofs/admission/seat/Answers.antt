-- `admission::seat` meets its contract: 30 (`seat-crowded`), which changes nothing, or the losers' ids are written and the newcomer settles (`settles`).
-- Assumes nothing.
use mathlib.Core.Path.{refl, sym, ◌∙◌}
use Rattle.entries.specs.Layout.{entry_of}
use Rattle.boxes.specs.Flat.{ids}
use Rattle.admit.specs.Admission.{sound_declined, sound-in, seat-crowded, seat-taken, settles}
use Rattle.admit.proofs.admission.seat.Goals as goal

pub returns-then-is_crowded-clause-sound : goal.returns-then-is_crowded-clause-sound
returns-then-is_crowded-clause-sound c = sound_declined _ _ refl

pub returns-then-is_crowded-clause-leaves : goal.returns-then-is_crowded-clause-leaves
unfolding entry_of
returns-then-is_crowded-clause-leaves c = λ k new. seat-crowded _ _ _ _ _ _ _ _ _ _ _ _ (record { fits = c.args.pool.now.fits; kept = k; tables = refl }) (sym (rw (c.entries.ensures.0, c.entries.ensures.1) at c.is_crowded.ensures) ∙ c.if-is_crowded.true)

pub returns-clause-sound : goal.returns-clause-sound
returns-clause-sound c = sound-in _ _ c.len-k.result _ (rw c.places-room.ensures at c.outcome_of.ensures)

pub returns-clause-leaves : goal.returns-clause-leaves
unfolding entry_of
returns-clause-leaves c = let told = rw c.places-room.ensures at c.outcome_of.ensures in
    let v = c.enter-n.ensures in
    λ k new. seat-taken _ _ _ _ _ _ _ _ _ _ _ _ _ _ (sym (rw (c.entries.ensures.0, c.entries.ensures.1) at c.is_crowded.ensures) ∙ c.if-is_crowded.false)
    (settles _ _ _ _ _ _ _ _ _ _ _ _ _ (c.len-k.ensures ∙ sym ((ids _).len _ _)) c.write_ids.ensures (v.evicts k new) told)
