-- `admission::contest` meets its contract: 29 (`contest-lost`), which writes the conflicts' ids and changes no table, or the losers go, which leaves no
-- less room, and the newcomer is seated (`contest-won`). The losers are the ids that were listed (`ids-front`). Assumes nothing.
use native.Mathlib.Omega.{arith}
use mathlib.Core.Path.{refl, sym, ap, ◌∙◌}
use lib.ListN.{length}
use Rattle.entries.specs.Layout.{entry_of}
use Rattle.boxes.specs.Views.{ids_in}
use Rattle.pool.specs.Lent.{tables_in}
use Rattle.admit.specs.Admission.{ids-front, room_after, still-new, sound_lost, contest-lost, contest-won}
use Rattle.admit.proofs.admission.contest.Goals as goal

pub returns-then-is_loser-clause-sound : goal.returns-then-is_loser-clause-sound
returns-then-is_loser-clause-sound c = sound_lost _ _ _ (rw c.places.ensures at c.min-told.ensures)

pub returns-then-is_loser-clause-leaves : goal.returns-then-is_loser-clause-leaves
unfolding entry_of
returns-then-is_loser-clause-leaves c =
    let listed = rw (c.boxes.ensures.0, c.boxes.ensures.1, c.new.ensures.0, c.new.ensures.1) at c.conflicts-k.ensures.listed in
    let lost = rw (c.entries.ensures.0, c.entries.ensures.1) at c.is_loser.ensures in
    λ k new.
    let l = listed k.boxes in
    let losers = ids-front _ _ _ _ c.new-losers.ensures.1 c.new-losers.ensures.0 (omega arith) ∙ l.rows in
    rw (← losers) (contest-lost _ _ _ _ _ _ _ _ _ _ _ _ _ _ _ (record { fits = c.args.pool.now.fits; kept = k; tables = refl }) (sym (lost k.entries) ∙ c.if-is_loser.true) (l.count ∙ ap length (sym losers)) (rw c.places.ensures at c.min-told.ensures) c.write_ids.ensures)

pub seat-requires-clause-room : goal.seat-requires-clause-room
seat-requires-clause-room c = let r = c.remove_all.ensures in room_after _ _ _ _ _ _ _ c.requires.room r.same.2 r.same.3 r.fewer

pub returns-clause-leaves : goal.returns-clause-leaves
unfolding entry_of
returns-clause-leaves c =
    let listed = rw (c.boxes.ensures.0, c.boxes.ensures.1, c.new.ensures.0, c.new.ensures.1) at c.conflicts-k.ensures.listed in
    let lost = rw (c.entries.ensures.0, c.entries.ensures.1) at c.is_loser.ensures in
    let s = c.seat.ensures in
    λ k new.
    let l = listed k.boxes in
    let losers = ids-front _ _ _ _ c.new-losers.ensures.1 c.new-losers.ensures.0 (omega arith) ∙ l.rows in
    let went = c.remove_all.ensures.left k in
    rw (← losers) (contest-won _ _ _ _ _ _ _ _ _ _ _ _ _ _ _ (sym (lost k.entries) ∙ c.if-is_loser.false) went.tables (s.leaves went.kept (still-new _ _ _ _ (ids_in c.new-losers.result) (tables_in c.args.pool.now) went new)))
