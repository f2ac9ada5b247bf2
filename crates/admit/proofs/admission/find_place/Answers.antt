-- `admission::find_place` meets its contract: the newcomer contests its boxes, or has nobody to contest with (`contest-free`). Assumes nothing.
use mathlib.Core.Path.{sym, ◌∙◌}
use Rattle.words.specs.Tables.{of_none}
use Rattle.boxes.specs.Flat.{ids_of, ids}
use Rattle.boxes.specs.Layout.{boxes_of}
use Rattle.indexes.specs.Spent.{no-conflict}
use Rattle.admit.specs.Admission.{contest-free}
use Rattle.admit.proofs.admission.find_place.Goals as goal

pub returns-clause-leaves : goal.returns-clause-leaves
returns-clause-leaves c = let p = c.args.pool.now in
    let spent = rw (c.boxes.ensures.0, c.boxes.ensures.1, c.new.ensures.0, c.new.ensures.1) at c.any_spent.ensures in
    λ k new.
    contest-free _ _ _ _ _ _ _ _ _ _ _ _ _ _ _
    (no-conflict (ids_of 5 c.args.lists.now.inputs.now) (boxes_of p.boxes.now p.counts.records) (sym (spent k.boxes) ∙ c.if-any_spent.false))
    (rw (c.new-2.ensures.0, c.new-2.ensures.1) (of_none (ids 4) _)) (c.seat.ensures.leaves k new)
