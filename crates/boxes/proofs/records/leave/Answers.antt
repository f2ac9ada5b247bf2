-- `records::leave` meets its contract. Assumes nothing.
use mathlib.Core.Path.{sym, ◌∙◌}
use Rattle.words.specs.Ids.{id_of}
use Rattle.boxes.specs.Leaving.{left-gone, left-own, left_other}
use Rattle.boxes.proofs.records.leave.Goals.{then-is_gone-via-then-is_gone, then-is_gone-via-else-is_gone+then-not-is_owner}
use Rattle.boxes.proofs.records.leave.Goals as goal

pub returns-then-is_gone : goal.returns-then-is_gone
returns-then-is_gone c =
    elim c.then-is_gone.branch [
      | then-is_gone-via-then-is_gone w ↦ left-gone c.args.s.now c.args.i (id_of c.args.owner) c.args.n (sym c.is_gone.ensures ∙ w.if-is_gone.true)
      | then-is_gone-via-else-is_gone+then-not-is_owner w ↦ left_other c.args.s.now c.args.i (id_of c.args.owner) c.args.n (sym w.is_owner.ensures ∙ w.if-not-is_owner.true)
    ]

pub returns : goal.returns
returns c = left-own c.args.s.now c.args.i (id_of c.args.owner) c.args.n c.requires _ _ c.vacate_box.ensures (sym c.is_gone.ensures ∙ c.if-is_gone.false) (sym c.is_owner.ensures ∙ c.if-not-is_owner.false) c.saturating_sub.ensures
