-- `order::rank` meets its contract. The loop's invariant: those before lo are ahead, those from hi on are not (`Halves`). Assumes nothing.
use Rattle.std.specs.Prelude.{◌+◌, ◌-◌, ◌/◌}
use Rattle.std.proofs.Common.{arith, sym, ap, ◌∙◌}
use Rattle.words.specs.Ids.{id_of}
use Rattle.entries.specs.Cells.{entry_in, entry_at, slot_of}
use Rattle.entries.specs.Ranks.{ahead_of, halves-up, halves-down}
use Rattle.entries.proofs.order.rank.Goals as goal

pub loop-lo-preserved-then-is_ahead : goal.loop-lo-preserved-then-is_ahead
unfolding entry_at
loop-lo-preserved-then-is_ahead c =
    let a = c.args in
    let l = c.loop-lo in
    halves-up a.s.now a.n a.weight (id_of a.id) l.lo l.hi (l.lo + (l.hi - l.lo) / 2) l.invariant (omega arith) (omega arith)
    (ap (λ i. ahead_of (entry_in a.s.now i) a.weight (id_of a.id)) (sym c.slot_at.ensures.0) ∙ sym c.is_ahead.ensures ∙ c.if-is_ahead.true)

pub loop-lo-preserved : goal.loop-lo-preserved
unfolding entry_at
loop-lo-preserved c =
    let a = c.args in
    let l = c.loop-lo in
    halves-down a.s.now a.n a.weight (id_of a.id) l.lo l.hi (l.lo + (l.hi - l.lo) / 2) l.invariant (omega arith) (omega arith)
    (ap (λ i. ahead_of (entry_in a.s.now i) a.weight (id_of a.id)) (sym c.slot_at.ensures.0) ∙ sym c.is_ahead.ensures ∙ c.if-is_ahead.false)
