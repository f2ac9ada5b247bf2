-- `table::find_rank` meets its contract: the index gives the slot, halving its rank (`found_at`). Assumes nothing.
use Rattle.std.proofs.Common.{ap, ◌∙◌, arith}
use Rattle.std.specs.ControlFlow.{continue_value}
use Rattle.words.specs.Ids.{id_of}
use Rattle.entries.specs.Changing.{found_at, found-beyond, found_none}
use Rattle.entries.proofs.table.find_rank.Goals as goal

pub returns-in_err-i : goal.returns-in_err-i
returns-in_err-i c =
    let a = c.args in
    rw c.from_residual.ensures (found_none a.s.now a.u a.n (id_of a.id) c.requires.0 (rw (c.branch-i.ensures ∙ ap continue_value c.in_err-i.is) at c.find_slot.ensures))

pub returns-then-r-n : goal.returns-then-r-n
returns-then-r-n c =
    let a = c.args in
    found_at a.s.now a.u a.n (id_of a.id) _ _ _ c.requires.0 (rw (c.branch-i.ensures ∙ ap continue_value c.in_ok-i.is) at c.find_slot.ensures) c.get.ensures c.rank-r.ensures (omega arith)

pub returns-else-r-n : goal.returns-else-r-n
returns-else-r-n c =
    let a = c.args in
    found-beyond a.s.now a.u a.n (id_of a.id) _ _ _ c.requires.0 (rw (c.branch-i.ensures ∙ ap continue_value c.in_ok-i.is) at c.find_slot.ensures) c.get.ensures c.rank-r.ensures (omega arith)
