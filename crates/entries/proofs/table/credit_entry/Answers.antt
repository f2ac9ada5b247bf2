-- `table::credit_entry` meets its contract: the entry's weight is raised, and it takes its place among those before it (`credited-at`). Assumes nothing.
use Rattle.words.specs.Ids.{id_of}
use Rattle.entries.specs.Layout.{EntriesOk}
use Rattle.entries.specs.Crediting.{credited-at, credited-not}
use Rattle.entries.proofs.table.credit_entry.Goals as goal

pub returns-in-Some : goal.returns-in-Some
unfolding EntriesOk
returns-in-Some c =
    let a = c.args in
    credited-at a.s.now _ _ _ a.n (id_of a.id) a.amount _ _ c.known-u.ensures.0 c.requires (rw c.in-Some.is at c.find_rank.ensures) c.settle.auto.s c.raise-w.ensures c.settle.ensures

pub returns-in_default : goal.returns-in_default
unfolding EntriesOk
returns-in_default c =
    let a = c.args in
    credited-not a.s.now _ a.n (id_of a.id) a.amount c.known-u.ensures.0 c.requires (rw c.in_default.is at c.find_rank.ensures)
