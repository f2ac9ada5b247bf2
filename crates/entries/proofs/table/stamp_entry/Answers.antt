-- `table::stamp_entry` meets its contract: words of the slot that was found are written (`stamped-at`). Assumes nothing.
use Rattle.words.specs.Ids.{id_of}
use Rattle.entries.specs.Layout.{EntriesOk}
use Rattle.entries.specs.Crediting.{stamped-at, stamped-not}
use Rattle.entries.proofs.table.stamp_entry.Goals as goal

pub returns-in-Some : goal.returns-in-Some
unfolding EntriesOk
returns-in-Some c =
    let a = c.args in
    stamped-at a.s.now _ _ a.n (id_of a.id) _ a.cost a.time c.known.ensures.0 c.requires (rw c.in-Some.is at c.find_slot.ensures) c.put_stamp.ensures

pub returns-in_default : goal.returns-in_default
unfolding EntriesOk
returns-in_default c =
    let a = c.args in
    stamped-not a.s.now _ a.n (id_of a.id) a.cost a.time c.known.ensures.0 c.requires (rw c.in_default.is at c.find_slot.ensures)
