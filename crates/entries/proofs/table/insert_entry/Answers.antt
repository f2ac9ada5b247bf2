-- `table::insert_entry` meets its contract: a free slot is filled and takes its place (`inserted`). Assumes nothing.
use Rattle.entries.specs.Layout.{entry_of}
use Rattle.entries.specs.Changing.{inserted}
use Rattle.entries.proofs.table.insert_entry.Goals as goal

pub returns : goal.returns
unfolding entry_of
returns c =
    let a = c.args in
    inserted a.s.now _ _ _ _ a.n _ (entry_of a.e) c.known-u.ensures.0 c.free_slot-t.ensures c.free_slot-t.auto.s c.fill.auto.s c.settle.auto.s c.fill.ensures c.settle.ensures
