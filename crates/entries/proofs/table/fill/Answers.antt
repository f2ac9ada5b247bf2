-- `table::fill` meets its contract (`filled_at`). Assumes nothing.
use Rattle.entries.specs.Layout.{entry_of}
use Rattle.entries.specs.Held.{filled_at}
use Rattle.entries.proofs.table.fill.Goals as goal

pub returns : goal.returns
returns c =
    let a = c.args in
    filled_at a.s.now _ _ a.u a.n _ (entry_of a.e) c.slot_at-i.ensures.0 c.requires.0 c.requires.1 c.put_entry.ensures c.link_in.ensures
