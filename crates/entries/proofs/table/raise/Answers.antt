-- `table::raise` meets its contract: a word of the rank's slot is written (`raised_at`). Assumes nothing.
use native.Mathlib.Omega.{arith}
use Rattle.entries.specs.Crediting.{raised_at}
use Rattle.entries.proofs.table.raise.Goals as goal

pub returns : goal.returns
returns c =
    let a = c.args in
    raised_at a.s.now _ a.at a.amount _ _ _ c.requires c.slot_at-i.ensures.0 c.get.ensures (omega arith) c.saturating_add-w.ensures c.put.ensures
