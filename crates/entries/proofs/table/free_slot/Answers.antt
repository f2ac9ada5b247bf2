-- `table::free_slot` meets its contract: a slot more is known, not in use, and the rank behind the others names it (`grown-at`). Assumes nothing.
use native.Mathlib.Omega.{arith}
use mathlib.Core.Path.{refl}
use Rattle.entries.specs.Changing.{grown-at}
use Rattle.entries.proofs.table.free_slot.Goals as goal

pub returns : goal.returns
returns c =
    let a = c.args in
    grown-at a.s.now _ _ _ a.u a.n _ _ _ c.slots-end.ensures c.requires.0 c.if-n-u.false (omega (arith, c.requires, c.if-n-u.false)) refl refl c.put.ensures c.put_raw.ensures c.put_raw-2.ensures
