-- `table::remove_lowest` meets its contract: the slot of the last rank goes out of use (`lowest-out`). Assumes nothing.
use native.Mathlib.Omega.{arith}
use Prim.Native.Nat.{◌-◌}
use Rattle.entries.specs.Layout.{EntriesOk}
use Rattle.entries.specs.Changing.{lowest-out}
use Rattle.entries.proofs.table.remove_lowest.Goals as goal

pub returns : goal.returns
unfolding EntriesOk
returns c =
    let a = c.args in
    lowest-out a.s.now _ a.n 0 c.known-u.ensures.0 c.requires.entries_ok _ (a.n - 1) (omega (arith, c.requires.n_nonzero)) c.clear.auto.s c.clear.ensures
