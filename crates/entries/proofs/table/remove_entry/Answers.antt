-- `table::remove_entry` meets its contract: the entry goes behind the others and out of use (`removed-at`). Assumes nothing.
use native.Mathlib.Omega.{arith}
use Prim.Native.Nat.{◌-◌}
use Rattle.words.specs.Ids.{id_of}
use Rattle.entries.specs.Layout.{EntriesOk}
use Rattle.entries.specs.Held.{taken}
use Rattle.entries.specs.Changing.{removed-at, removed-not}
use Rattle.entries.proofs.table.remove_entry.Goals as goal

pub returns-clause-left : goal.returns-clause-left
unfolding EntriesOk
returns-clause-left c = let a = c.args in
    let low = c.find_rank.ensures.low _ c.in-Some.is in removed-at a.s.now _ a.n (id_of a.id) c.known-u.ensures.0 c.requires _ _ (a.n - 1) _ (omega (arith, low)) c.turn_out.auto.s c.clear.auto.s (rw c.in-Some.is at c.find_rank.ensures)
    (taken a.s.now _ (a.n - 1) _ (omega (arith, low)) c.turn_out.ensures (omega (arith, low, c.requires)))
    c.clear.ensures

pub returns-in_default-clause-left : goal.returns-in_default-clause-left
unfolding EntriesOk
returns-in_default-clause-left c = let a = c.args in removed-not a.s.now _ a.n (id_of a.id) c.known-u.ensures.0 c.requires (rw c.in_default.is at c.find_rank.ensures)
