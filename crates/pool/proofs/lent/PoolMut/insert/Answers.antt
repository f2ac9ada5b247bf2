-- `PoolMut::insert` meets its contract, from what its calls leave (`inserted`). Assumes nothing.
use native.Mathlib.Omega.{arith}
use Rattle.entries.specs.Layout.{entry_of}
use Rattle.entries.specs.Layout.{ok-bound as entries-bound, ok-still as entries-still}
use Rattle.pool.specs.Steps.{inserted}
use Rattle.pool.proofs.lent.PoolMut.insert.Goals as goal

pub overflow_add-self : goal.overflow_add-self
overflow_add-self c = omega (arith, entries-bound _ _ c.requires.entries)

pub invariant_of-self-2 : goal.invariant_of-self-2
invariant_of-self-2 c = record { fits = record { entries = entries-still _ _ _ _ c.requires.entries (omega arith) (omega arith); boxes = c.enter_tx-self.ensures.boxes_ok_2 } }

pub returns-clause-left : goal.returns-clause-left
unfolding entry_of
returns-clause-left c = λ k new. inserted _ _ _ _ _ _ _ _ _ c.enter_tx-self.ensures.boxes_ok_2 (c.insert_entry.ensures k.entries new) (c.enter_tx-self.ensures.entered k.boxes c.requires.free)
