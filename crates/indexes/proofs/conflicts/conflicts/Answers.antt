-- `conflicts::conflicts` meets its contract. The loop's invariant is `Listing`: what is left to do gives what all inputs give. Assumes nothing.
use Rattle.indexes.specs.Conflicts.{list-none, list-more, list_all}
use native.Mathlib.Omega.{arith}
use Rattle.indexes.proofs.conflicts.conflicts.Goals as goal

pub loop-j-init : goal.loop-j-init
loop-j-init c = list-none _ _ _ _ _

pub loop-j-preserved : goal.loop-j-preserved
loop-j-preserved c = list-more _ _ _ _ _ _ _ _ _ _ _ (omega arith) c.add_conflict-count.auto.list c.id_at.ensures c.loop-j.invariant c.add_conflict-count.ensures.upper_bound c.add_conflict-count.ensures.added

pub returns-clause-listed : goal.returns-clause-listed
returns-clause-listed c = list_all _ _ _ _ _ _ _ _ (omega arith) c.loop-j.invariant
