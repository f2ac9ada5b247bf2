-- `conflicts::any_spent` meets its contract. The loop's invariant: the boxes from the j-th on say what all say (`Spending`). Assumes nothing.
use Rattle.indexes.specs.Spent.{spend-hit, spend-miss, spend-end}
use native.Mathlib.Omega.{arith}
use Rattle.indexes.proofs.conflicts.any_spent.Goals as goal

pub returns-then-is_spent : goal.returns-then-is_spent
returns-then-is_spent c = spend-hit _ _ _ _ _ _ _ (omega arith) c.id_at.ensures c.loop-j.invariant c.is_spent.ensures c.if-is_spent.true

pub loop-j-preserved : goal.loop-j-preserved
loop-j-preserved c = spend-miss _ _ _ _ _ _ _ (omega arith) c.id_at.ensures c.loop-j.invariant c.is_spent.ensures c.if-is_spent.false

pub returns : goal.returns
returns c = spend-end _ _ _ _ _ (omega arith) c.loop-j.invariant
