-- `cleanup::first_due` meets its contract. The loop's invariant: from entry i on the same is found as from the first on. Assumes nothing.
use native.Mathlib.Omega.{arith}
use Rattle.cleanup.specs.Search.{seek-over, seek_stop, seek-take, seek-end}
use Rattle.cleanup.proofs.first_due.Goals as goal

pub loop-i-preserved : goal.loop-i-preserved
loop-i-preserved c = seek-over _ _ _ _ _ (omega arith) c.loop-i.invariant c.look_at.ensures c.in-Over.is

pub returns-then-len-i : goal.returns-then-len-i
returns-then-len-i c = seek-end _ _ _ _ _ (omega arith) c.loop-i.invariant

pub returns-in-Stop : goal.returns-in-Stop
returns-in-Stop c = seek_stop _ _ _ _ _ (omega arith) c.loop-i.invariant c.look_at.ensures c.in-Stop.is

pub returns-in-Take : goal.returns-in-Take
returns-in-Take c = seek-take _ _ _ _ _ (omega arith) c.loop-i.invariant c.look_at.ensures c.in-Take.is
