-- `rebroadcast::select` meets its contract. The loop's invariant: of the entries looked at, those that qualify were written. Assumes nothing.
use native.Mathlib.Omega.{arith}
use mathlib.Core.Path.{refl}
use Rattle.cleanup.specs.Selecting.{selecting-none, selecting-more, selecting-full, selecting-all}
use Rattle.cleanup.proofs.rebroadcast.select.Goals as goal

pub loop-i-init : goal.loop-i-init
loop-i-init c = selecting-none _ _ _ _ _ _ _

pub returns-then-most-n-clause-selected : goal.returns-then-most-n-clause-selected
returns-then-most-n-clause-selected c = selecting-full _ _ _ _ _ _ c.loop-i.invariant _ refl refl (omega arith)

pub loop-i-preserved : goal.loop-i-preserved
loop-i-preserved c = selecting-more _ _ _ _ _ _ c.loop-i.invariant (omega arith) (omega arith) (omega arith) c.select_one-n.ensures.upper_bound c.select_one-n.ensures.selected_one

pub returns-clause-selected : goal.returns-clause-selected
returns-clause-selected c = selecting-all _ _ _ _ _ _ c.loop-i.invariant _ refl refl (omega arith)
