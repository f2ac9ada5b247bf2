use Prim.Native.Nat.{◌-◌}
use Rattle.cleanup.specs.Passes.{pass_of}
use Rattle.cleanup.specs.Search.{Seeking}
use Rattle.cleanup.proofs.first_due.Given as goal

abbrev pub invariant-loop-i : goal.invariant-loop-i
invariant-loop-i l = Seeking l.entries.words.now l.entries.pooled l.interval (pass_of l.pass) l.i

abbrev pub decreases-loop-i : goal.decreases-loop-i
decreases-loop-i l = l.entries.pooled - l.i
