use Rattle.words.specs.Chains.{name_of}
use Rattle.boxes.specs.Leaving.{Leaves}
use Rattle.boxes.proofs.records.leave_all.Given as goal

abbrev pub invariant-loop-next : goal.invariant-loop-next
invariant-loop-next l = Leaves l.initial.s l.used l.n l.owner l.s l.left (name_of l.next)

abbrev pub decreases-loop-next : goal.decreases-loop-next
decreases-loop-next l = name_of l.next
