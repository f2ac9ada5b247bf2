use Rattle.words.specs.Chains.{name_of}
use Rattle.boxes.specs.Hiding.{Hides}
use Rattle.boxes.proofs.records.hide_all.Given as goal

abbrev pub invariant-loop-next : goal.invariant-loop-next
invariant-loop-next l = Hides l.initial.s l.n l.out l.key l.s (name_of l.next)

abbrev pub decreases-loop-next : goal.decreases-loop-next
decreases-loop-next l = name_of l.next
