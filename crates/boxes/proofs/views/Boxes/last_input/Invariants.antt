use Rattle.words.specs.Chains.{name_of}
use Rattle.boxes.specs.Searching.{Lasts}
use Rattle.boxes.proofs.views.Boxes.last_input.Given as goal

abbrev pub invariant-loop-next : goal.invariant-loop-next
invariant-loop-next l = Lasts l.self.words.now l.used l.owner l.below (name_of l.next)

abbrev pub decreases-loop-next : goal.decreases-loop-next
decreases-loop-next l = name_of l.next
