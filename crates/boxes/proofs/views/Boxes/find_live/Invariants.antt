use Rattle.words.specs.Chains.{name_of}
use Rattle.boxes.specs.Searching.{Keeps}
use Rattle.boxes.proofs.views.Boxes.find_live.Given as goal

abbrev pub invariant-loop-next : goal.invariant-loop-next
invariant-loop-next l = Keeps l.self.words.now l.used l.out l.key (name_of l.found) (name_of l.next)

abbrev pub decreases-loop-next : goal.decreases-loop-next
decreases-loop-next l = name_of l.next
