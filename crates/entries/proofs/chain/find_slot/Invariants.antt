use Rattle.words.specs.Chains.{name_of}
use Rattle.entries.specs.Index.{Seeks}
use Rattle.entries.proofs.chain.find_slot.Given as goal

abbrev pub invariant-loop-next : goal.invariant-loop-next
invariant-loop-next l = Seeks l.s l.u l.id (name_of l.next)

abbrev pub decreases-loop-next : goal.decreases-loop-next
decreases-loop-next l = name_of l.next
