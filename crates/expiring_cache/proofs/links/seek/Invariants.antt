use Rattle.words.specs.Chains.{name_of}
use Rattle.expiring_cache.specs.Seeking.{Seeks}
use Rattle.expiring_cache.proofs.links.seek.Given as goal

abbrev pub invariant-loop-next : goal.invariant-loop-next
invariant-loop-next l = Seeks l.cache l.first l.n l.id (name_of l.next)

abbrev pub decreases-loop-next : goal.decreases-loop-next
decreases-loop-next l = name_of l.next
