use Rattle.expiring_cache.specs.Gathering.{Gathers}
use Rattle.expiring_cache.proofs.gather.Given as goal

abbrev pub invariant-loop-i : goal.invariant-loop-i
invariant-loop-i l = Gathers l.initial.cache l.first l.n l.ttl l.time l.cache l.w l.i
