use Rattle.std.specs.Prelude.{◌-◌}
use Rattle.words.specs.Ids.{id_of}
use Rattle.entries.specs.Ranks.{Halves}
use Rattle.entries.proofs.order.rank.Given as goal

abbrev pub invariant-loop-lo : goal.invariant-loop-lo
invariant-loop-lo l = Halves l.s l.n l.weight (id_of l.id) l.lo l.hi

abbrev pub decreases-loop-lo : goal.decreases-loop-lo
decreases-loop-lo l = l.hi - l.lo
