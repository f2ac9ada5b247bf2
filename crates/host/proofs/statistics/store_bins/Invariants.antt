use Rattle.host.specs.Statistics.{Storing}
use Rattle.host.proofs.statistics.store_bins.Given as goal

abbrev pub invariant-loop-i : goal.invariant-loop-i
invariant-loop-i l = Storing l.initial.s l.at l.bins l.s l.i
