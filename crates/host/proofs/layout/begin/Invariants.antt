use Rattle.host.specs.Starts.{Beginning}
use Rattle.host.proofs.layout.begin.Given as goal

abbrev pub invariant-loop-i : goal.invariant-loop-i
invariant-loop-i l = Beginning l.settings l.initial.s l.s l.i
