use Rattle.boxes.specs.Compacting.{Moves}
use Rattle.boxes.proofs.records.compact.Given as goal

abbrev pub invariant-loop-from : goal.invariant-loop-from
invariant-loop-from l = Moves l.initial.s l.used l.s l.kept l.from
