use Rattle.indexes.specs.Spent.{Spending}
use Rattle.indexes.proofs.conflicts.any_spent.Given as goal

abbrev pub invariant-loop-j : goal.invariant-loop-j
invariant-loop-j l = Spending l.inputs.width l.inputs.words.now l.boxes.words.now l.boxes.records l.j
