use Rattle.words.specs.Ids.{id_of}
use Rattle.indexes.specs.Inputs.{Counting}
use Rattle.indexes.proofs.inputs.count_inputs.Given as goal

abbrev pub invariant-loop-i : goal.invariant-loop-i
invariant-loop-i l = Counting l.boxes.words.now l.boxes.records (id_of l.id) l.at l.count

abbrev pub decreases-loop-i : goal.decreases-loop-i
decreases-loop-i l = l.at
