use Rattle.words.specs.Ids.{id_of}
use Rattle.indexes.specs.Seeking.{Seeking}
use Rattle.indexes.proofs.inputs.last_parent.Given as goal

abbrev pub invariant-loop-i : goal.invariant-loop-i
invariant-loop-i l = Seeking l.boxes.words.now l.boxes.records (id_of l.id) l.bound l.at

abbrev pub decreases-loop-i : goal.decreases-loop-i
decreases-loop-i l = l.at
