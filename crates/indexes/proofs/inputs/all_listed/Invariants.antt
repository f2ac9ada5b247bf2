use Rattle.words.specs.Ids.{id_of}
use Rattle.boxes.specs.Views.{ids_in}
use Rattle.indexes.specs.Inputs.{Checking}
use Rattle.indexes.proofs.inputs.all_listed.Given as goal

abbrev pub invariant-loop-i : goal.invariant-loop-i
invariant-loop-i l = Checking (ids_in l.list) l.boxes.words.now l.boxes.records (id_of l.id) l.at

abbrev pub decreases-loop-i : goal.decreases-loop-i
decreases-loop-i l = l.at
