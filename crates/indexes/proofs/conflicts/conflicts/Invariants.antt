use mathlib.Core.Bool.{false}
use Rattle.boxes.specs.Views.{boxes_in, KeptIn}
use Rattle.boxes.specs.Records.{index}
use Rattle.indexes.specs.Conflicts.{Listing}
use Rattle.indexes.proofs.conflicts.conflicts.Given as goal

abbrev pub invariant-loop-j : goal.invariant-loop-j
invariant-loop-j l = Listing (KeptIn l.boxes) (index false (boxes_in l.boxes)) l.inputs.width l.inputs.words.now l.initial.list l.list l.j l.count
