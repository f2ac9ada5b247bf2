use mathlib.Core.Bool.{true}
use Rattle.boxes.specs.Records.{index}
use Rattle.boxes.specs.Views.{boxes_in, KeptIn}
use Rattle.indexes.specs.Resolved.{Submitting}
use Rattle.indexes.proofs.resolved.inputs_resolved.Given as goal

abbrev pub invariant-loop-j : goal.invariant-loop-j
invariant-loop-j l = Submitting (KeptIn l.boxes) (index true (boxes_in l.boxes)) l.inputs l.j
