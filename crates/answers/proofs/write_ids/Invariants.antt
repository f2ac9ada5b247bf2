use Prim.Native.Nat.{◌+◌}
use lib.ListN.{drop}
use Rattle.boxes.specs.Views.{ids_in}
use Rattle.answers.specs.Answers.{Writing}
use Rattle.answers.proofs.write_ids.Given as goal

abbrev pub invariant-loop-i : goal.invariant-loop-i
invariant-loop-i l = Writing l.initial.answer l.answer l.at (l.at + l.i) (ids_in l.list) (drop l.i (ids_in l.list))
