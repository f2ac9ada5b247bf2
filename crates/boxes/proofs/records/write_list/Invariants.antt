use mathlib.Core.Path.{◌≡◌}
use lib.ListN.{length}
use Rattle.words.specs.Ids.{id_of}
use Rattle.boxes.specs.Writing.{Wrote}
use Rattle.boxes.proofs.records.write_list.Given as goal

abbrev pub invariant-loop-i : goal.invariant-loop-i
invariant-loop-i l = (length l.free ≡ length l.initial.free) × Wrote l.initial.free l.free l.at l.i (id_of l.owner) l.out l.list.width l.list.words.now
