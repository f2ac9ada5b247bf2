use Rattle.std.specs.Prelude.{true}
use Rattle.words.specs.Ids.{id_of}
use Rattle.boxes.specs.Records.{index}
use Rattle.boxes.specs.Views.{boxes_in}
use Rattle.indexes.specs.Resolved.{Reading}
use Rattle.indexes.proofs.resolved.answer_resolved.Given as goal

abbrev pub invariant-loop-i : goal.invariant-loop-i
invariant-loop-i l = Reading (index true (boxes_in l.boxes)) l.flags l.boxes.words.now l.boxes.records (id_of l.id) l.at l.left

abbrev pub decreases-loop-i : goal.decreases-loop-i
decreases-loop-i l = l.at
