use Prim.Native.Nat.{◌+◌, ◌*◌, ◌≤◌}
use mathlib.Core.Path.{◌≡◌}
use lib.ListN.{length, drop}
use Rattle.words.specs.Lists.{flat}
use Rattle.boxes.specs.Flat.{ids_to}
use Rattle.replies.specs.Replies.{spaced}
use Rattle.replies.specs.ReplyLaws.{Printing}
use Rattle.replies.proofs.pieces.Line.ids.Given as goal

abbrev pub invariant-loop-i : goal.invariant-loop-i
invariant-loop-i l = record {
  same : l.self.bytes.ghost_name ≡ l.initial.self.bytes.ghost_name;
  room : l.self.len ≤ l.initial.self.len + 65 * l.i;
  kept : length l.self.bytes.now ≡ length l.initial.self.bytes.now;
  printed : Printing (flat spaced (drop l.from (ids_to l.list.width l.list.words.now l.n))) (flat spaced (drop l.i (ids_to l.list.width l.list.words.now l.n))) l.initial.self.len l.initial.self.bytes.now l.self.bytes.now l.self.len;
}
