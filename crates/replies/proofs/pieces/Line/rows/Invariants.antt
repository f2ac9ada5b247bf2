use Prim.Native.Nat.{◌+◌, ◌*◌, ◌≤◌}
use mathlib.Core.Path.{◌≡◌}
use lib.ListN.{length, drop}
use Rattle.words.specs.Lists.{flat}
use Rattle.mempool.specs.Listing.{rows_of}
use Rattle.replies.specs.Replies.{row_text}
use Rattle.replies.specs.ReplyLaws.{Printing}
use Rattle.replies.proofs.pieces.Line.rows.Given as goal

abbrev pub invariant-loop-i : goal.invariant-loop-i
invariant-loop-i l = record {
  same : l.self.bytes.ghost_name ≡ l.initial.self.bytes.ghost_name;
  room : l.self.len ≤ l.initial.self.len + 109 * l.i;
  kept : length l.self.bytes.now ≡ length l.initial.self.bytes.now;
  printed : Printing (flat row_text (rows_of l.words l.n)) (flat row_text (drop l.i (rows_of l.words l.n))) l.initial.self.len l.initial.self.bytes.now l.self.bytes.now l.self.len;
}
