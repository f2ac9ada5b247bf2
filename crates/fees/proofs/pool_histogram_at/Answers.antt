-- `pool_histogram_at` meets its contract, test by test. Assumes nothing.
use Prim.Native.Nat.{◌+◌, ◌/◌, ◌≤◌, ◌<◌}
use native.Mathlib.Omega.{arith}
use lib.ListN.{length}
use Rattle.entries.specs.Layout.{entries_room}
use Rattle.fees.proofs.Laws.{histogram-entries, histogram-short, histogram-drawn, drawn-refused, drawn-listed}
use Rattle.fees.proofs.pool_histogram_at.Goals as goal

pub returns-then-entries_room-mempool : goal.returns-then-entries_room-mempool
returns-then-entries_room-mempool c = drawn-refused _ _ _ (histogram-entries _ _ _ _ _ _ (omega arith))

pub returns-then-answer-n : goal.returns-then-answer-n
returns-then-answer-n c =
    let a = c.args in
    let short : length a.answer.now / 2 < a.bins + 1 = omega arith in
    drawn-refused _ _ _ (histogram-short _ _ _ _ _ _ (omega arith) short)

pub returns : goal.returns
returns c =
    let s = c in
    let a = s.args in
    let some : 0 < a.bins = omega (arith, s.if-bins-eq0.false) in
    let long : a.bins ≤ a.longest = omega (arith, s.if-longest-bins.false) in
    let room : a.bins + 1 ≤ length a.answer.now / 2 = omega (arith, s.if-answer-n.false) in
    let pooled : a.mempool.counts.pooled ≤ entries_room a.entries.now = omega (arith, s.if-entries_room-mempool.false, s.entries_room.ensures) in
    let counted = rw (c.new-entries.ensures.0, c.new-entries.ensures.1) at c.add_entries.ensures in
    drawn-listed _ _ _ _ _ _ _ _ _ _ (omega arith) (histogram-drawn _ _ _ _ _ _ pooled room some long) c.clear_bins.ensures counted
