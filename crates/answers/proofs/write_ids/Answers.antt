-- `answers::write_ids` meets its contract. The loop's invariant: writing the ids that are left gives what writing all of them gave at the
-- beginning (`Writing`). Assumes nothing.
use native.Mathlib.Nat.{add_assoc}
use Rattle.words.specs.Tables.{drop_of, drop_past}
use Rattle.boxes.specs.Flat.{ids}
use Rattle.answers.specs.Answers.{writing_more, writing-all}
use Rattle.answers.proofs.write_ids.Goals as goal

pub loop-i-preserved : goal.loop-i-preserved
loop-i-preserved c =
    let list = c.args.list.now in
    let rest = drop_of (ids list.width) list.words.now _ _ (rw c.len-i-end.ensures at c.loop-i-test.true) in
    rw (← add_assoc c.args.at c.loop-i.i 1) (writing_more (rw (rest, ← c.id_at.ensures) at c.loop-i.invariant) c.write_id.ensures)

pub returns : goal.returns
returns c = writing-all (rw (drop_past (ids c.args.list.now.width) _ _ _ (rw c.len-i-end.ensures at c.loop-i-test.false)) at c.loop-i.invariant)
