-- `resolved::answer_resolved` meets its contract. The loop's invariant: the inputs before slot `at` have the flags that are left, and say what all say (`Reading`). The measure is `at`. Assumes nothing.
use Rattle.std.specs.Prelude.{false}
use Rattle.indexes.specs.Resolved.{read_first, read_none, read-flag, read-fails, read-on}
use Rattle.indexes.proofs.resolved.answer_resolved.Goals as goal

pub loop-i-init : goal.loop-i-init
loop-i-init c = rw c.end-at.ensures (read_first _ _ _ _ _ c.args.boxes.now.fits)

pub returns-in_default-split_last : goal.returns-in_default-split_last
returns-in_default-split_last c = read-flag _ _ _ _ _ _ _ c.loop-i.invariant _ c.last_input.ensures.input_at c.last_input.ensures.last_input _ c.in-Some.is c.in_default-split_last.ensures.cases false

pub box_key-requires : goal.box_key-requires
box_key-requires c = (c.last_input.ensures.input_at.some _ c.in-Some.is).1

pub returns-then-not-resolved : goal.returns-then-not-resolved
returns-then-not-resolved c = read-fails _ _ _ _ _ _ _ c.loop-i.invariant _ c.last_input.ensures.input_at c.last_input.ensures.last_input _ c.in-Some.is _ _ _ c.in-Some-split_last.ensures.cases.0 c.box_key.ensures _ c.resolved.ensures c.if-not-resolved.true

pub loop-i-preserved : goal.loop-i-preserved
loop-i-preserved c = read-on _ _ _ _ _ _ _ c.loop-i.invariant _ c.last_input.ensures.input_at c.last_input.ensures.last_input _ c.in-Some.is _ _ _ c.in-Some-split_last.ensures.cases.0 c.box_key.ensures _ c.resolved.ensures c.if-not-resolved.false

pub returns : goal.returns
returns c = read_none _ _ _ _ _ _ _ c.loop-i.invariant _ c.last_input.ensures.input_at c.last_input.ensures.last_input c.in_default.is
