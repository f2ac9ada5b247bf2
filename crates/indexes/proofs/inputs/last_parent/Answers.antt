-- `inputs::last_parent` meets its contract. The loop's invariant: the slots before `at` give the answer that those before `bound` give (`Seeking`). The measure is `at`. Assumes nothing.
use Rattle.indexes.specs.Seeking.{seek-none, seek_hit, seek-miss}
use Rattle.indexes.proofs.inputs.last_parent.Goals as goal

pub box_key-requires : goal.box_key-requires
box_key-requires c = (c.last_input.ensures.input_at.some _ c.in-Some.is).1

pub returns-in-Some-producer : goal.returns-in-Some-producer
returns-in-Some-producer c = seek_hit _ _ _ _ _ c.loop-i.invariant _ c.last_input.ensures.input_at c.last_input.ensures.last_input _ _ c.in-Some.is c.box_key.ensures _ c.producer.ensures _ c.in-Some-producer.is

pub loop-i-preserved : goal.loop-i-preserved
loop-i-preserved c = seek-miss _ _ _ _ _ c.loop-i.invariant _ c.last_input.ensures.input_at c.last_input.ensures.last_input _ _ c.in-Some.is c.box_key.ensures _ c.producer.ensures c.in_default-producer.is

pub returns : goal.returns
returns c = seek-none _ _ _ _ _ c.loop-i.invariant _ c.last_input.ensures.input_at c.last_input.ensures.last_input c.in_default.is
