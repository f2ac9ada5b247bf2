-- `inputs::count_inputs` meets its contract. The loop's invariant: those counted and those before slot `at` are all (`Counting`). The measure is `at`. Assumes nothing.
use Rattle.indexes.specs.Inputs.{count-first, count_none, count-more}
use Rattle.indexes.proofs.inputs.count_inputs.Goals as goal

pub loop-i-init : goal.loop-i-init
loop-i-init c = rw c.end-at.ensures (count-first _ _ _ c.args.boxes.now.fits)

pub loop-i-smaller : goal.loop-i-smaller
loop-i-smaller c = (c.last_input.ensures.input_at.some _ c.in-Some.is).0

pub loop-i-preserved : goal.loop-i-preserved
loop-i-preserved c = count-more _ _ _ _ _ c.loop-i.invariant _ c.last_input.ensures.input_at c.last_input.ensures.last_input _ c.in-Some.is

pub returns : goal.returns
returns c = count_none _ _ _ _ _ c.loop-i.invariant _ c.last_input.ensures.input_at c.last_input.ensures.last_input c.in_default.is
