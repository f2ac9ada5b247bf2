-- `inputs::all_listed` meets its contract. The loop's invariant: the inputs before slot `at` say what all say (`Checking`). The measure is `at`. Assumes nothing.
use mathlib.Core.Path.{sym, ◌∙◌}
use Rattle.indexes.specs.Inputs.{check-first, check-none, check-fails, check-on}
use Rattle.indexes.proofs.inputs.all_listed.Goals as goal

pub loop-i-init : goal.loop-i-init
loop-i-init c = rw c.end-at.ensures (check-first _ _ _ _ c.args.boxes.now.fits)

pub box_key-requires : goal.box_key-requires
box_key-requires c = (c.last_input.ensures.input_at.some _ c.in-Some.is).1

pub returns-then-not-has : goal.returns-then-not-has
returns-then-not-has c = check-fails _ _ _ _ _ c.loop-i.invariant _ c.last_input.ensures.input_at c.last_input.ensures.last_input _ _ c.in-Some.is c.box_key.ensures (sym c.has.ensures ∙ c.if-not-has.true)

pub loop-i-preserved : goal.loop-i-preserved
loop-i-preserved c = check-on _ _ _ _ _ c.loop-i.invariant _ c.last_input.ensures.input_at c.last_input.ensures.last_input _ _ c.in-Some.is c.box_key.ensures (sym c.has.ensures ∙ c.if-not-has.false)

pub returns : goal.returns
returns c = check-none _ _ _ _ _ c.loop-i.invariant _ c.last_input.ensures.input_at c.last_input.ensures.last_input c.in_default.is
