-- `height_key` meets its contract: the greater of what was seen and what is left is the key. Assumes nothing.
use Rattle.std.proofs.Common.{arith}
use Rattle.arguments.specs.Laws.{high-begins, high-next, high-ends}
use Rattle.arguments.proofs.height_key.Goals as goal

pub loop-i-init : goal.loop-i-init
loop-i-init c = high-begins _ _ _

pub loop-i-preserved : goal.loop-i-preserved
loop-i-preserved c = rw (c.max-key.ensures, c.height_order.ensures) (high-next _ _ _ _ _ c.loop-i.invariant (omega (arith, c.count_records-i-end.ensures)))

pub returns : goal.returns
returns c = high-ends _ _ _ _ _ c.loop-i.invariant (omega (arith, c.loop-i-test.false, c.count_records-i-end.ensures))
