-- `contests::weigh` meets its contract. The loop's invariant: the sum so far is in bounds (`Weighty`), and with the weights that are left it
-- is the whole sum (`Weighing`). Assumes nothing.
use native.Mathlib.Omega.{arith}
use Rattle.admit.specs.Contests.{weighty-none, weighty-room, weighty-more, weighing-none, weighing-more, weighing-all}
use Rattle.admit.proofs.contests.weigh.Goals as goal

pub loop-i-init : goal.loop-i-init
loop-i-init c = (weighty-none _, λ k. weighing-none _ _ _ _)

pub add_word-sum-requires : goal.add_word-sum-requires
add_word-sum-requires c = weighty-room _ _ _ (omega arith) c.requires c.loop-i.invariant.0

pub loop-i-preserved : goal.loop-i-preserved
loop-i-preserved c =
    let w = c.loop-i.invariant in (
      weighty-more _ _ _ _ _ (omega arith) w.0 (omega arith) c.add_word-sum.ensures,
      λ k. weighing-more _ _ _ _ _ _ _ _ _ (omega arith) (w.1 k) c.id_at.ensures (c.weight_of.ensures k) c.add_word-sum.ensures,
    )

pub returns : goal.returns
returns c k = weighing-all _ _ _ _ _ _ (omega arith) (c.loop-i.invariant.1 k)
