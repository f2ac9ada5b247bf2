-- `family::turn` meets its contract: each way out is a turn of the walk (`stopped`, `popped`, `went_up`). Assumes nothing.
use Rattle.std.proofs.Common.{arith, refl}
use Rattle.boxes.specs.Layout.{rows_bound}
use Rattle.family.specs.Steps.{popped, went_up}
use Rattle.family.proofs.turn.Goals as goal

pub returns-in-None-clause-turned : goal.returns-in-None-clause-turned
returns-in-None-clause-turned c k b = popped _ _ _ _ _ _ c.requires.depth_nonzero.0 (omega arith) _ _ _ refl (c.last_parent.ensures b) c.in-None.is k

pub returns-else-w-eq0-clause-turned : goal.returns-else-w-eq0-clause-turned
returns-else-w-eq0-clause-turned c k b =
    went_up _ _ _ _ _ _ c.requires.depth_nonzero.0 (omega arith) _ _ _ refl (c.last_parent.ensures b) _ (rows_bound _ _ c.args.boxes.now.fits) _ c.in-Some.is c.if-w-eq0.false _ _ (c.visit.ensures k)
