-- `returns::enter` meets its contract: counts that leave room for one more fit. Assumes nothing.
use Rattle.std.proofs.Common.{refl, arith}
use Rattle.entries.specs.Layout.{ok-still}
use Rattle.returns.proofs.enter.Goals as goal

pub invariant_of-pool : goal.invariant_of-pool
invariant_of-pool c = record { fits = record { entries = ok-still _ _ _ _ c.requires.entries refl (omega arith); boxes = c.requires.boxes } }
