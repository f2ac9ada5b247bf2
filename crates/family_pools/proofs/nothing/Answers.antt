-- `nothing` is safe: counts of none fit any words.
use Rattle.std.proofs.Common.{arith}
use Rattle.entries.specs.Layout.{ok-room}
use Rattle.boxes.specs.Layout.{room-ok}
use Rattle.family_pools.proofs.nothing.Goals as goal

pub invariant_of-result : goal.invariant_of-result
invariant_of-result c = record { fits = record { entries = ok-room _ _ (omega arith); boxes = room-ok _ _ (omega arith) } }
