-- `family::visit` meets its contract, from what its calls leave (`visited`). Assumes nothing.
use Rattle.std.proofs.Common.{arith}
use Rattle.family.specs.Steps.{visited}
use Rattle.family.proofs.visit.Goals as goal

pub returns : goal.returns
returns c k = visited _ _ _ _ _ _ _ _ _ _ c.requires.depth_nonzero.0 (omega arith) (c.credit_entry.ensures k) c.end-bound.ensures
