-- `layout::store_left` meets its contract: five words, by two calls and a store (`left-parts`). Assumes nothing.
use native.Mathlib.Omega.{arith}
use Rattle.host.specs.State.{left-parts}
use Rattle.host.proofs.layout.store_left.Goals as goal

pub returns : goal.returns
returns c = left-parts _ _ _ _ _ _ _ c.store_counts.ensures (omega arith) c.store_sums.ensures
