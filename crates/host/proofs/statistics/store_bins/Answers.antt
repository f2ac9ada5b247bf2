-- `statistics::store_bins` meets its contract: each turn copies one word more (`storing-more`). Assumes nothing.
use native.Mathlib.Omega.{arith}
use Rattle.host.specs.Statistics.{storing-more}
use Rattle.host.proofs.statistics.store_bins.Goals as goal

pub loop-i-preserved : goal.loop-i-preserved
loop-i-preserved c = storing-more _ _ _ _ _ (omega arith) (omega arith) c.loop-i.invariant
