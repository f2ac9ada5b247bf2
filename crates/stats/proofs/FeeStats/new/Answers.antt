-- `FeeStats::new` meets its contract: the two repeats are the lists of 60 zeros.
-- Assumes nothing.
use mathlib.Core.Path.{refl}
use Rattle.stats.specs.Stats.{fresh}
use Rattle.stats.proofs.FeeStats.new.Goals as goal

pub returns : goal.returns
unfolding fresh
returns c = refl
