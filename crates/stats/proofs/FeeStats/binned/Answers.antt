-- `FeeStats::binned` meets its contract: the two stores, where the minute has a bin, and nothing where it has none.
-- Assumes nothing.
use borrow.Author.Tests.{lt-ltb, le-ltb}
use Rattle.stats.specs.Stats.{binned}
use Rattle.stats.proofs.FeeStats.binned.Goals as goal

pub returns-then-minute-lt-HISTOGRAM_BINS : goal.returns-then-minute-lt-HISTOGRAM_BINS
unfolding binned
returns-then-minute-lt-HISTOGRAM_BINS c = simp (lt-ltb _ _ c.if-minute-lt-HISTOGRAM_BINS.true, c.saturating_add.ensures, c.saturating_add-then-minute-lt-HISTOGRAM_BINS.ensures)

pub returns-else-minute-lt-HISTOGRAM_BINS : goal.returns-else-minute-lt-HISTOGRAM_BINS
unfolding binned
returns-else-minute-lt-HISTOGRAM_BINS c = simp (le-ltb _ _ c.if-minute-lt-HISTOGRAM_BINS.false)
