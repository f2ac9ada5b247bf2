-- `statistics::store_stats` meets its contract: both kinds of bins and the four words are stored (`restored`). Assumes nothing.
use Rattle.host.specs.Statistics.{restored}
use Rattle.host.proofs.statistics.store_stats.Goals as goal

pub returns : goal.returns
returns c = restored _ _ c.requires (c.store_bins.ensures.bins_len, c.store_bins-2.ensures.bins_len) _ _ c.store_bins.ensures.s_after c.store_bins-2.ensures.s_after
