-- `statistics::load_stats` meets its contract: both kinds of bins and the four words are read. Assumes nothing.
use lib.ListN.{get_or}
use Rattle.host.specs.Statistics.{stats_of}
use Rattle.host.proofs.statistics.load_stats.Goals as goal

pub returns : goal.returns
unfolding stats_of
returns c =
    let s = c.args.s.now in
    λ t. record { counts = c.load_bins-counts.ensures t; totals = c.load_bins-totals.ensures t; window_start = get_or s 120 0; taken = get_or s 121 0; snap_time = get_or s 122 0; snap_taken = get_or s 123 0 }
