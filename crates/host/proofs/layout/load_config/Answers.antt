-- `layout::load_config` meets its contract: the words that are read, beside the strategy. Assumes nothing.
use Rattle.host.specs.State.{config_of}
use lib.ListN.{get_or}
use Rattle.host.proofs.layout.load_config.Goals as goal

pub returns : goal.returns
unfolding config_of
returns c =
    let s = c.args.s.now in
    λ t. record {
      capacity = get_or s 0 0;
      min_fee = get_or s 1 0;
      fee_strategy = c.strategy_of-fee_strategy.ensures t;
      cleanup_interval = get_or s 3 0;
      rebroadcast_count = get_or s 4 0;
      invalidation_ttl = get_or s 5 0;
      invalidation_capacity = get_or s 6 0;
      cost_per_block = get_or s 7 0;
      cost_per_peer_per_block = get_or s 8 0;
    }
