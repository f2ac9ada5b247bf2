-- `layout::load_state` meets its contract: it is made of its parts. Assumes nothing.
use Rattle.host.specs.State.{state_of}
use lib.ListN.{get_or}
use Rattle.host.proofs.layout.load_state.Goals as goal

pub returns : goal.returns
unfolding state_of
returns c = λ t. record { config = c.load_config-config.ensures t; counts = c.load_counts-counts.ensures t; cached = get_or c.args.s.now 11 0; sums = c.load_sums-sums.ensures t; pass = c.load_pass-pass.ensures t }
