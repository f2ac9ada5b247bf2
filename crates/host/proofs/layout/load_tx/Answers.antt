-- `layout::load_tx` meets its contract: it is made of its parts. Assumes nothing.
use Rattle.host.specs.Changes.{tx_of}
use lib.ListN.{get_or}
use Rattle.host.proofs.layout.load_tx.Goals as goal

pub returns : goal.returns
unfolding tx_of
returns c =
    let s = c.args.s.now in
    λ t. record { id = c.get_id-id.ensures.words t; fee = get_or s 4 0; size = get_or s 5 0; cost = c.low_half-cost.ensures t; validation_cost = c.measured_of-validation_cost.ensures t; created = get_or s 9 0; last_checked = get_or s 10 0; source = c.source_of-source.ensures t }
