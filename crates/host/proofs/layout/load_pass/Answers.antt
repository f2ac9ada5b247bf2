-- `layout::load_pass` meets its contract: the flags and words that are read, beside the id and the low half. Assumes nothing.
use Rattle.host.specs.State.{pass_of}
use Rattle.arguments.specs.Arguments.{flagged}
use lib.ListN.{get_or}
use Rattle.host.proofs.layout.load_pass.Goals as goal

pub returns : goal.returns
unfolding pass_of
returns c = let s = c.args.s.now in λ t. record { «open» = flagged (get_or s 14 0); out = flagged (get_or s 15 0); candidate = c.get_id-candidate.ensures.words t; time = get_or s 20 0; limit = get_or s 21 0; preheader = c.low_half-preheader.ensures t; spent = get_or s 23 0 }
