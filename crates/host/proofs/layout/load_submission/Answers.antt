-- `layout::load_submission` meets its contract: it is made of its parts. Assumes nothing.
use Rattle.host.specs.State.{submission_of}
use lib.ListN.{get_or}
use Rattle.host.proofs.layout.load_submission.Goals as goal

pub returns : goal.returns
unfolding submission_of
returns c = let s = c.args.s.now in λ t. record { time = get_or s 0 0; id = c.get_id-id.ensures.words t; size = get_or s 5 0; preheader = c.low_half-preheader.ensures t; source = c.source_of-source.ensures t; verdict = c.verdict_of-verdict.ensures t }
