-- `find_peer` meets its contract: the record that is found is the first of the peer's (`stands`). Assumes nothing.
use Rattle.std.proofs.Common.{◌∙◌}
use Rattle.peers.specs.Laws.{stands}
use Rattle.peers.proofs.find_peer.Goals as goal

pub returns-in_err-at : goal.returns-in_err-at
returns-in_err-at c = c.from_residual.ensures ∙ stands _ _ _ c.requires _ c.in_err-at.ensures.first

pub returns : goal.returns
returns c = stands _ _ _ c.requires _ c.in_ok-at.ensures.first
