-- `listing::list_entry` meets its contract: the fields that were read are the row (`row_put`). Assumes nothing.
use Rattle.mempool.specs.Listing.{row_put}
use Rattle.mempool.proofs.listing.list_entry.Goals as goal

pub returns : goal.returns
returns c = rw c.put_words.ensures (row_put _ _ _ _ _ _ c.requires.1 c.id_at-id.ensures c.weight_at.ensures c.base_at.ensures)
