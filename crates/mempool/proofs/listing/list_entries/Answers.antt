-- `listing::list_entries` meets its contract. The loop's invariant: the rows of the entries passed (`Laying`). Assumes nothing.
use Rattle.mempool.specs.Listing.{laying-none, laying-more, laying-all}
use native.Mathlib.Omega.{arith}
use Rattle.mempool.proofs.listing.list_entries.Goals as goal

pub loop-i-init : goal.loop-i-init
loop-i-init c = laying-none _ _

pub loop-i-preserved : goal.loop-i-preserved
loop-i-preserved c = laying-more _ _ _ _ _ c.loop-i.invariant c.list_entry.ensures

pub returns : goal.returns
returns c = laying-all _ _ _ _ _ (omega arith) c.loop-i.invariant
