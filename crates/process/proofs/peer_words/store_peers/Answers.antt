-- `peer_words::store_peers` meets its contract: turn by turn one record more is stored. Assumes nothing.
use native.Mathlib.Omega.{arith}
use Rattle.process.specs.Words.{stored-none, stored_next, stored-all}
use Rattle.process.proofs.peer_words.store_peers.Goals as goal

pub loop-i-init : goal.loop-i-init
loop-i-init c = stored-none _ _

pub loop-i-preserved : goal.loop-i-preserved
loop-i-preserved c = stored_next _ _ _ _ c.loop-i.invariant (omega arith) (omega arith)

pub returns : goal.returns
returns c = (stored-all _ _ _ _ c.loop-i.invariant (omega arith), omega arith)
