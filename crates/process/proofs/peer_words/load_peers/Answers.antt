-- `peer_words::load_peers` meets its contract: turn by turn one record more is read. Assumes nothing.
use mathlib.Core.Path.{refl}
use native.Mathlib.Omega.{arith}
use Rattle.process.specs.Words.{loaded-none, loaded-next}
use Rattle.process.proofs.peer_words.load_peers.Goals as goal

pub loop-i-init : goal.loop-i-init
loop-i-init c = loaded-none _ _ refl

pub loop-i-preserved : goal.loop-i-preserved
loop-i-preserved c = loaded-next _ _ _ c.loop-i.invariant (omega arith)
