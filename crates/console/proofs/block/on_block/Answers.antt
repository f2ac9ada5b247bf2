use native.Mathlib.Omega.{arith}
use Rattle.std.proofs.Common.{refl}
use Rattle.console.specs.Console.{altered}
use Rattle.console.specs.Laws.{says-applied, after-applied}
use Rattle.peers.specs.Flat.{records}
use Rattle.console.proofs.block.on_block.Goals as goal

pub returns : goal.returns
unfolding altered
returns c p y =
    after-applied _ _ _ _ _ _ _ _ _ _ _ _ (c.apply_block_by_value-done.ensures.block_promise (records p) y.store) (says-applied _ _ _ _ _ _ _) _ _ _
    (record { ready = refl; mempool = refl; stats = refl; written = omega (arith, c.min-written.ensures, c.removed_of.ensures); prints = c.tell_removed.ensures })
