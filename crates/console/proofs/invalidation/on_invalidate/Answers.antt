use Rattle.console.specs.Console.{altered}
use Rattle.console.specs.Laws.{after-done}
use Rattle.peers.specs.Flat.{records}
use Rattle.console.proofs.invalidation.on_invalidate.Goals as goal

pub returns : goal.returns
unfolding altered
returns c p a f s y = after-done _ _ _ _ _ _ _ _ _ _ _ _ _ _ _ _ _ (c.invalidate-done.ensures.invalidate_promise (records p) y.store) c.tell_invalidated.ensures
