use Rattle.console.specs.Console.{altered}
use Rattle.console.specs.Laws.{after-done}
use Rattle.peers.specs.Flat.{records}
use Rattle.console.proofs.returning.on_return.Goals as goal

pub returns : goal.returns
unfolding altered
returns c k p a y = rw (← c.unconfirmed_of-tx.ensures) (after-done _ _ _ _ _ _ _ _ _ _ _ _ _ _ _ _ _ (c.return_to_pool-done.ensures.return_promise k (records p) y.store) c.tell_returned.ensures)
