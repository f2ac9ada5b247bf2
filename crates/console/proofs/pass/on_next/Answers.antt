use Rattle.console.specs.Console.{altered}
use Rattle.console.specs.Laws.{after-pass}
use Rattle.peers.specs.Flat.{records}
use Rattle.console.proofs.pass.on_next.Goals as goal

pub returns : goal.returns
unfolding altered
returns c b k p a f s y = after-pass _ _ _ _ _ _ _ _ _ _ _ _ _ _ _ _ (c.next-offered.ensures.next_promise b k (records p) y.store) c.tell_offered.ensures
