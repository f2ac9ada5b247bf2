use Rattle.console.specs.Console.{altered}
use Rattle.console.specs.Laws.{after-pass}
use Rattle.peers.specs.Flat.{records}
use Rattle.console.proofs.pass.on_open.Goals as goal

pub returns : goal.returns
unfolding altered
returns c e b k p a f s y = after-pass _ _ _ _ _ _ _ _ _ _ _ _ _ _ _ _ (c.open-opened.ensures.open_promise e b k (records p) y.store) c.tell_opened.ensures
