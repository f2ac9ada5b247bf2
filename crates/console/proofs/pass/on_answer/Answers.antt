use Rattle.console.specs.Console.{altered}
use Rattle.console.specs.Laws.{after-pass}
use Rattle.peers.specs.Flat.{records}
use Rattle.console.proofs.pass.on_answer.Goals as goal

pub returns : goal.returns
unfolding altered
returns c n p a s y = after-pass _ _ _ _ _ _ _ _ _ _ _ _ _ _ _ _ (c.answer-answered.ensures.answer_promise (records p) y.store) c.tell_answered.ensures
