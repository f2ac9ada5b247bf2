use Rattle.process.specs.Words.{Loaded}
use Rattle.process.proofs.peer_words.load_peers.Given as goal

abbrev pub invariant-loop-i : goal.invariant-loop-i
invariant-loop-i l = Loaded l.words l.records l.i
