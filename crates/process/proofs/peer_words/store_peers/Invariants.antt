use Rattle.process.specs.Words.{Stored}
use Rattle.process.proofs.peer_words.store_peers.Given as goal

abbrev pub invariant-loop-i : goal.invariant-loop-i
invariant-loop-i l = Stored l.initial.words l.words l.records l.i
