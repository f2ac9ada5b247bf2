use Rattle.mempool.specs.Listing.{Laying}
use Rattle.mempool.proofs.listing.list_entries.Given as goal

abbrev pub invariant-loop-i : goal.invariant-loop-i
invariant-loop-i l = Laying l.entries.words.now l.initial.answer l.answer l.i
