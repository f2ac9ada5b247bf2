use Rattle.words.specs.Chains.{name_of}
use Rattle.entries.specs.Index.{Cuts}
use Rattle.entries.proofs.chain.cut_at.Given as goal

abbrev pub invariant-loop-below : goal.invariant-loop-below
invariant-loop-below l = Cuts l.s l.u l.b l.i (name_of l.above) (name_of l.below)

abbrev pub decreases-loop-below : goal.decreases-loop-below
decreases-loop-below l = name_of l.below
