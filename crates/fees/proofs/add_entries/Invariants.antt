use Prim.Native.Nat.{◌+◌}
use Rattle.entries.specs.Layout.{entries_of}
use Rattle.fees.specs.Fees.{binned}
use Rattle.fees.specs.Bins.{bins_of, Laid}
use Rattle.fees.proofs.add_entries.Given as goal

abbrev pub invariant-loop-i : goal.invariant-loop-i
invariant-loop-i l = Laid l.initial.answer l.answer (l.bins + 1) (binned l.bins l.longest l.time (entries_of l.entries.words.now l.i) (bins_of l.initial.answer (l.bins + 1)))
