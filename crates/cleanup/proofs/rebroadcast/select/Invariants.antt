use Rattle.boxes.specs.Views.{ids_in}
use Rattle.cleanup.specs.Selecting.{Selecting}
use Rattle.cleanup.proofs.rebroadcast.select.Given as goal

abbrev pub invariant-loop-i : goal.invariant-loop-i
invariant-loop-i l = Selecting l.initial.answer l.answer l.most (ids_in l.confirmed) l.pool.boxes.now l.pool.counts.records l.pool.entries.now l.pool.counts.pooled l.i l.n
