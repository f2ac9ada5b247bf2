use Rattle.entries.specs.Views.{KeptIn, entries_in}
use Rattle.boxes.specs.Views.{count_in}
use Rattle.admit.specs.Contests.{Weighty, Weighing}
use Rattle.admit.proofs.contests.weigh.Given as goal

abbrev pub invariant-loop-i : goal.invariant-loop-i
invariant-loop-i l = Weighty (count_in l.list) l.i l.sum × (KeptIn l.entries → Weighing (entries_in l.entries) l.list.width l.list.words.now (count_in l.list) l.i l.sum)
