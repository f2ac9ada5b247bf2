-- `Lines::take` meets its contract: the handle stood at the head's place, and the head is one more, modulo 2^32. Assumes nothing.
use Rattle.std.proofs.Common.{add-zero}
use Rattle.intake.specs.Laws.{taken_at}
use Rattle.intake.proofs.lines.LinesMut.take.Goals as goal

pub returns-clause-taken : goal.returns-clause-taken
returns-clause-taken c =
    rw (c.from-2.ensures, add-zero)
    (taken_at _ _ _ _ _ c.args.self.now.room c.ranges.line.fits c.requires (rw (c.lines.ensures, add-zero) at c.count-head.ensures) c.place.ensures c.from.ensures)
