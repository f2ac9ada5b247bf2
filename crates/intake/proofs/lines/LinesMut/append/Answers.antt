-- `Lines::append` meets its contract: the handle stands at the tail's place, and the tail is one more, modulo 2^32. Assumes nothing.
use Rattle.intake.specs.Laws.{appended-at}
use Rattle.intake.proofs.lines.LinesMut.append.Goals as goal

pub returns-clause-appended : goal.returns-clause-appended
returns-clause-appended c =
    rw c.from-2.ensures
    (appended-at _ _ _ _ _ _ c.args.self.now.room c.ranges.line.fits c.requires (rw c.lines.ensures at c.count-tail.ensures) c.place.ensures c.from.ensures)
