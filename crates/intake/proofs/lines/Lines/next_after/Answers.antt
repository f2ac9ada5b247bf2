-- `Lines::next_after` meets its contract: the chain goes through the circle. Assumes nothing.
use Rattle.std.proofs.Common.{◌∙◌}
use Rattle.intake.specs.Laws.{search-is}
use Rattle.intake.proofs.lines.Lines.next_after.Goals as goal

pub returns : goal.returns
returns c = rw c.from.ensures at c.first_after.ensures ∙ search-is c.args.self.now.words.now c.args.last
