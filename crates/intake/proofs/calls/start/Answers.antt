-- `calls::start` meets its contract: too few words, or every line cleared. Assumes nothing.
use Rattle.std.proofs.Common.{arith, rules}
use Rattle.intake.specs.Kept.{started, start-at}
use Rattle.intake.proofs.calls.start.Goals as goal

pub returns : goal.returns
returns c = start-at (search rules) (started _ c.clear.new.self.words.now (omega arith) (rw c.new-queue.ensures.words at c.clear.ensures.cleared))
