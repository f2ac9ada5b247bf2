-- `codes::lacks` meets its contract, test by test. Assumes nothing.
use Rattle.host.specs.Results.{lacks-list, lacks-room}
use Rattle.host.proofs.codes.lacks.Goals as goal

pub returns-then-have-need : goal.returns-then-have-need
returns-then-have-need c = lacks-list _ _ _ c.if-have-need.true

pub returns : goal.returns
returns c = lacks-room _ _ _ c.if-have-need.false
