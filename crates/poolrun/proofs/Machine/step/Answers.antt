-- `step` meets its contract: a byte is added, or ends the line.
use Rattle.std.proofs.Common.{arith}
use Rattle.poolrun.specs.Poolrun.{steps-adds, steps-ends}
use Rattle.poolrun.proofs.Machine.step.Goals as goal

pub returns-then-b-ne10 : goal.returns-then-b-ne10
returns-then-b-ne10 g c = steps-adds c.args.b c.if-b-ne10.true c.add_byte.ensures _

pub returns : goal.returns
returns g c = steps-ends c.args.b (omega arith) c.end_line.ensures
