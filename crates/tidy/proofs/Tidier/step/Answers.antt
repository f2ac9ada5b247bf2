-- `step` meets its contract: a byte is added, or the newline stands behind how the line came out.
use Rattle.std.proofs.Common.{arith}
use Rattle.tidy.specs.Loop.{steps-ends}
use Rattle.tidy.proofs.Tidier.step.Goals as goal

pub returns : goal.returns
returns g c =
    let z = c.args.self.now.sized.out in
    steps-ends _ _ _ _ _ (omega arith) (omega (arith, c.ending-len.new.self.sized.out, z)) z c.ending-len.ensures.outs c.hand_line.ensures
