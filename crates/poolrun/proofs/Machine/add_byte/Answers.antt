-- `add_byte` meets its contract: the line in progress has the byte too, where there is room.
use Rattle.std.proofs.Common.{refl, arith}
use Rattle.poolrun.specs.Input.{added}
use Rattle.poolrun.specs.Poolrun.{byte_left, byte-added}
use Rattle.poolrun.proofs.Machine.add_byte.Goals as goal

pub returns-then-len-self : goal.returns-then-len-self
unfolding added
returns-then-len-self c = rw (← byte_left c.args.self.now.line.now c.args.self.now.len c.args.b c.args.self.now.sized.line (omega (arith, c.args.self.now.sized.line))) refl

pub returns : goal.returns
unfolding added
returns c = rw (byte-added c.args.self.now.line.now c.args.self.now.len c.args.b c.args.self.now.sized.line (omega (arith, c.args.self.now.sized.line))) refl
