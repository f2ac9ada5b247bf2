-- `add_byte` meets its contract: the buffer holds one byte more, or is written and begun anew.
use Rattle.std.proofs.Common.{arith}
use Rattle.tidy.specs.Loop.{steps-adds, steps-spills}
use Rattle.tidy.proofs.Tidier.add_byte.Goals as goal

pub returns-then-len-self : goal.returns-then-len-self
returns-then-len-self g c = let t = c.args.self.now in steps-adds t.line.now t.len t.long c.args.b _ t.sized.line c.requires (omega (arith, t.sized.line))

pub returns : goal.returns
returns g c = let t = c.args.self.now in steps-spills t.line.now t.len t.long c.args.b _ t.sized.line c.requires _ _ (omega (arith, t.sized.line)) c.text-n.ensures c.hand_held.ensures
