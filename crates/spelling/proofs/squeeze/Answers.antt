-- `squeeze` meets its contract: what is printed and what is left to squeeze are the whole (`Printing`), and no more is printed than was read. Assumes nothing.
use native.Mathlib.Omega.{arith}
use mathlib.Core.Path.{refl, ◌∙◌}
use Rattle.spelling.specs.SqueezeLaws.{none-due}
use Rattle.spelling.specs.Tidied.{squeeze-start, squeeze-turn, squeeze-end}
use Rattle.spelling.proofs.squeeze.Goals as goal

pub loop-i-init : goal.loop-i-init
loop-i-init c = (refl, omega (arith, none-due), squeeze-start _ _)

pub loop-i-preserved : goal.loop-i-preserved
loop-i-preserved c = (c.squeeze_byte-p.auto.out ∙ c.loop-i.invariant.0, omega (arith, c.squeeze_byte-p.ensures.room), squeeze-turn _ _ _ _ (omega (arith, c.loop-i.invariant.1)) c.loop-i.invariant.2 c.squeeze_byte-p.ensures)

pub returns : goal.returns
returns c = squeeze-end c.args.line.now c.loop-i.i c.loop-i.p (omega arith) c.loop-i.invariant.2
