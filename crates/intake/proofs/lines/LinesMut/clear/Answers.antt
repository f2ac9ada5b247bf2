-- `Lines::clear` meets its contract. The loop's invariant: the lines before this one have head and tail 0. Assumes nothing.
use Rattle.std.proofs.Common.{arith, add-zero}
use Rattle.intake.specs.Kept.{cleared_more}
use Rattle.intake.proofs.lines.LinesMut.clear.Goals as goal

pub loop-line-preserved : goal.loop-line-preserved
loop-line-preserved c = (rw add-zero (cleared_more _ _ _ c.args.self.now.room (omega arith) c.loop-line.invariant.0), c.loop-line.invariant.1)
