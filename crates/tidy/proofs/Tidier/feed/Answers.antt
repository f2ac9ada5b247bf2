-- `feed` meets its contract: what the bytes so far made of the line in progress and of the output (`Feeds`).
use Rattle.std.proofs.Common.{arith}
use Rattle.tidy.specs.Loop.{feeds-none, feeds-more}
use Rattle.tidy.proofs.Tidier.feed.Goals as goal

pub loop-b-init : goal.loop-b-init
loop-b-init g c = record { within = omega arith; fed = feeds-none }

pub loop-b-preserved : goal.loop-b-preserved
loop-b-preserved g c = record { within = omega arith; fed = feeds-more c.args.input.now c.loop-b.b-index (omega arith) c.loop-b.invariant.fed c.step.ensures }
