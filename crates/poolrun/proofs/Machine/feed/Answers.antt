-- `feed` meets its contract: what the bytes so far made of the line in progress, of the pool and of the output (`Feeds`).
use Rattle.std.proofs.Common.{arith}
use Rattle.poolrun.specs.Poolrun.{feeds-none, feeds-more, step-holds}
use Rattle.poolrun.proofs.Machine.feed.Goals as goal

pub loop-b-init : goal.loop-b-init
loop-b-init g c = record { within = omega arith; holds = c.requires; fed = feeds-none }

pub loop-b-preserved : goal.loop-b-preserved
loop-b-preserved g c =
    let v = c.loop-b.invariant in
    record {
      within = omega arith;
      holds = step-holds v.holds c.step.ensures.is;
      fed = feeds-more c.args.input.now c.loop-b.b-index (omega arith) v.fed c.step.ensures;
    }
