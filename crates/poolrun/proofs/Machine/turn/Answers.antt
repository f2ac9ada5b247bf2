-- `turn` meets its contract: by whether the read brought anything.
use Rattle.std.proofs.Common.{arith}
use Rattle.poolrun.specs.Poolrun.{turns-over, turns-some}
use Rattle.poolrun.proofs.Machine.turn.Goals as goal

pub returns-then-input-eq0 : goal.returns-then-input-eq0
returns-then-input-eq0 g c = turns-over c.args.input.now (omega arith) c.finish.ensures

pub returns : goal.returns
returns g c = turns-some c.args.input.now (λ e. omega arith) c.feed.ensures
