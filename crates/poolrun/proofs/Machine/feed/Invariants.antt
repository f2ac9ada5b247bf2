use Rattle.std.proofs.Common.{◌≤◌, length, take}
use Rattle.console.specs.Desk.{HoldsIn}
use Rattle.poolrun.specs.Machine.{state_in}
use Rattle.poolrun.specs.Poolrun.{Feeds}
use Rattle.poolrun.proofs.Machine.feed.Given as goal

abbrev pub invariant-loop-b : goal.invariant-loop-b
invariant-loop-b g l = record {
  within : l.b-index ≤ length l.input;
  holds : HoldsIn l.self.desk;
  fed : Feeds (take l.b-index l.input) (state_in l.initial.self) (state_in l.self) (g.O.Sink.stand l.initial.to) (g.O.Sink.stand l.to);
}
