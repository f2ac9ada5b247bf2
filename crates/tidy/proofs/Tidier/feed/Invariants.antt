use Rattle.std.proofs.Common.{◌≤◌, length, take}
use Rattle.tidy.specs.Tidier.{state_in}
use Rattle.tidy.specs.Loop.{Feeds}
use Rattle.tidy.proofs.Tidier.feed.Given as goal

abbrev pub invariant-loop-b : goal.invariant-loop-b
invariant-loop-b g l = record {
  within : l.b-index ≤ length l.input;
  fed : Feeds (take l.b-index l.input) (state_in l.initial.self) (state_in l.self) (g.O.Sink.stand l.initial.to) (g.O.Sink.stand l.to);
}
