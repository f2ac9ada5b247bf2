use Rattle.std.proofs.Common.{◌≡◌, ◌-◌, length}
use Rattle.console.specs.Desk.{HoldsIn}
use Rattle.poolrun.specs.Machine.{state_in}
use Rattle.poolrun.specs.Poolrun.{Serving}
use Rattle.poolrun.proofs.Machine.serve.Given as goal

abbrev pub invariant-loop-turn : goal.invariant-loop-turn
invariant-loop-turn g l = record {
  room : length l.input ≡ length l.initial.input;
  holds : HoldsIn l.self.desk;
  served : Serving (state_in l.initial.self) (state_in l.self) (18446744073709551615 - l._turn) (g.I.Source.stand l.initial.from) (g.I.Source.stand l.from) (g.O.Sink.stand l.initial.to) (g.O.Sink.stand l.to);
}
