use Rattle.std.proofs.Common.{◌≡◌, ◌-◌, length}
use Rattle.tidy.specs.Tidier.{state_in}
use Rattle.tidy.specs.Loop.{Serving}
use Rattle.tidy.proofs.Tidier.serve.Given as goal

abbrev pub invariant-loop-turn : goal.invariant-loop-turn
invariant-loop-turn g l = record {
  room : length l.input ≡ length l.initial.input;
  served : Serving (state_in l.initial.self) (state_in l.self) (18446744073709551615 - l._turn) (g.I.Source.stand l.initial.from) (g.I.Source.stand l.from) (g.O.Sink.stand l.initial.to) (g.O.Sink.stand l.to);
}
