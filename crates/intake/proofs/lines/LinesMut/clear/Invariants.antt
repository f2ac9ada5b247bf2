use Rattle.std.proofs.Common.{◌≡◌}
use Rattle.intake.specs.Words.{Cleared}
use Rattle.intake.proofs.lines.LinesMut.clear.Given as goal

abbrev pub invariant-loop-line : goal.invariant-loop-line
invariant-loop-line l =
    Cleared l.initial.self.words.now l.self.words.now l.line × (l.self.words.ghost_name ≡ l.initial.self.words.ghost_name)
