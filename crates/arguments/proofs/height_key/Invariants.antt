use Rattle.std.specs.Prelude.{◌≡◌, ◌-◌, max}
use Rattle.arguments.specs.Arguments.{high_from, height_key, records}
use Rattle.arguments.proofs.height_key.Given as goal

abbrev pub invariant-loop-i : goal.invariant-loop-i
invariant-loop-i l = max l.key (high_from l.width l.word l.list l.i (records l.width l.list - l.i)) ≡ height_key l.width l.word l.list
