use Rattle.std.specs.Prelude.{◌≡◌, ◌+◌, ◌-◌, ◌≤◌}
use Rattle.words.specs.Sums.{cap}
use Rattle.arguments.specs.Arguments.{fee_of, fee_from, records}
use Rattle.arguments.proofs.extract_fee.Given as goal

abbrev pub invariant-loop-i : goal.invariant-loop-i
invariant-loop-i l = (l.sum + fee_from l.outputs l.i (records 7 l.outputs - l.i) ≡ fee_of l.outputs) × (l.sum ≤ cap)
