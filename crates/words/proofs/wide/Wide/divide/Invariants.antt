use Rattle.std.proofs.Common.{◌≡◌, ◌≤◌}
use Rattle.words.specs.Wide.{wide_of}
use Rattle.words.specs.Divide.{part_of}
use Rattle.words.proofs.wide.Wide.divide.Given as goal

abbrev pub invariant-loop-at : goal.invariant-loop-at
invariant-loop-at l = (l.at ≤ 64) × (l.t ≡ part_of (wide_of l.self) l.d l.at)

abbrev pub decreases-loop-at : goal.decreases-loop-at
decreases-loop-at l = l.at
