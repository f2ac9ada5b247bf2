use Rattle.std.specs.Prelude.{◌≡◌, length}
use Rattle.std.specs.List.{CopiedTo, SameFrom}
use Rattle.entries.proofs.order.first_to_last.Given as goal

abbrev pub invariant-loop-i : goal.invariant-loop-i
invariant-loop-i l = (length l.t ≡ length l.initial.t) × CopiedTo l.initial.t l.t 1 0 l.i × SameFrom l.initial.t l.t l.i
