-- `Line::weights` meets its contract: two numbers and a bracket. Assumes nothing.
use native.Mathlib.Omega.{arith}
use mathlib.Core.List.{[], ◌∷◌}
use Rattle.replies.specs.Replies as R
use Rattle.replies.specs.ReplyLaws.{prints-then, decimal-ends}
use Rattle.replies.proofs.pieces.Line.weights.Goals as goal

pub number-requires-2 : goal.number-requires-2
number-requires-2 c = omega (arith, decimal-ends (32 ∷ []) _ c.number.ensures.printed)

pub byte-requires : goal.byte-requires
byte-requires c = omega (arith, decimal-ends (32 ∷ []) _ c.number.ensures.printed, decimal-ends (32 ∷ []) _ c.number-2.ensures.printed)

pub returns-clause-printed : goal.returns-clause-printed
unfolding R.weights
returns-clause-printed c =
    let a = decimal-ends (32 ∷ []) _ c.number.ensures.printed in
    let b = decimal-ends (32 ∷ []) _ c.number-2.ensures.printed in
    prints-then (omega (arith, a, b)) (prints-then (omega (arith, a)) c.number.ensures.printed c.number-2.ensures.printed) c.byte.ensures.printed
