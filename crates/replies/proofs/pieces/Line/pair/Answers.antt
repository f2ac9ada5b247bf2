-- `Line::pair` meets its contract: two numbers in brackets. Assumes nothing.
use native.Mathlib.Omega.{arith}
use mathlib.Core.List.{[], ◌∷◌}
use Rattle.replies.specs.ReplyLaws.{prints-then, prints-pair, decimal-ends}
use Rattle.replies.proofs.pieces.Line.pair.Goals as goal

pub number-requires-2 : goal.number-requires-2
number-requires-2 c = omega (arith, decimal-ends (32 ∷ 40 ∷ []) _ c.number.ensures.printed, c.requires.1)

pub byte-requires : goal.byte-requires
byte-requires c = omega (arith, decimal-ends (32 ∷ 40 ∷ []) _ c.number.ensures.printed, decimal-ends (32 ∷ []) _ c.number-2.ensures.printed, c.requires.1)

pub returns-clause-printed : goal.returns-clause-printed
returns-clause-printed c =
    let a = decimal-ends (32 ∷ 40 ∷ []) _ c.number.ensures.printed in
    let b = decimal-ends (32 ∷ []) _ c.number-2.ensures.printed in
    prints-pair c.args.words.now c.args.i (prints-then (omega (arith, a, b, c.requires.1)) (prints-then (omega (arith, a, c.requires.1)) c.number.ensures.printed c.number-2.ensures.printed) c.byte.ensures.printed)
