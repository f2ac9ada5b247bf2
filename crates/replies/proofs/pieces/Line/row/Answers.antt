-- `Line::row` meets its contract: an id and two numbers in brackets. Assumes nothing.
use native.Mathlib.Omega.{arith}
use mathlib.Core.List.{[], ◌∷◌}
use Rattle.replies.specs.ReplyLaws.{prints-then, prints-row, id-ends}
use Rattle.replies.proofs.pieces.Line.row.Goals as goal

pub weights-requires : goal.weights-requires
weights-requires c = omega (arith, id-ends (32 ∷ 40 ∷ []) _ c.id.ensures.printed, c.requires.1)

pub returns-clause-printed : goal.returns-clause-printed
returns-clause-printed c =
    prints-row c.args.words.now c.args.i c.get_id.result c.get_id.ensures.number (prints-then (omega (arith, id-ends (32 ∷ 40 ∷ []) _ c.id.ensures.printed, c.requires.1)) c.id.ensures.printed c.weights.ensures.printed)
