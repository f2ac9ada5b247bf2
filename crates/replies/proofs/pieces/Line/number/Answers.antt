-- `Line::number` meets its contract: a text behind a text. Assumes nothing.
use native.Mathlib.Omega.{arith}
use Rattle.replies.specs.ReplyLaws.{prints-then}
use Rattle.replies.proofs.pieces.Line.number.Goals as goal

pub returns-clause-printed : goal.returns-clause-printed
returns-clause-printed c = prints-then (omega (arith, c.text.ensures.printed.ends)) c.text.ensures.printed c.print_number-self.ensures
