-- `Line::id` meets its contract: a text behind a text. Assumes nothing.
use native.Mathlib.Omega.{arith}
use Rattle.replies.specs.ReplyLaws.{prints-then, prints-id}
use Rattle.replies.proofs.pieces.Line.id.Goals as goal

pub returns-clause-printed : goal.returns-clause-printed
returns-clause-printed c = prints-then (omega (arith, c.text.ensures.printed.ends)) c.text.ensures.printed (prints-id c.args.x c.print_id-self.ensures)
