-- `Line::last_ids` meets its contract: a text behind a text. Assumes nothing.
use native.Mathlib.Omega.{arith}
use Rattle.replies.specs.ReplyLaws.{prints-then, parted-long}
use Rattle.replies.proofs.pieces.Line.last_ids.Goals as goal

pub text-requires-2 : goal.text-requires-2
text-requires-2 c =
    omega (arith, c.text.ensures.printed.ends, c.parted_ids.ensures.printed.ends, parted-long c.args.list.now.width c.args.list.now.words.now c.args.n, c.requires.1)

pub returns-clause-printed : goal.returns-clause-printed
returns-clause-printed c =
    let a = c.text.ensures.printed.ends in
    let b = c.parted_ids.ensures.printed.ends in
    prints-then (omega (arith, a, c.requires.1)) c.text.ensures.printed (prints-then (omega (arith, a, b, parted-long c.args.list.now.width c.args.list.now.words.now c.args.n, c.requires.1)) c.parted_ids.ensures.printed c.text-2.ensures.printed)
