-- `Line::parted_ids` meets its contract: the first id, and the others each behind a space. Assumes nothing.
use native.Mathlib.Omega.{arith}
use mathlib.Core.List.{[]}
use Rattle.replies.specs.ReplyLaws.{prints-then, id-ends, parted-none, parted-more}
use Rattle.replies.proofs.pieces.Line.parted_ids.Goals as goal

pub returns-then-n-eq0-clause-printed : goal.returns-then-n-eq0-clause-printed
returns-then-n-eq0-clause-printed c = parted-none c.args.list.now.width c.args.list.now.words.now c.args.n _ _ c.if-n-eq0.true

pub ids-requires : goal.ids-requires
ids-requires c = (c.requires.0, omega (arith, id-ends [] _ c.id.ensures.printed, c.requires.1))

pub returns-clause-printed : goal.returns-clause-printed
returns-clause-printed c =
    rw (← parted-more c.args.list.now.width c.args.list.now.words.now c.args.n c.if-n-eq0.false, ← c.id_at.ensures) (prints-then (omega (arith, id-ends [] _ c.id.ensures.printed, c.requires.1)) c.id.ensures.printed c.ids.ensures.printed)
