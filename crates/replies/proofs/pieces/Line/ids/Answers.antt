-- `Line::ids` meets its contract: what is printed and what is left are the whole list (`Printing`). Assumes nothing.
use native.Mathlib.Omega.{arith}
use mathlib.Core.Path.{◌∙◌}
use Rattle.words.specs.Ids.{id_of}
use Rattle.boxes.specs.Flat.{ids}
use Rattle.replies.specs.Replies.{spaced}
use Rattle.replies.specs.ReplyLaws.{printing-turn, printing-end, id-long}
use Rattle.replies.proofs.pieces.Line.ids.Goals as goal

pub loop-i-preserved : goal.loop-i-preserved
loop-i-preserved c =
    let at-loop = c.loop-i.invariant in
    let printed = rw c.id_at.ensures at c.id.ensures.printed in
    record {
      same = c.id.ensures.same_reference ∙ at-loop.same;
      room = omega (arith, printed.ends, id-long (id_of c.id_at.result), at-loop.room);
      kept = c.id.ensures.kept ∙ at-loop.kept;
      printed = printing-turn (ids c.args.list.now.width) spaced c.args.list.now.words.now c.args.n c.loop-i.i c.loop-i-test.true (omega (arith, at-loop.room, c.requires.1)) at-loop.printed printed;
    }

pub returns-clause-printed : goal.returns-clause-printed
returns-clause-printed c = printing-end (ids c.args.list.now.width) spaced c.args.list.now.words.now c.args.n c.loop-i.i c.loop-i-test.false c.loop-i.invariant.printed
