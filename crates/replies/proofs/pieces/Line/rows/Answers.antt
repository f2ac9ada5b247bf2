-- `Line::rows` meets its contract: what is printed and what is left are the whole list (`Printing`). Assumes nothing.
use native.Mathlib.Omega.{arith}
use mathlib.Core.Path.{◌∙◌}
use Rattle.mempool.specs.Listing.{row_at, rows}
use Rattle.replies.specs.Replies.{row_text}
use Rattle.replies.specs.ReplyLaws.{printing-turn, printing-end, row-long}
use Rattle.replies.proofs.pieces.Line.rows.Goals as goal

pub loop-i-preserved : goal.loop-i-preserved
loop-i-preserved c =
    let at-loop = c.loop-i.invariant in
    let printed = c.row.ensures.printed in
    record {
      same = c.row.ensures.same_reference ∙ at-loop.same;
      room = omega (arith, printed.ends, row-long (row_at c.args.words.now c.loop-i.i), at-loop.room);
      kept = c.row.ensures.kept ∙ at-loop.kept;
      printed = printing-turn rows row_text c.args.words.now c.args.n c.loop-i.i c.loop-i-test.true (omega (arith, at-loop.room, c.requires.1)) at-loop.printed printed;
    }

pub returns-clause-printed : goal.returns-clause-printed
returns-clause-printed c = printing-end rows row_text c.args.words.now c.args.n c.loop-i.i c.loop-i-test.false c.loop-i.invariant.printed
