-- `Line::pairs` meets its contract: what is printed and what is left are the whole list (`Printing`). Assumes nothing.
use native.Mathlib.Omega.{arith}
use mathlib.Core.Path.{◌∙◌}
use Rattle.replies.specs.Replies.{pair_text, pair_at, pairs}
use Rattle.replies.specs.ReplyLaws.{printing-turn, printing-end, pair-long}
use Rattle.replies.proofs.pieces.Line.pairs.Goals as goal

pub loop-i-preserved : goal.loop-i-preserved
loop-i-preserved c =
    let at-loop = c.loop-i.invariant in
    let printed = c.pair.ensures.printed in
    record {
      same = c.pair.ensures.same_reference ∙ at-loop.same;
      room = omega (arith, printed.ends, pair-long (pair_at c.args.words.now c.loop-i.i), at-loop.room);
      kept = c.pair.ensures.kept ∙ at-loop.kept;
      printed = printing-turn pairs pair_text c.args.words.now c.args.n c.loop-i.i c.loop-i-test.true (omega (arith, at-loop.room, c.requires.1)) at-loop.printed printed;
    }

pub returns-clause-printed : goal.returns-clause-printed
returns-clause-printed c = printing-end pairs pair_text c.args.words.now c.args.n c.loop-i.i c.loop-i-test.false c.loop-i.invariant.printed
