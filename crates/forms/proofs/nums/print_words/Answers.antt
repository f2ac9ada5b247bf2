-- `nums::print_words` meets its contract. Of i words that were passed the numeral so far is printed (`Walked`); nothing is printed where all are 0.
use Rattle.std.proofs.Common.{refl, arith, ◌∙◌}
use Rattle.forms.specs.NumLaws as W
use Rattle.forms.proofs.nums.print_words.Goals as goal

pub loop-w-init : goal.loop-w-init
loop-w-init c = (omega arith, refl, W.walked_none _ _ _)

pub loop-w-preserved : goal.loop-w-preserved
loop-w-preserved c =
    (omega arith, c.more_word-k.auto.out ∙ c.loop-w.invariant.1, W.walked_more c.args.words.now c.loop-w.w-index c.args.at c.args.out.now c.loop-w.out _ c.loop-w.k _ (omega (arith, c.requires.1)) c.loop-w.invariant.2 c.more_word-k.ensures)

pub returns-then-k-at : goal.returns-then-k-at
returns-then-k-at c =
    W.prints-zero c.args.words.now c.loop-w.w-index c.args.at c.args.out.now c.loop-w.out c.loop-w.k (omega arith) c.requires.1 c.if-k-at.true c.loop-w.invariant.2

pub returns : goal.returns
returns c =
    W.prints-some c.args.words.now c.loop-w.w-index c.args.at c.args.out.now c.loop-w.out c.loop-w.k (omega arith) c.if-k-at.false c.loop-w.invariant.2
