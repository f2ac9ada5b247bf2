-- `nums::more_word` meets its contract, by cases: 16 digits, none, or the numeral of the first word that is not 0. Assumes nothing.
use Rattle.forms.specs.NumLaws as W
use Rattle.forms.proofs.nums.more_word.Goals as goal

pub returns-then-w-eq0 : goal.returns-then-w-eq0
returns-then-w-eq0 c = W.word-zero c.args.w c.args.at c.args.out.now c.args.started c.if-started.false c.if-w-eq0.true

pub returns : goal.returns
returns c = W.word-shown c.args.w c.args.at c.args.out.now _ _ c.args.started c.if-started.false c.if-w-eq0.false c.print.ensures
