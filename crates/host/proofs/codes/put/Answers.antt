-- `codes::put` meets its contract: the words of what is told are written, where there is room for them. Assumes nothing.
use mathlib.Core.Path.{ap, ◌∙◌}
use Rattle.words.specs.Rows.{stored}
use Rattle.host.specs.Results.{puts_none, puts-all}
use Rattle.host.proofs.codes.put.Goals as goal

pub returns-then-res-lt-RESULT_WORDS : goal.returns-then-res-lt-RESULT_WORDS
returns-then-res-lt-RESULT_WORDS c = puts_none _ _ c.if-res-lt-RESULT_WORDS.true

pub returns : goal.returns
returns c = puts-all _ _ _ c.if-res-lt-RESULT_WORDS.false (c.put_words.ensures ∙ ap (stored c.args.res.now 0) c.words.ensures)
