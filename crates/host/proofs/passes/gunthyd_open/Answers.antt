-- `gunthyd_open` meets its contract: too few words change nothing, else what open says of the state that was read, with the words that were stored. Assumes nothing.
use Rattle.host.specs.Passes.{open-few, open-short, open-words}
use Rattle.host.specs.Results.{says-by}
use Rattle.host.proofs.passes.gunthyd_open.Goals as goal

pub returns-then-state-lt-STATE_WORDS : goal.returns-then-state-lt-STATE_WORDS
returns-then-state-lt-STATE_WORDS c = open-few _ _ _ _ _ _ c.if-state-lt-STATE_WORDS.true c.refuse.ensures

pub returns-then-res-lt-RESULT_WORDS : goal.returns-then-res-lt-RESULT_WORDS
returns-then-res-lt-RESULT_WORDS c = open-short _ _ _ _ _ _ c.if-state-lt-STATE_WORDS.false c.if-res-lt-RESULT_WORDS.true c.too_few.ensures c.refuse-then-res-lt-RESULT_WORDS.ensures

pub returns : goal.returns
returns c = open-words _ _ _ _ _ _ _ c.open-opened.result c.if-state-lt-STATE_WORDS.false c.if-res-lt-RESULT_WORDS.false c.load_state-mempool.ensures c.store_state.ensures c.open-opened.ensures.open_promise c.open-opened.ensures.by_index c.open-opened.ensures.pass_only c.open-opened.ensures.outcome_value (says-by c.put.ensures c.into.ensures)
