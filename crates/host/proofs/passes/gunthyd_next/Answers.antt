-- `gunthyd_next` meets its contract: too few words change nothing, else what next says of the state that was read, with the words that were stored. Assumes nothing.
use Rattle.host.specs.Passes.{next-few, next-short, next-words}
use Rattle.host.specs.Results.{says-by}
use Rattle.host.proofs.passes.gunthyd_next.Goals as goal

pub returns-then-state-lt-STATE_WORDS : goal.returns-then-state-lt-STATE_WORDS
returns-then-state-lt-STATE_WORDS c = next-few _ _ _ _ c.if-state-lt-STATE_WORDS.true c.refuse.ensures

pub returns-then-res-lt-RESULT_WORDS : goal.returns-then-res-lt-RESULT_WORDS
returns-then-res-lt-RESULT_WORDS c = next-short _ _ _ _ c.if-state-lt-STATE_WORDS.false c.if-res-lt-RESULT_WORDS.true c.too_few_of_next.ensures c.refuse-then-res-lt-RESULT_WORDS.ensures

pub returns : goal.returns
returns c = next-words _ _ _ _ _ c.next-offered.result c.if-state-lt-STATE_WORDS.false c.if-res-lt-RESULT_WORDS.false c.load_state-mempool.ensures c.store_state.ensures c.next-offered.ensures.next_promise c.next-offered.ensures.by_index c.next-offered.ensures.outcome_value_2 c.next-offered.ensures.mempool_value c.next-offered.ensures.outcome_value (says-by c.put.ensures c.into.ensures)
