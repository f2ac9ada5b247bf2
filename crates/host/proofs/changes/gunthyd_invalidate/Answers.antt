-- `gunthyd_invalidate` meets its contract: too few words change nothing, else what invalidate says of the state that was read, with the words that were stored. Assumes nothing.
use Rattle.host.specs.Changes.{invalidate-few, invalidate-short, invalidate-words}
use Rattle.host.specs.Results.{says-by}
use Rattle.host.proofs.changes.gunthyd_invalidate.Goals as goal

pub returns-then-state-lt-STATE_WORDS : goal.returns-then-state-lt-STATE_WORDS
returns-then-state-lt-STATE_WORDS c = invalidate-few _ _ _ _ _ _ _ _ c.if-state-lt-STATE_WORDS.true c.refuse.ensures

pub returns-then-res-lt-RESULT_WORDS : goal.returns-then-res-lt-RESULT_WORDS
returns-then-res-lt-RESULT_WORDS c = invalidate-short _ _ _ _ _ _ _ _ c.if-state-lt-STATE_WORDS.false c.if-res-lt-RESULT_WORDS.true c.too_few.ensures c.refuse-then-res-lt-RESULT_WORDS.ensures

pub returns : goal.returns
returns c = invalidate-words _ _ _ _ _ _ _ _ _ _ _ _ c.invalidate-invalidated.result c.if-state-lt-STATE_WORDS.false c.if-res-lt-RESULT_WORDS.false c.load_state-mempool.ensures c.invalidate-invalidated.ensures.invalidate_promise c.invalidate-invalidated.ensures.spares c.invalidate-invalidated.ensures.outcome_value_2 c.store_left.ensures c.invalidate-invalidated.ensures.outcome_value (says-by c.put.ensures c.into.ensures)
