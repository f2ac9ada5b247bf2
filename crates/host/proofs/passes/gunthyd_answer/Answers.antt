-- `gunthyd_answer` meets its contract: too few words change nothing, else what answer says of the state that was read, with the words that were stored. Assumes nothing.
use Rattle.host.specs.Passes.{answer-few, answer-short, answer-words}
use Rattle.host.specs.Results.{says-by}
use Rattle.host.proofs.passes.gunthyd_answer.Goals as goal

pub returns-then-state-lt-STATE_WORDS : goal.returns-then-state-lt-STATE_WORDS
returns-then-state-lt-STATE_WORDS c = answer-few _ _ _ _ _ _ _ _ c.if-state-lt-STATE_WORDS.true c.refuse.ensures

pub returns-then-res-lt-RESULT_WORDS : goal.returns-then-res-lt-RESULT_WORDS
returns-then-res-lt-RESULT_WORDS c = answer-short _ _ _ _ _ _ _ _ c.if-state-lt-STATE_WORDS.false c.if-res-lt-RESULT_WORDS.true c.too_few_of_answer.ensures c.refuse-then-res-lt-RESULT_WORDS.ensures

pub returns : goal.returns
returns c = answer-words _ _ _ _ _ _ _ _ _ _ _ _ c.answer-answered.result c.if-state-lt-STATE_WORDS.false c.if-res-lt-RESULT_WORDS.false c.load_state-mempool.ensures c.verdict_of-said.ensures c.store_state.ensures c.answer-answered.ensures.answer_promise c.answer-answered.ensures.spares c.answer-answered.ensures.outcome_value_2 c.answer-answered.ensures.outcome_value (says-by c.put.ensures c.into.ensures)
