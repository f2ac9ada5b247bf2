-- `gunthyd_return_to_pool` meets its contract: too few words change nothing, else what return_to_pool says of the state and the transaction that were read, with the words that were stored. Assumes nothing.
use Rattle.host.specs.Changes.{return-few, return-short, return-words}
use Rattle.host.specs.Results.{says-by, lacked}
use Rattle.host.proofs.changes.gunthyd_return_to_pool.Goals as goal

pub returns-then-state-lt-STATE_WORDS : goal.returns-then-state-lt-STATE_WORDS
returns-then-state-lt-STATE_WORDS c = return-few _ _ _ _ _ _ _ _ c.if-state-lt-STATE_WORDS.true c.refuse.ensures

pub returns-then-lacks : goal.returns-then-lacks
returns-then-lacks c = return-short _ _ _ _ _ _ _ _ c.if-state-lt-STATE_WORDS.false c.lacks.ensures c.if-lacks.true c.too_few.ensures c.refuse-then-lacks.ensures

pub load_tx-given-requires : goal.load_tx-given-requires
load_tx-given-requires c = lacked _ _ _ c.lacks.ensures c.if-lacks.false

pub returns : goal.returns
returns c = return-words _ _ _ _ _ _ _ _ _ _ _ c.return_to_pool-returned.result c.if-state-lt-STATE_WORDS.false c.lacks.ensures c.if-lacks.false c.load_state-mempool.ensures c.load_tx-given.ensures c.return_to_pool-returned.ensures.return_promise c.return_to_pool-returned.ensures.by_index c.return_to_pool-returned.ensures.outcome_value_2 c.store_left.ensures c.return_to_pool-returned.ensures.outcome_value (says-by c.put.ensures c.into.ensures)
