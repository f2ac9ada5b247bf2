-- `gunthyd_pool_histogram_at` meets its contract: what pool_histogram_at draws of the state that was read. Assumes nothing.
use Rattle.host.specs.Fees.{bars-few, bars-by}
use Rattle.host.proofs.fee_queries.gunthyd_pool_histogram_at.Goals as goal

pub returns-then-state-lt-STATE_WORDS : goal.returns-then-state-lt-STATE_WORDS
returns-then-state-lt-STATE_WORDS c = rw c.refusal_code.ensures (bars-few _ _ _ _ _ _ c.if-state-lt-STATE_WORDS.true)

pub returns : goal.returns
returns c = bars-by _ _ _ _ _ _ _ c.if-state-lt-STATE_WORDS.false c.load_state-mempool.ensures c.pool_histogram_at.ensures c.list_code.ensures
