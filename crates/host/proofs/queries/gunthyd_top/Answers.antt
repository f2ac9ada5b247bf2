-- `gunthyd_top` meets its contract: what top lists of the state that was read. Assumes nothing.
use Rattle.host.specs.Queries.{top-short, top-by}
use Rattle.host.proofs.queries.gunthyd_top.Goals as goal

pub returns-then-state-lt-STATE_WORDS : goal.returns-then-state-lt-STATE_WORDS
returns-then-state-lt-STATE_WORDS c = rw c.refusal_code.ensures (top-short _ _ _ _ c.if-state-lt-STATE_WORDS.true)

pub returns : goal.returns
returns c = top-by _ _ _ _ _ c.if-state-lt-STATE_WORDS.false c.load_state-mempool.ensures c.top.ensures c.list_code.ensures
