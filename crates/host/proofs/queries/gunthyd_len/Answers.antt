-- `gunthyd_len` meets its contract: the number pooled of the state that was read. Assumes nothing.
use Rattle.host.specs.Queries.{query_of, query-short, query-by}
use Rattle.pool_types.specs.Outcomes.{number}
use mathlib.Core.Path.{refl}
use Rattle.host.proofs.queries.gunthyd_len.Goals as goal

pub returns-then-state-lt-STATE_WORDS : goal.returns-then-state-lt-STATE_WORDS
returns-then-state-lt-STATE_WORDS c = rw c.refusal_code.ensures (query-short _ _ c.if-state-lt-STATE_WORDS.true)

pub returns : goal.returns
unfolding query_of
returns c = query-by _ (λ st. number st.counts.pooled) c.if-state-lt-STATE_WORDS.false c.load_state.ensures refl c.len.ensures
