-- `gunthyd_contains` meets its contract: what contains says of the state that was read. Assumes nothing.
use Rattle.std.specs.Prelude.{Ok, false}
use Rattle.host.specs.Queries.{query-short, query-by}
use Rattle.mempool.specs.Queries.{contains_of, contains_with, test_said}
use Rattle.words.specs.Ids.{id_of}
use Rattle.host.proofs.queries.gunthyd_contains.Goals as goal

pub returns-then-state-lt-STATE_WORDS-clause-value : goal.returns-then-state-lt-STATE_WORDS-clause-value
returns-then-state-lt-STATE_WORDS-clause-value c = (Ok false, rw c.refusal_code.ensures (query-short _ _ c.if-state-lt-STATE_WORDS.true))

pub returns-then-state-lt-STATE_WORDS-clause-value_2 : goal.returns-then-state-lt-STATE_WORDS-clause-value_2
returns-then-state-lt-STATE_WORDS-clause-value_2 c = λ _ _. (rw c.refusal_code.ensures (query-short _ _ c.if-state-lt-STATE_WORDS.true))

pub returns-clause-value : goal.returns-clause-value
returns-clause-value c = let a = c.args in
    let t = c.contains.result in
    (t, query-by _ (λ st. contains_with a.entries.now a.cache.now st (test_said t)) c.if-state-lt-STATE_WORDS.false c.load_state-mempool.ensures c.contains.ensures.result_value c.test_code.ensures)

pub returns-clause-value_2 : goal.returns-clause-value_2
returns-clause-value_2 c = let a = c.args in
    let t = c.contains.result in
    λ k l. query-by _ (λ st. contains_of a.entries.now a.cache.now st a.time (id_of (record { a = a.a; b = a.b; c = a.c; d = a.d }))) c.if-state-lt-STATE_WORDS.false c.load_state-mempool.ensures (c.contains.ensures.result_value_2 (rw c.load_state-mempool.ensures k) (rw c.load_state-mempool.ensures l)) c.test_code.ensures
