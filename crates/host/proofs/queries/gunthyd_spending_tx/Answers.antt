-- `gunthyd_spending_tx` meets its contract: what spending_tx finds in the state that was read, as a row. Assumes nothing.
use Rattle.std.specs.Prelude.{None, Ok}
use mathlib.Core.Path.{ap, ◌∙◌}
use Rattle.words.specs.Ids.{id_of}
use Rattle.mempool.specs.Queries.{spending_of, spending_with, entry_seen}
use native.Mathlib.Omega.{arith}
use Prim.Native.Nat.{◌<◌}
use lib.ListN.{length}
use Rattle.host.specs.Queries.{spent-short, spent-room, spent-entry, spent-none, spent-refused}
use Rattle.host.proofs.queries.gunthyd_spending_tx.Goals as goal

pub returns-then-state-lt-STATE_WORDS-clause-rows : goal.returns-then-state-lt-STATE_WORDS-clause-rows
returns-then-state-lt-STATE_WORDS-clause-rows c = (Ok None, rw c.refusal_code.ensures (spent-short _ _ _ c.if-state-lt-STATE_WORDS.true))

pub returns-then-state-lt-STATE_WORDS-clause-rows_2 : goal.returns-then-state-lt-STATE_WORDS-clause-rows_2
returns-then-state-lt-STATE_WORDS-clause-rows_2 c = λ _ _. (rw c.refusal_code.ensures (spent-short _ _ _ c.if-state-lt-STATE_WORDS.true))

pub returns-then-answer-lt-ROW_WORDS-clause-rows : goal.returns-then-answer-lt-ROW_WORDS-clause-rows
returns-then-answer-lt-ROW_WORDS-clause-rows c = let g : length c.args.answer.now < 6 = omega arith in (Ok None, rw c.refusal_code-then-answer-lt-ROW_WORDS.ensures (spent-room _ _ _ c.if-state-lt-STATE_WORDS.false g))

pub returns-then-answer-lt-ROW_WORDS-clause-rows_2 : goal.returns-then-answer-lt-ROW_WORDS-clause-rows_2
returns-then-answer-lt-ROW_WORDS-clause-rows_2 c = let g : length c.args.answer.now < 6 = omega arith in λ _ _. (rw c.refusal_code-then-answer-lt-ROW_WORDS.ensures (spent-room _ _ _ c.if-state-lt-STATE_WORDS.false g))

pub returns-in-Some-clause-rows : goal.returns-in-Some-clause-rows
returns-in-Some-clause-rows c = let a = c.args in
    let o = c.spending_tx-found.result in
    (o, spent-entry (λ st. spending_with a.entries.now a.boxes.now st (entry_seen o)) _ _ c.if-state-lt-STATE_WORDS.false c.if-answer-lt-ROW_WORDS.false _ c.load_state-mempool.ensures c.spending_tx-found.ensures.result_value _ _ (c.in-Ok.is ∙ ap Ok c.in-Some.is) c.put_first.ensures)

pub returns-in-Some-clause-rows_2 : goal.returns-in-Some-clause-rows_2
returns-in-Some-clause-rows_2 c = let a = c.args in
    let o = c.spending_tx-found.result in
    λ k l. spent-entry (λ st. spending_of a.entries.now a.boxes.now st (id_of (record { a = a.a; b = a.b; c = a.c; d = a.d }))) _ _ c.if-state-lt-STATE_WORDS.false c.if-answer-lt-ROW_WORDS.false _ c.load_state-mempool.ensures (c.spending_tx-found.ensures.result_value_2 (rw c.load_state-mempool.ensures k) (rw c.load_state-mempool.ensures l)) _ _ (c.in-Ok.is ∙ ap Ok c.in-Some.is) c.put_first.ensures

pub returns-in-None-clause-rows : goal.returns-in-None-clause-rows
returns-in-None-clause-rows c = let a = c.args in
    let o = c.spending_tx-found.result in
    (o, spent-none (λ st. spending_with a.entries.now a.boxes.now st (entry_seen o)) _ _ c.if-state-lt-STATE_WORDS.false c.if-answer-lt-ROW_WORDS.false _ c.load_state-mempool.ensures c.spending_tx-found.ensures.result_value (c.in-Ok.is ∙ ap Ok c.in-None.is))

pub returns-in-None-clause-rows_2 : goal.returns-in-None-clause-rows_2
returns-in-None-clause-rows_2 c = let a = c.args in
    let o = c.spending_tx-found.result in
    λ k l. spent-none (λ st. spending_of a.entries.now a.boxes.now st (id_of (record { a = a.a; b = a.b; c = a.c; d = a.d }))) _ _ c.if-state-lt-STATE_WORDS.false c.if-answer-lt-ROW_WORDS.false _ c.load_state-mempool.ensures (c.spending_tx-found.ensures.result_value_2 (rw c.load_state-mempool.ensures k) (rw c.load_state-mempool.ensures l)) (c.in-Ok.is ∙ ap Ok c.in-None.is)

pub returns-in-Err-clause-rows : goal.returns-in-Err-clause-rows
returns-in-Err-clause-rows c = let a = c.args in
    let o = c.spending_tx-found.result in
    (o, rw c.refusal_code-in-Err.ensures (spent-refused (λ st. spending_with a.entries.now a.boxes.now st (entry_seen o)) _ _ c.if-state-lt-STATE_WORDS.false c.if-answer-lt-ROW_WORDS.false _ c.load_state-mempool.ensures c.spending_tx-found.ensures.result_value _ c.in-Err.is))

pub returns-in-Err-clause-rows_2 : goal.returns-in-Err-clause-rows_2
returns-in-Err-clause-rows_2 c = let a = c.args in
    let o = c.spending_tx-found.result in
    λ k l. rw c.refusal_code-in-Err.ensures (spent-refused (λ st. spending_of a.entries.now a.boxes.now st (id_of (record { a = a.a; b = a.b; c = a.c; d = a.d }))) _ _ c.if-state-lt-STATE_WORDS.false c.if-answer-lt-ROW_WORDS.false _ c.load_state-mempool.ensures (c.spending_tx-found.ensures.result_value_2 (rw c.load_state-mempool.ensures k) (rw c.load_state-mempool.ensures l)) _ c.in-Err.is)
