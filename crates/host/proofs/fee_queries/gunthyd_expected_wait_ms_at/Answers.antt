-- `gunthyd_expected_wait_ms_at` meets its contract: what expected_wait_in says of the statistics' words and the number pooled that was read. Assumes nothing.
use mathlib.Core.Path.{◌∙◌}
use native.Mathlib.Omega.{arith}
use Rattle.host.specs.Fees.{figure-few, figure-few-stats, figure-room, figure-by, wait-words}
use Rattle.host.proofs.fee_queries.gunthyd_expected_wait_ms_at.Goals as goal

pub returns-then-state-lt-STATE_WORDS : goal.returns-then-state-lt-STATE_WORDS
returns-then-state-lt-STATE_WORDS c = rw c.refusal_code.ensures (figure-few _ _ _ _ c.if-state-lt-STATE_WORDS.true)

pub returns-then-stats-lt-STATS_WORDS : goal.returns-then-stats-lt-STATS_WORDS
returns-then-stats-lt-STATS_WORDS c = rw c.refusal_code-then-stats-lt-STATS_WORDS.ensures (figure-few-stats _ _ _ _ c.if-state-lt-STATE_WORDS.false c.if-stats-lt-STATS_WORDS.true)

pub returns-then-answer-lt1 : goal.returns-then-answer-lt1
returns-then-answer-lt1 c = rw c.refusal_code-then-answer-lt1.ensures (figure-room _ _ _ _ c.if-state-lt-STATE_WORDS.false c.if-stats-lt-STATS_WORDS.false c.if-answer-lt1.true)

pub returns : goal.returns
returns c =
    figure-by _ _ _ _ (omega arith) (omega arith) (omega arith) (c.expected_wait_in-outcome.ensures ∙ wait-words _ _ _ _ _ _ c.load_state-mempool.ensures) c.put_number.ensures
