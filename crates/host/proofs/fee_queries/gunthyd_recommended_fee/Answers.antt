-- `gunthyd_recommended_fee` meets its contract: what recommended_in says of the statistics' words and the minimum fee that was read. Assumes nothing.
use mathlib.Core.Path.{◌∙◌}
use native.Mathlib.Omega.{arith}
use lib.ListN.{length-take, length-drop}
use Rattle.host.specs.Fees.{figure-few, figure-few-stats, figure-room, figure-by, fee-words}
use Rattle.host.proofs.fee_queries.gunthyd_recommended_fee.Goals as goal

pub returns-then-state-lt-STATE_WORDS : goal.returns-then-state-lt-STATE_WORDS
returns-then-state-lt-STATE_WORDS c = rw c.refusal_code.ensures (figure-few _ _ _ _ c.if-state-lt-STATE_WORDS.true)

pub returns-then-stats-lt-STATS_WORDS : goal.returns-then-stats-lt-STATS_WORDS
returns-then-stats-lt-STATS_WORDS c = rw c.refusal_code-then-stats-lt-STATS_WORDS.ensures (figure-few-stats _ _ _ _ c.if-state-lt-STATE_WORDS.false c.if-stats-lt-STATS_WORDS.true)

pub returns-then-answer-lt1 : goal.returns-then-answer-lt1
returns-then-answer-lt1 c = rw c.refusal_code-then-answer-lt1.ensures (figure-room _ _ _ _ c.if-state-lt-STATE_WORDS.false c.if-stats-lt-STATS_WORDS.false c.if-answer-lt1.true)

pub slice_bounds-recommended_in-end : goal.slice_bounds-recommended_in-end
slice_bounds-recommended_in-end c = simp length-take (omega arith)

pub recommended_in-outcome-requires : goal.recommended_in-outcome-requires
recommended_in-outcome-requires c = (simp length-take (omega arith), simp (length-take, length-drop) (omega arith))

pub returns : goal.returns
returns c =
    figure-by _ _ _ _ (omega arith) (omega arith) (omega arith) (c.recommended_in-outcome.ensures ∙ fee-words _ _ _ _ c.load_config-config.ensures) c.put_number.ensures
