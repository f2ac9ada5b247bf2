-- `gunthyd_apply_block_at` meets its contract: too few words change nothing, else the block is applied. Assumes nothing.
use Rattle.host.specs.Changes.{block-few, block-short}
use Rattle.host.specs.Results.{lacked}
use Rattle.host.proofs.changes.gunthyd_apply_block_at.Goals as goal

pub returns-then-state-lt-STATE_WORDS : goal.returns-then-state-lt-STATE_WORDS
returns-then-state-lt-STATE_WORDS c = block-few _ _ _ _ _ _ _ _ _ _ _ c.if-state-lt-STATE_WORDS.true c.refuse.ensures

pub returns-then-lacks : goal.returns-then-lacks
returns-then-lacks c = block-short _ _ _ _ _ _ _ _ _ _ _ c.if-state-lt-STATE_WORDS.false c.lacks.ensures c.if-lacks.true c.too_few.ensures c.refuse-then-lacks.ensures

pub apply-requires-clause-in_bounds_2 : goal.apply-requires-clause-in_bounds_2
apply-requires-clause-in_bounds_2 c = lacked _ _ _ c.lacks.ensures c.if-lacks.false
