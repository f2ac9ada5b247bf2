-- `changes::apply` meets its contract: what apply_block_at says of the state and the statistics that were read, with the words that were stored. Assumes nothing.
use Rattle.host.specs.Changes.{block_words}
use Rattle.host.specs.Results.{says-by}
use Rattle.host.proofs.changes.apply.Goals as goal

pub returns : goal.returns
returns c = block_words _ _ _ _ _ _ _ _ _ _ _ _ _ _ _ _ _ c.apply_block_by_value-applied.result c.requires.in_bounds c.requires.in_bounds_2 c.load_state-mempool.ensures c.load_stats-before.ensures c.apply_block_by_value-applied.ensures.block_promise c.apply_block_by_value-applied.ensures.by_index.0 c.apply_block_by_value-applied.ensures.by_index.1 c.apply_block_by_value-applied.ensures.outcome_value_2 c.apply_block_by_value-applied.ensures.by_index_2 c.store_stats.ensures c.store_left.ensures c.apply_block_by_value-applied.ensures.outcome_value (says-by c.put.ensures c.into.ensures)
