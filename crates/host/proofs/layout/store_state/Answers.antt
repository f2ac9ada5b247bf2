-- `layout::store_state` meets its contract: the words 9 to 23, what `store_left` leaves and the pass (`stored-parts`). Assumes nothing.
use Rattle.std.proofs.Common.{refl}
use Rattle.host.specs.State.{left_words}
use Rattle.host.specs.Stored.{stored-parts}
use Rattle.host.proofs.layout.store_state.Goals as goal

pub returns : goal.returns
unfolding left_words
returns c = stored-parts _ _ _ _ _ _ c.requires c.store_pass.ensures.preheader_value refl refl c.store_left.ensures c.store_pass.ensures.s_after
