-- `expiring_cache::make_room` meets its contract: there is room, or the rows are moved to the front (`roomy_moved`). Assumes nothing.
use Rattle.expiring_cache.specs.Adding.{roomy_moved}
use Rattle.expiring_cache.proofs.make_room.Goals as goal

pub returns : goal.returns
returns c = roomy_moved _ _ _ _ _ c.requires.1 c.gather.ensures
