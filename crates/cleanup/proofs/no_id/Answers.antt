-- `cleanup::no_id` meets its contract. Assumes nothing.
use Rattle.cleanup.specs.Laws.{no-id}
use Rattle.cleanup.proofs.no_id.Goals as goal

pub returns : goal.returns
returns c = no-id
