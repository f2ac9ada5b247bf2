-- `Entries::id_at` meets its contract: the id is read in the slot of the rank (`at-id`). Assumes nothing.
use Rattle.std.proofs.Common.{◌∙◌}
use Rattle.entries.specs.Cells.{at-id}
use Rattle.entries.proofs.views.Entries.id_at.Goals as goal

pub returns : goal.returns
returns c = c.id_in.ensures ∙ at-id c.args.self.now.words.now c.args.i _ c.slot_at.ensures.0
