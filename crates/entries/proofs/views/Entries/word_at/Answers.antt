-- `Entries::word_at` meets its contract: the word is read in the slot of the rank (`at-field`). Assumes nothing.
use Rattle.std.proofs.Common.{◌∙◌}
use Rattle.entries.specs.Cells.{at-field}
use Rattle.entries.proofs.views.Entries.word_at.Goals as goal

pub returns : goal.returns
returns c = c.get.ensures ∙ at-field c.args.self.now.words.now c.args.i _ _ c.args.field c.slot_at.ensures.0 c.place.ensures.0
