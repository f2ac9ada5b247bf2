-- `Entries::validation_cost_at` meets its contract: the words are read in the slot of the rank (`at-cost`). Assumes nothing.
use Rattle.std.proofs.Common.{◌∙◌}
use Rattle.entries.specs.Cells.{at-cost, cost-read}
use Rattle.entries.specs.Layout.{cost_of}
use Rattle.entries.proofs.views.Entries.validation_cost_at.Goals as goal

pub returns : goal.returns
returns c = c.then_some.ensures ∙ cost-read _ _ ∙ (λ t. cost_of (c.get.ensures t) (c.get-2.ensures t)) ∙ at-cost c.args.self.now.words.now c.args.i _ c.slot_at-k.ensures.0
