-- `Entries::since_at` meets its contract: both words are read in the slot of the rank (`at-field`). Assumes nothing.
use Rattle.std.proofs.Common.{◌∙◌}
use Rattle.entries.specs.Cells.{at-field}
use Rattle.entries.specs.declared.fields.Field.TheVariants.{Base, Created}
use Rattle.entries.proofs.views.Entries.since_at.Goals as goal

pub returns : goal.returns
returns c =
    let a = c.args in
    let slot = c.slot_at-k.ensures.0 in
    (c.get.ensures ∙ at-field a.self.now.words.now a.i _ _ Created slot c.place.ensures.0, c.get-2.ensures ∙ at-field a.self.now.words.now a.i _ _ Base slot c.place-2.ensures.0)
