-- `Entries::entry_at` meets its contract: it is made of its fields, each read by its reader. Assumes nothing.
use Rattle.entries.specs.Layout.{entry_of}
use Rattle.entries.proofs.views.Entries.entry_at.Goals as goal

pub returns : goal.returns
unfolding entry_of
returns c =
    λ t.
    record {
      id = c.id_at.ensures t;
      weight = c.weight_at.ensures t;
      base = c.base_at.ensures t;
      size = c.word_at.ensures t;
      cost = c.word_at-2.ensures t;
      validation_cost = c.validation_cost_at.ensures t;
      created = c.created_at.ensures t;
      last_checked = c.last_checked_at.ensures t;
      height_key = c.height_key_at.ensures t;
      inputs = c.inputs_at.ensures t;
    }
