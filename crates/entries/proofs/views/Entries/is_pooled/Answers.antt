-- `Entries::is_pooled` meets its contract, from what `find_slot` ensures (`slot-told`). Assumes nothing.
use Rattle.std.proofs.Common.{◌∙◌}
use Rattle.words.specs.Ids.{id_of}
use Rattle.entries.specs.Changing.{slot-told}
use Rattle.entries.proofs.views.Entries.is_pooled.Goals as goal

pub returns : goal.returns
returns c k = c.is_some.ensures ∙ slot-told c.args.self.now.words.now _ c.args.self.now.pooled (id_of c.args.id) c.known.ensures.0 _ c.find_slot.ensures k
