-- `rows::put_slot` meets its contract: the word is the kind's number. Assumes nothing.
use Rattle.std.proofs.Common.{subst, ap}
use Rattle.words.specs.Ids.{id_of}
use Rattle.boxes.specs.Layout.{slot_of}
use Rattle.boxes.specs.Stores.{Put}
use Rattle.boxes.proofs.rows.put_slot.Goals as goal

pub returns : goal.returns
returns c = subst (Put _ _ _) (ap (slot_of (id_of c.args.key) (id_of c.args.owner)) c.from.ensures) c.put_whole.ensures
