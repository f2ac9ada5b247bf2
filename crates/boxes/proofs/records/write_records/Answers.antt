-- `records::write_records` meets its contract: one list behind the other (`wrote-both`). Assumes nothing.
use Rattle.words.specs.Ids.{id_of}
use Rattle.boxes.specs.Writing.{wrote-both}
use Rattle.boxes.proofs.records.write_records.Goals as goal

pub returns : goal.returns
returns c = wrote-both c.args.free.now _ _ _ (id_of c.args.owner) c.args.lists.now.inputs.width c.args.lists.now.inputs.words.now c.args.lists.now.outputs.width c.args.lists.now.outputs.words.now c.len-at.ensures c.write_list.ensures c.write_list-2.ensures
