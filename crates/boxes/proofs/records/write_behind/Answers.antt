-- `records::write_behind` meets its contract: what the writer leaves in the part that is lent stands behind the used slots (`wrote-lent`). Assumes nothing.
use native.Mathlib.Omega.{arith}
use Rattle.words.specs.Ids.{id_of}
use Rattle.boxes.specs.Writing.{wrote-lent}
use Rattle.boxes.proofs.records.write_behind.Goals as goal

pub returns : goal.returns
returns c = wrote-lent c.args.s.now c.write_records.new.free c.args.used (id_of c.args.owner) c.args.lists.now.inputs.width c.args.lists.now.inputs.words.now c.args.lists.now.outputs.width c.args.lists.now.outputs.words.now (omega (arith, c.requires)) c.write_records.ensures
