-- `records::enter_behind` meets its contract: the records are written, enter, and the used slots are told (`behind`). Assumes nothing.
use native.Mathlib.Omega.{arith}
use mathlib.Core.Path.{refl}
use Rattle.words.specs.Ids.{id_of}
use Rattle.boxes.specs.Posts.{behind}
use Rattle.boxes.proofs.records.enter_behind.Goals as goal

pub returns : goal.returns
returns c = behind c.args.s.now _ _ _ c.args.used (id_of c.args.owner) c.args.lists.now.inputs.width c.args.lists.now.inputs.words.now c.args.lists.now.outputs.width c.args.lists.now.outputs.words.now _ _ (omega (arith, c.len-n.ensures)) c.requires.outputs_bound c.write_behind.auto.s c.enter_slots.auto.s c.write_behind.ensures c.enter_slots.ensures refl c.put_used.ensures
