-- `rows::move_box` meets its contract: what was read whole is written (`read_whole`). Assumes nothing.
use mathlib.Core.Path.{subst}
use Rattle.boxes.specs.Stores.{Put, read_whole}
use Rattle.boxes.proofs.rows.move_box.Goals as goal

pub returns : goal.returns
returns c = subst (Put _ _ _) (read_whole c.args.s.now c.args.from c.column_id-key.ensures c.column_id-owner.ensures c.kind_word-kind.ensures) c.put_whole.ensures
