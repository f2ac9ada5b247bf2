-- `records::move_in` meets its contract: the record is written, and linked in twice (`moved_in`). Assumes nothing.
use native.Mathlib.Omega.{arith}
use Prim.Native.Nat.{ℕ}
use mathlib.Core.Path.{ap, ◌∙◌}
use mathlib.Core.List.{List}
use Rattle.boxes.specs.Index.{linked_in}
use Rattle.boxes.specs.Compacting.{moved_in}
use Rattle.boxes.proofs.records.move_in.Goals as goal

pub returns : goal.returns
returns c = moved_in c.args.s.now _ _ c.args.from c.args.to c.requires.1 c.move_box.auto.s c.move_box.ensures (omega (arith, c.move_box.auto.s)) (c.link_in-2.ensures ∙ ap (λ (x : List ℕ). linked_in x 1 c.args.to) c.link_in.ensures)
