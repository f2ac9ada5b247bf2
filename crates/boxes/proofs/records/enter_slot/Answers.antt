-- `records::enter_slot` meets its contract: the older entries for its box are hidden, and the slot is linked in twice (`one_in`). Assumes nothing.
use native.Mathlib.Omega.{arith}
use Prim.Native.Nat.{ℕ}
use mathlib.Core.Path.{ap, ◌∙◌}
use mathlib.Core.List.{List}
use Rattle.boxes.specs.Index.{linked_in}
use Rattle.boxes.specs.Linking.{one_in}
use Rattle.boxes.proofs.records.enter_slot.Goals as goal

pub returns : goal.returns
returns c = one_in c.args.s.now _ _ c.args.i _ _ c.hide_all.auto.s c.box_key-key.ensures c.box_out-out.ensures c.hide_all.ensures (omega (arith, c.hide_all.auto.s)) (c.link_in-2.ensures ∙ ap (λ (x : List ℕ). linked_in x 1 c.args.i) c.link_in.ensures)
