-- `order::turn_in` meets its contract: the words of the ranks are a slice that turns. Assumes nothing.
use Rattle.std.proofs.Common.{arith, refl}
use Rattle.entries.specs.Turning.{turned-in}
use Rattle.entries.proofs.order.turn_in.Goals as goal

pub returns : goal.returns
returns c =
    let turn = c.rotate_right.ensures in
    turned-in _ _ _ _ _ _ _ c.requires.0 c.requires.1 c.place-from.ensures (omega (arith, c.place-to.ensures)) refl turn.len turn.by_index
