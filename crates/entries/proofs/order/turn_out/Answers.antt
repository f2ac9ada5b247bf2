-- `order::turn_out` meets its contract: the words of the ranks are a slice that turns. Assumes nothing.
use Rattle.std.proofs.Common.{arith, refl}
use Rattle.entries.specs.Turning.{turned-out}
use Rattle.entries.proofs.order.turn_out.Goals as goal

pub returns : goal.returns
returns c =
    let turn = c.first_to_last.ensures in
    turned-out _ _ _ _ _ _ _ c.requires.0 c.requires.1 c.place-from.ensures (omega (arith, c.place-to.ensures)) refl turn.len turn.turned
