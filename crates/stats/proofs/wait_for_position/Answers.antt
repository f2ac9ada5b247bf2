-- `wait_for_position` meets its contract, from what the product and the quotient ensure.
-- Assumes nothing.
use mathlib.Core.Path.{◌∙◌}
use native.Mathlib.Nat.{mul_comm}
use Rattle.stats.proofs.wait_for_position.Goals as goal

pub returns : goal.returns
returns c =
    c.quotient.ensures
    ∙ rw (c.product.ensures, mul_comm c.args.position _, c.elapsed.ensures)
