-- `chains::named` meets its contract. Assumes nothing.
use Rattle.std.proofs.Common.{ℕ, ◌≡◌, ◌≤◌, ◌-◌, arith}
use Rattle.std.specs.Prelude.{Option, Some, None, SomeIff}
use Rattle.words.specs.Chains.{name_of}
use Rattle.words.proofs.chains.named.Goals as goal

is : (w : ℕ) (r : Option ℕ) → SomeIff r (1 ≤ w) (w - 1) → name_of r ≡ w
is w None h = omega (arith, h)
is w (Some i) h = omega (arith, h.0, h.1)

pub returns : goal.returns
returns c = is _ _ c.checked_sub.ensures
