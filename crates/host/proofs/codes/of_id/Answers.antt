-- `codes::of_id` meets its contract: an id is its four words (`four_is`). Assumes nothing.
use native.Mathlib.Omega.{arith}
use mathlib.Core.Path.{sym, ap}
use mathlib.Core.List.{List}
use Prim.Native.Nat.{ℕ}
use Rattle.host.specs.Codes.{sheet, four_is}
use Rattle.host.specs.Results.{told_words}
use Rattle.host.proofs.codes.of_id.Goals as goal

pub returns : goal.returns
unfolding told_words
returns c = sym (ap (λ (l : List ℕ). sheet c.args.code 0 l 0) (four_is c.args.id (omega arith)))
