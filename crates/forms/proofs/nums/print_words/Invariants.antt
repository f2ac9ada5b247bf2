use Prim.Native.Nat.{◌≤◌}
use mathlib.Core.Path.{◌≡◌}
use lib.ListN.{length}
use Rattle.forms.specs.Nums as T
use Rattle.forms.proofs.nums.print_words.Given as goal

abbrev pub invariant-loop-w : goal.invariant-loop-w
invariant-loop-w l = (l.w-index ≤ length l.words) × (length l.out ≡ length l.initial.out) × T.Walked l.words l.w-index l.at l.initial.out l.out l.k
