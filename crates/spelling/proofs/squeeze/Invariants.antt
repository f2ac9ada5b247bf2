use Prim.Native.Nat.{◌+◌, ◌≤◌}
use mathlib.Core.Path.{◌≡◌}
use mathlib.Core.Bool.{false}
use lib.ListN.{length}
use Rattle.replies.specs.ReplyLaws.{Printing}
use Rattle.spelling.specs.Spelling.{squeezed}
use Rattle.spelling.specs.SqueezeLaws.{due}
use Rattle.spelling.specs.Tidied.{is_owed, ahead}
use Rattle.spelling.proofs.squeeze.Given as goal

abbrev pub invariant-loop-i : goal.invariant-loop-i
invariant-loop-i l = (length l.out ≡ length l.initial.out) × (l.p.at + due (is_owed l.p.before) ≤ l.i) × Printing (squeezed false false l.line) (ahead l.line l.i l.p) 0 l.initial.out l.out l.p.at
