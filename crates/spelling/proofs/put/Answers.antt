-- `put` meets its contract: one byte or two. Assumes nothing.
use native.Mathlib.Omega.{arith}
use mathlib.Core.Path.{sym, ◌∙◌}
use Rattle.spelling.specs.Tidied.{owed-due, put_both, put-single}
use Rattle.spelling.proofs.put.Goals as goal

pub byte-requires : goal.byte-requires
byte-requires c = omega (arith, owed-due _ _ (sym c.owes.ensures ∙ c.if-owes.true), c.byte-k.ensures.ends)

pub returns-then-owes : goal.returns-then-owes
returns-then-owes c = put_both _ _ (sym c.owes.ensures ∙ c.if-owes.true) c.lower.ensures (omega (arith, c.byte-k.ensures.ends)) c.byte-k.ensures c.byte.ensures

pub returns : goal.returns
returns c = put-single _ _ (sym c.owes.ensures ∙ c.if-owes.false) c.lower-2.ensures c.byte-2.ensures
