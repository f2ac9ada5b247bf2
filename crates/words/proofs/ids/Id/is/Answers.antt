-- `ids::Id::is` meets its contract: ids whose words differ are different numbers (`id-inj`). `omega` finds that each word is below 2 ^ 64. Assumes nothing.
use Rattle.std.proofs.Common.{sym, arith, ne_eqb}
use Rattle.words.specs.Ids.{id_of, id-inj}
use Rattle.words.proofs.ids.Id.is.Goals as goal

pub returns-then-self-other : goal.returns-then-self-other
returns-then-self-other c = let a = c.args in sym (ne_eqb (id_of a.self) (id_of a.other) (λ e. c.if-self-other.true (id-inj a.self a.other (omega arith) (omega arith) e).3))

pub returns-then-self-other-2 : goal.returns-then-self-other-2
returns-then-self-other-2 c = let a = c.args in sym (ne_eqb (id_of a.self) (id_of a.other) (λ e. c.if-self-other-2.true (id-inj a.self a.other (omega arith) (omega arith) e).2))

pub returns-then-self-other-3 : goal.returns-then-self-other-3
returns-then-self-other-3 c = let a = c.args in sym (ne_eqb (id_of a.self) (id_of a.other) (λ e. c.if-self-other-3.true (id-inj a.self a.other (omega arith) (omega arith) e).1))

pub returns-then-self-other-4 : goal.returns-then-self-other-4
returns-then-self-other-4 c = let a = c.args in sym (ne_eqb (id_of a.self) (id_of a.other) (λ e. c.if-self-other-4.true (id-inj a.self a.other (omega arith) (omega arith) e).0))
