-- `ids::Id::against` meets its contract: the first words that differ decide (`cmp-a` .. `cmp-d`). Assumes nothing.
use Rattle.std.proofs.Common.{arith, ◌∙◌}
use Rattle.words.specs.Ids.{cmp-a, cmp-b, cmp-c, cmp-d}
use Rattle.words.proofs.ids.Id.against.Goals as goal

pub returns-then-self-other : goal.returns-then-self-other
returns-then-self-other c =
    let a = c.args in
    c.cmp.ensures ∙ cmp-a a.self a.other (omega arith) (omega arith) c.if-self-other.true

pub returns-then-self-other-2 : goal.returns-then-self-other-2
returns-then-self-other-2 c =
    let a = c.args in
    c.cmp-then-self-other-2.ensures ∙ cmp-b a.self a.other (omega arith) (omega arith) c.if-self-other.false c.if-self-other-2.true

pub returns-then-self-other-3 : goal.returns-then-self-other-3
returns-then-self-other-3 c =
    let a = c.args in
    c.cmp-then-self-other-3.ensures ∙ cmp-c a.self a.other (omega arith) (omega arith) c.if-self-other.false c.if-self-other-2.false c.if-self-other-3.true

pub returns : goal.returns
returns c =
    let a = c.args in
    c.cmp-2.ensures ∙ cmp-d a.self a.other (omega arith) (omega arith) c.if-self-other.false c.if-self-other-2.false c.if-self-other-3.false
