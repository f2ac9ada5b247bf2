-- `chain::is_in` meets its contract: ids with the same last word are in one bucket, and a slot that is not in use is in none. Assumes nothing.
use Rattle.std.proofs.Common.{◌∙◌, eq-eqb}
use Rattle.entries.specs.Index.{in-none, in-same, in-other}
use Rattle.entries.proofs.chain.is_in.Goals as goal

pub returns-then-get-ne1 : goal.returns-then-get-ne1
returns-then-get-ne1 c =
    let a = c.args in
    in-none a.s.now a.i a.b a.d _ c.requires.0 c.requires.1 c.get.ensures c.if-get-ne1.true

pub returns-then-e-d : goal.returns-then-e-d
returns-then-e-d c =
    let a = c.args in
    eq-eqb _ _ c.if-e-d.true ∙ in-same a.s.now a.i a.b a.d _ c.requires.0 c.requires.1 c.get.ensures _ c.if-get-ne1.false c.get-e.ensures c.if-e-d.true

pub returns-else-e-d : goal.returns-else-e-d
returns-else-e-d c =
    let a = c.args in
    in-other a.s.now a.i a.b a.d _ c.requires.0 c.requires.1 c.get.ensures _ _ c.if-get-ne1.false c.get-e.ensures c.home_of.ensures.0
