-- `chain::link_in` meets its contract: three stores at a place of the chain (`linked-in`). Assumes nothing.
use mathlib.Core.Path.{ap, ◌∙◌}
use Rattle.entries.specs.Index.{home_of}
use Rattle.entries.specs.Marking.{linked-in}
use Rattle.entries.proofs.chain.link_in.Goals as goal

pub returns : goal.returns
returns c =
    let a = c.args in
    linked-in a.s.now _ _ _ a.u _ a.i _ _ _ _ c.requires.0 c.requires.1 (c.home_of-b.ensures.0 ∙ ap (home_of a.s.now) c.get.ensures) c.cut_at-cut.ensures c.name_of.ensures c.name_of-2.ensures c.put.ensures c.mend.ensures c.put-2.ensures
