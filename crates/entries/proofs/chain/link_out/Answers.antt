-- `chain::link_out` meets its contract: two stores (`linked-out`). Assumes nothing.
use Rattle.std.proofs.Common.{ap, ◌∙◌, arith}
use Rattle.words.specs.Chains.{bounded-le}
use Rattle.entries.specs.Index.{home_of, link_at}
use Rattle.entries.specs.Marking.{linked-out}
use Rattle.entries.proofs.chain.link_out.Goals as goal

pub name_of-next-requires : goal.name_of-next-requires
name_of-next-requires c = omega (arith, c.link.ensures, bounded-le c.args.i (link_at c.args.s.now c.args.i))

pub returns : goal.returns
returns c =
    let a = c.args in
    linked-out a.s.now _ _ a.u _ a.i _ _ _ c.requires.0 c.requires.1 (c.home_of-b.ensures.0 ∙ ap (home_of a.s.now) c.get.ensures) c.cut_at-cut.ensures (c.name_of-next.ensures ∙ c.link.ensures) c.mend.ensures c.put.ensures
