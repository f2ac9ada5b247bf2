-- `chain::cut_at` meets its contract. The loop's invariant: `above` is on the chain over slot i, and `below` is what it links to (`Cuts`). The measure is `below`, since links go
-- down. Assumes nothing.
use Rattle.std.proofs.Common.{arith, ap, refl}
use Rattle.entries.specs.Splice.{link-less}
use Rattle.words.specs.Chains.{name_of}
use Rattle.entries.specs.Index.{cuts_first, cuts-next}
use Rattle.entries.proofs.chain.cut_at.Goals as goal

pub loop-below-init : goal.loop-below-init
loop-below-init c = cuts_first c.args.s.now c.args.u c.args.b c.args.i _ c.requires.1 c.head-below.ensures

pub loop-below-smaller : goal.loop-below-smaller
loop-below-smaller c = link-less _ _ _ _ c.link-below.ensures (ap name_of c.in-Some.is)

pub loop-below-preserved : goal.loop-below-preserved
loop-below-preserved c =
    cuts-next c.args.s.now c.args.u c.args.b c.args.i _ _ c.in-Some.j _ c.requires.1 (rw c.in-Some.is at c.loop-below.invariant) refl (omega arith) c.link-below.ensures
