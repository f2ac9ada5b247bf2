-- `records::leave_all` meets its contract. The loop's invariant: the slots from `next` on are left, those below are as they were, and `left` records are counted
-- (`Leaves`). The measure is `next`, since links go down. Assumes nothing.
use borrow.Author.Rules.{rules}
use Rattle.std.proofs.Common.{ap, arith}
use Rattle.words.specs.Chains.{name_of}
use Rattle.boxes.specs.Index.{AllWords}
use Rattle.boxes.specs.Searching.{link-less}
use Rattle.boxes.specs.Leaving.{leaves-first, leaves-next, leaves-end}
use Rattle.boxes.proofs.records.leave_all.Goals as goal

pub loop-next-init : goal.loop-next-init
unfolding AllWords
loop-next-init c = leaves-first c.args.s.now c.args.used c.args.n c.args.owner (λ i. search rules) (omega arith) _ _ (omega (arith, c.bucket_in.ensures.1)) c.bucket_in.ensures.0 c.head-next.ensures

pub loop-next-smaller : goal.loop-next-smaller
loop-next-smaller c = link-less _ _ _ _ c.link-next.ensures (ap name_of c.in-Some.is)

pub loop-next-preserved : goal.loop-next-preserved
unfolding AllWords
loop-next-preserved c = leaves-next c.args.s.now c.args.used c.args.n c.args.owner (λ i. search rules) (omega arith) _ _ c.loop-next.left _ _ _ _ c.loop-next.invariant (ap name_of c.in-Some.is) c.leave-left.auto.s c.leave-left.ensures c.link-next.ensures

pub returns : goal.returns
unfolding AllWords
returns c = leaves-end c.args.s.now c.args.used c.args.n c.args.owner (λ i. search rules) (omega arith) _ c.loop-next.left _ c.requires.1 c.loop-next.invariant (ap name_of c.in_default.is)
