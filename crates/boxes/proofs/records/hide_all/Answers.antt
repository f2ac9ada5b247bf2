-- `records::hide_all` meets its contract. The loop's invariant: the slots from `next` on are hidden, and those below are as they were (`Hides`). The measure is `next`, since
-- links go down. Assumes nothing.
use borrow.Author.Rules.{rules}
use Rattle.std.proofs.Common.{ap, arith}
use Rattle.words.specs.Chains.{name_of}
use Rattle.boxes.specs.Index.{AllWords}
use Rattle.boxes.specs.Searching.{link-less}
use Rattle.boxes.specs.Hiding.{hides-first, hides-next}
use Rattle.boxes.proofs.records.hide_all.Goals as goal

pub loop-next-init : goal.loop-next-init
unfolding AllWords
loop-next-init c = hides-first c.args.s.now c.args.n c.args.out c.args.key (λ i. search rules) (omega arith) _ _ (omega (arith, c.bucket_in.ensures.1)) c.bucket_in.ensures.0 c.head-next.ensures

pub loop-next-smaller : goal.loop-next-smaller
loop-next-smaller c = link-less _ _ _ _ c.link-next.ensures (ap name_of c.in-Some.is)

pub loop-next-preserved : goal.loop-next-preserved
unfolding AllWords
loop-next-preserved c = hides-next c.args.s.now c.args.n c.args.out c.args.key (λ i. search rules) (omega arith) _ _ _ _ _ c.loop-next.invariant (ap name_of c.in-Some.is) c.hide_at.auto.s c.hide_at.ensures c.link-next.ensures
