-- `links::seek` meets its contract. The loop's invariant: no row at a place from `next` on has the id (`Seeks`). The measure is `next`, since links go down. Assumes nothing.
use Rattle.std.proofs.Common.{sym, ap, ◌∙◌, arith}
use Rattle.words.specs.Chains.{name_of}
use Rattle.expiring_cache.specs.Seeking.{AllWords, hash_of, seeks-first, link-less, seeks-next, seek-empty, seek-end, seek_hit}
use Rattle.expiring_cache.proofs.links.seek.Goals as goal

pub returns-then-n-eq0 : goal.returns-then-n-eq0
returns-then-n-eq0 c = λ k. seek-empty _ _ _ c.if-n-eq0.true

pub loop-next-init : goal.loop-next-init
unfolding AllWords hash_of
loop-next-init c = seeks-first c.args.cache.now _ _ c.args.id (λ i. omega (arith, c.type_inv.cache i)) (omega arith) _ _ c.bucket.ensures.0 c.bucket.ensures.1 c.head-next.ensures

pub returns-then-eq : goal.returns-then-eq
returns-then-eq c =
    seek_hit c.args.cache.now _ c.args.id _ _ c.requires.starts c.loop-next.invariant _ _ _ (ap name_of c.in-Some.is) c.row_id.ensures (sym c.eq.ensures ∙ c.if-eq.true) c.row_since.ensures

pub loop-next-smaller : goal.loop-next-smaller
loop-next-smaller c = link-less _ _ _ _ c.link-next.ensures (ap name_of c.in-Some.is)

pub loop-next-preserved : goal.loop-next-preserved
unfolding AllWords
loop-next-preserved c =
    seeks-next c.args.cache.now _ _ c.args.id (λ i. omega (arith, c.type_inv.cache i)) (omega arith) _ _ c.loop-next.invariant (ap name_of c.in-Some.is) _ _ c.row_id.ensures (sym c.eq.ensures ∙ c.if-eq.false) c.link-next.ensures

pub returns : goal.returns
returns c = seek-end c.args.cache.now _ c.args.id _ _ c.requires.starts c.loop-next.invariant (ap name_of c.in_default.is)
