-- `links::link_in` meets its contract: the newest row of the bucket is its link, and it is the head. Assumes nothing.
use Rattle.std.proofs.Common.{ℕ, ◌+◌, ◌-◌, ◌∙◌, ap, arith, add-one, sym}
use Rattle.words.specs.Chains.{checked-le}
use Rattle.expiring_cache.specs.Layout.{hash_at, head_at}
use Rattle.expiring_cache.specs.Index.{linked-is}
use Rattle.expiring_cache.proofs.links.link_in.Goals as goal

pub name_of-older-requires : goal.name_of-older-requires
name_of-older-requires c =
    let a = c.args in
    omega (arith, c.head.ensures, checked-le (λ (i : ℕ). hash_at a.cache.now (a.first + i)) a.n c.bucket_at-b.result (head_at a.cache.now c.bucket_at-b.result - a.first))

pub overflow_add-cache : goal.overflow_add-cache
overflow_add-cache c =
    let a = c.args in
    omega (arith, c.name_of-older.ensures, c.head.ensures, checked-le (λ (i : ℕ). hash_at a.cache.now (a.first + i)) a.n c.bucket_at-b.result (head_at a.cache.now c.bucket_at-b.result - a.first))

pub returns : goal.returns
returns c =
    linked-is _ _ _ _ _ _ c.bucket_at-b.ensures.0 (ap (λ (x : ℕ). c.args.first + x) (c.name_of-older.ensures ∙ c.head.ensures)) (c.name_of.ensures ∙ sym (add-one (c.args.first + c.args.n)))
