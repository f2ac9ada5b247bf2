-- `links::link_in` meets its contract. Assumes nothing.
use Rattle.std.proofs.Common.{◌∙◌, arith, add-one, sym}
use Rattle.words.specs.Chains.{checked-le}
use Rattle.boxes.specs.Index.{hash_at, head_at, linked-is}
use Rattle.boxes.proofs.links.link_in.Goals as goal

pub name_of-older-requires : goal.name_of-older-requires
name_of-older-requires c =
    let a = c.args in
    omega (arith, c.head.ensures, checked-le (hash_at a.s.now a.c) a.n c.bucket_at-b.result (head_at a.s.now a.c c.bucket_at-b.result))

pub returns : goal.returns
returns c = linked-is c.args.s.now c.args.c c.args.n _ _ _ _ c.bucket_at-b.ensures.0 c.head_place-place.ensures.0 (c.name_of-older.ensures ∙ c.head.ensures) (c.name_of.ensures ∙ sym (add-one c.args.n))
