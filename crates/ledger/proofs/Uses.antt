-- The boxes of the book's transactions, as the pool's records have them (`uses_in`): what leaves with a transaction, what is one transaction's own, and
-- its inputs and outputs in order.
use Rattle.std.specs.Prelude.{ℕ, ◌+◌, ◌≡◌, refl, Bool, true, false, not, ◌&&◌, List, [], ◌∷◌, ◌++◌, map, eqb}
use Rattle.std.proofs.Common.{ap, ◌∙◌, append-nil, arith, eqb-true}
use Rattle.words.specs.Lists.{pick, keep, count, Once, once-head, once-tail, count-append, keep_append, keep_all, keep-none, map-append, absent-head, absent-tail}
use Rattle.boxes.specs.Records.{BoxRec, same, inputs_of, drop_owner, outputs_of}
use Rattle.boxes.specs.IndexLaws.{Use, uses, the, Unowned}
use Rattle.ledger.specs.Book.{Tx, ins_of, outs_of}
use Rattle.ledger.proofs.Same.{uses_of_tx, uses_in}

abbrev pub ids : List Tx → List ℕ
ids ts = map (λ t. t.id) ts

-- ---- a test that reads the owner alone keeps all boxes of a transaction, or none

keep-tx : (p : ℕ → Bool) (t : Tx) (b : Bool) → p t.id ≡ b → keep (λ u. p u.owner) (uses_of_tx t) ≡ pick b (uses_of_tx t) []
keep-tx p t true q =
    keep_append (λ u. p u.owner) (map (the false t.id) t.ins) (map (the true t.id) t.outs)
    ∙ rw (keep_all (the false t.id) (λ u. p u.owner) (λ b. q) t.ins, keep_all (the true t.id) (λ u. p u.owner) (λ b. q) t.outs)
keep-tx p t false q =
    keep_append (λ u. p u.owner) (map (the false t.id) t.ins) (map (the true t.id) t.outs)
    ∙ rw (keep-none (the false t.id) (λ u. p u.owner) (λ b. q) t.ins, keep-none (the true t.id) (λ u. p u.owner) (λ b. q) t.outs)

pub keep-uses : (p : ℕ → Bool) (ts : List Tx) → keep (λ u. p u.owner) (uses_in ts) ≡ uses_in (keep (λ t. p t.id) ts)
keep-uses p [] = refl
keep-uses p (t ∷ ts) =
    keep_append (λ u. p u.owner) (uses_in ts) (uses_of_tx t)
    ∙ rw (keep-uses p ts, keep-tx p t (p t.id) refl) (go (p t.id))
  where
    go : (b : Bool) → uses_in (keep (λ t. p t.id) ts) ++ pick b (uses_of_tx t) [] ≡ uses_in (pick b (t ∷ keep (λ t. p t.id) ts) (keep (λ t. p t.id) ts))
    go true = refl
    go false = append-nil _

-- ---- one that is not in the book has none

keep-absent : (k : ℕ) (ts : List Tx) → count k (ids ts) ≡ 0 → keep (λ t. eqb t.id k) ts ≡ []
keep-absent k [] h = refl
keep-absent k (t ∷ ts) h = rw (absent-head k t.id (ids ts) h) (keep-absent k ts (absent-tail k t.id (ids ts) h))

-- one that is owns its inputs, then its outputs
pub uses-own : (k : ℕ) (ts : List Tx) → Once (ids ts) → uses_in (keep (λ t. eqb t.id k) ts) ≡ map (the false k) (ins_of k ts) ++ map (the true k) (outs_of k ts)
uses-own k [] h = refl
uses-own k (t ∷ ts) h = go (eqb t.id k) refl (uses-own k ts (once-tail t.id (ids ts) h))
  where
    go : (b : Bool) → eqb t.id k ≡ b → uses_in (keep (λ t. eqb t.id k) ts) ≡ map (the false k) (ins_of k ts) ++ map (the true k) (outs_of k ts)
        → uses_in (pick b (t ∷ keep (λ t. eqb t.id k) ts) (keep (λ t. eqb t.id k) ts))
        ≡ map (the false k) (pick b t.ins (ins_of k ts)) ++ map (the true k) (pick b t.outs (outs_of k ts))
    go true q ih =
        let e : t.id ≡ k = eqb-true t.id k q in
        rw (keep-absent k ts (rw e at (once-head t.id (ids ts) h)), e)
    go false q ih = ih

-- ---- no record is owned by one that is not in the book

count-the : (o : Bool) (j k : ℕ) → eqb j k ≡ false → (bs : List ℕ) → count k (map (λ u. u.owner) (map (the o j) bs)) ≡ 0
count-the o j k n [] = refl
count-the o j k n (b ∷ bs) = rw n (omega (arith, count-the o j k n bs))

abbrev owners_of : List Use → List ℕ
owners_of us = map (λ u. u.owner) us

count-owners : (k : ℕ) (a b : List Use) → count k (owners_of (a ++ b)) ≡ count k (owners_of a) + count k (owners_of b)
count-owners k a b = ap (count k) (map-append (λ (u : Use). u.owner) a b) ∙ count-append k (owners_of a) (owners_of b)

owners-absent : (k : ℕ) (ts : List Tx) → count k (ids ts) ≡ 0 → count k (owners_of (uses_in ts)) ≡ 0
owners-absent k [] h = refl
owners-absent k (t ∷ ts) h =
    let n : eqb t.id k ≡ false = absent-head k t.id (ids ts) h in
    omega (
      arith,
      count-owners k (uses_in ts) (uses_of_tx t),
      count-owners k (map (the false t.id) t.ins) (map (the true t.id) t.outs),
      count-the false t.id k n t.ins,
      count-the true t.id k n t.outs,
      owners-absent k ts (absent-tail k t.id (ids ts) h),
    )

owners-uses : (rs : List BoxRec) → map (λ r. r.owner) rs ≡ owners_of (uses rs)
owners-uses [] = refl
owners-uses (r ∷ rs) = ap (λ (l : List ℕ). r.owner ∷ l) (owners-uses rs)

pub unowned : (k : ℕ) (rs : List BoxRec) (ts : List Tx) → uses rs ≡ uses_in ts → count k (ids ts) ≡ 0 → Unowned k rs
unowned k rs ts e h = ap (count k) (owners-uses rs ∙ ap owners_of e) ∙ owners-absent k ts h

-- .. and nothing leaves with it
pub drop-none : (k : ℕ) (rs : List BoxRec) → Unowned k rs → drop_owner k rs ≡ rs
drop-none k [] h = refl
drop-none k (r ∷ rs) h =
    let l : List ℕ = map (λ r. r.owner) rs in
    rw (absent-head k r.owner l h) (ap (λ (x : List BoxRec). r ∷ x) (drop-none k rs (absent-tail k r.owner l h)))

-- ---- the inputs (`false`) or the outputs (`true`) of one

abbrev used_in : Bool → ℕ → List Use → List ℕ
used_in o k us = map (λ u. u.box) (keep (λ u. same o u.out) (keep (λ u. eqb u.owner k) us))

inputs-used : (k : ℕ) (rs : List BoxRec) → inputs_of k rs ≡ used_in false k (uses rs)
inputs-used k [] = refl
inputs-used k (r ∷ rs) = go (eqb r.owner k) r.out refl (inputs-used k rs)
  where
    go : (a o : Bool) → r.out ≡ o → inputs_of k rs ≡ used_in false k (uses rs)
        → pick (a && not o) (r.box ∷ inputs_of k rs) (inputs_of k rs) ≡ map (λ u. u.box) (keep (λ u. same false u.out) (pick a (record { box = r.box; owner = r.owner; out = o } ∷ keep (λ u. eqb u.owner k) (uses rs)) (keep (λ u. eqb u.owner k) (uses rs))))
    go true true e ih = ih
    go true false e ih = ap (λ (l : List ℕ). r.box ∷ l) ih
    go false o e ih = ih

outputs-used : (k : ℕ) (rs : List BoxRec) → outputs_of k rs ≡ used_in true k (uses rs)
outputs-used k [] = refl
outputs-used k (r ∷ rs) = go (eqb r.owner k) r.out refl (outputs-used k rs)
  where
    go : (a o : Bool) → r.out ≡ o → outputs_of k rs ≡ used_in true k (uses rs)
        → pick (a && o) (r.box ∷ outputs_of k rs) (outputs_of k rs) ≡ map (λ u. u.box) (keep (λ u. same true u.out) (pick a (record { box = r.box; owner = r.owner; out = o } ∷ keep (λ u. eqb u.owner k) (uses rs)) (keep (λ u. eqb u.owner k) (uses rs))))
    go true true e ih = ap (λ (l : List ℕ). r.box ∷ l) ih
    go true false e ih = ih
    go false o e ih = ih

boxes-of : (o : Bool) (k : ℕ) (bs : List ℕ) → map (λ u. u.box) (map (the o k) bs) ≡ bs
boxes-of o k [] = refl
boxes-of o k (b ∷ bs) = ap (λ (l : List ℕ). b ∷ l) (boxes-of o k bs)

module _ (k : ℕ) (rs : List BoxRec) (ts : List Tx) (e : uses rs ≡ uses_in ts) (h : Once (ids ts)) where
  pub own : keep (λ u. eqb u.owner k) (uses rs) ≡ map (the false k) (ins_of k ts) ++ map (the true k) (outs_of k ts)
  own = ap (keep (λ u. eqb u.owner k)) e ∙ keep-uses (λ x. eqb x k) ts ∙ uses-own k ts h

  abbrev of : Bool → List Use
  of o = keep (λ u. same o u.out) (map (the false k) (ins_of k ts) ++ map (the true k) (outs_of k ts))

  of-ins : of false ≡ map (the false k) (ins_of k ts)
  of-ins =
      keep_append (λ (u : Use). same false u.out) (map (the false k) (ins_of k ts)) (map (the true k) (outs_of k ts))
      ∙ rw (keep_all (the false k) (λ u. same false u.out) (λ b. refl) (ins_of k ts), keep-none (the true k) (λ u. same false u.out) (λ b. refl) (outs_of k ts)) (append-nil _)

  of-outs : of true ≡ map (the true k) (outs_of k ts)
  of-outs =
      keep_append (λ (u : Use). same true u.out) (map (the false k) (ins_of k ts)) (map (the true k) (outs_of k ts))
      ∙ rw (keep-none (the false k) (λ u. same true u.out) (λ b. refl) (ins_of k ts), keep_all (the true k) (λ u. same true u.out) (λ b. refl) (outs_of k ts))

  pub inputs-in-book : inputs_of k rs ≡ ins_of k ts
  inputs-in-book =
      inputs-used k rs
      ∙ ap (λ us. map (λ (u : Use). u.box) (keep (λ u. same false u.out) us)) own
      ∙ ap (map (λ (u : Use). u.box)) of-ins
      ∙ boxes-of false k (ins_of k ts)

  pub outputs-in-book : outputs_of k rs ≡ outs_of k ts
  outputs-in-book =
      outputs-used k rs
      ∙ ap (λ us. map (λ (u : Use). u.box) (keep (λ u. same true u.out) us)) own
      ∙ ap (map (λ (u : Use). u.box)) of-outs
      ∙ boxes-of true k (outs_of k ts)
