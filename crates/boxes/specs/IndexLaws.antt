-- What entering and leaving do to the indexes and to what is read of the records: the pool's rule on an index as a list of pairs (`enter_pair`,
-- `drop_pairs`), one live record for each kind and box (`OneLive`), each transaction's inputs and outputs in order (`uses`, `inputs_of`).
use Rattle.std.specs.Prelude.{ℕ, ◌≡◌, refl, Bool, true, false, not, ◌&&◌, List, [], ◌∷◌, ◌++◌, map, eqb}
use Rattle.std.proofs.Common.{sym, ap, ◌∙◌, append_assoc, append-nil, arith, eq-eqb, eqb-true}
use Rattle.std.proofs.lemmas.Bool.{eqb-false}
use Rattle.words.specs.Lists.{pick, keep, other, count, Once, keep-map, map-append, count-map-keep, once_last, absent-head, absent-tail}
use Rattle.boxes.specs.Records.{BoxRec, Pair, same, hide, enter_box, enter_boxes, enter_tx, drop_owner, index, inputs_of}

-- an element that may stand before a list or not
pick-append : {A : Type 0} (t : Bool) (a : A) {x : List A} (y z : List A) → x ≡ y ++ z → pick t (a ∷ x) x ≡ pick t (a ∷ y) y ++ z
pick-append {A} true a y z e = ap (λ (x : List A). a ∷ x) e
pick-append false a y z e = e

-- ---- an index as a list of pairs

-- the last inserted: the older pair of that box goes, and the new one stands at the end
abbrev pub enter_pair : ℕ → ℕ → List Pair → List Pair
enter_pair k b ps = keep (λ p. other b p.box) ps ++ (record { box = b; id = k } ∷ [])

abbrev pub enter_pairs : ℕ → List ℕ → List Pair → List Pair
enter_pairs k [] ps = ps
enter_pairs k (b ∷ bs) ps = enter_pairs k bs (enter_pair k b ps)

-- the pairs that name one go, and no other comes
abbrev pub drop_pairs : ℕ → List Pair → List Pair
drop_pairs k ps = keep (λ p. other k p.id) ps

abbrev pair_of : BoxRec → Pair
pair_of r = record { box = r.box; id = r.owner }

index-append : (o : Bool) (a b : List BoxRec) → index o (a ++ b) ≡ index o a ++ index o b
index-append o [] b = refl
index-append o (r ∷ a) b = pick-append (r.live && same o r.out) (pair_of r) (index o a) (index o b) (index-append o a b)

-- a new record hides the older pair of its box in the index of its kind, and none in the other
index-hide : (o : Bool) (b : ℕ) (rs : List BoxRec) → index o (map (hide o b) rs) ≡ keep (λ p. other b p.box) (index o rs)
index-hide o b [] = refl
index-hide o b (r ∷ rs) = go r.live (same o r.out) (eqb r.box b) refl (index-hide o b rs)
  where
    go : (l s h : Bool) → eqb r.box b ≡ h → index o (map (hide o b) rs) ≡ keep (λ p. other b p.box) (index o rs)
        → pick ((l && not (s && h)) && s) (pair_of r ∷ index o (map (hide o b) rs)) (index o (map (hide o b) rs))
        ≡ keep (λ p. other b p.box) (pick (l && s) (pair_of r ∷ index o rs) (index o rs))
    go true true true q e = rw q e
    go true true false q e = rw q (ap (λ (x : List Pair). pair_of r ∷ x) e)
    go true false h q e = e
    go false s h q e = e

index-beside : (o : Bool) (b : ℕ) (rs : List BoxRec) → index (not o) (map (hide o b) rs) ≡ index (not o) rs
index-beside o b [] = refl
index-beside o b (r ∷ rs) = go o r.live r.out (eqb r.box b) (index-beside o b rs)
  where
    go : (t l u h : Bool) {x y : List Pair} → x ≡ y → pick ((l && not (same t u && h)) && same (not t) u) (pair_of r ∷ x) x ≡ pick (l && same (not t) u) (pair_of r ∷ y) y
    go t false u h e = e
    go true true true true e = e
    go true true true false e = e
    go true true false h e = ap (λ (x : List Pair). pair_of r ∷ x) e
    go false true true h e = ap (λ (x : List Pair). pair_of r ∷ x) e
    go false true false true e = e
    go false true false false e = e

pub index-enter : (o : Bool) (k b : ℕ) (rs : List BoxRec) → index o (enter_box o k b rs) ≡ enter_pair k b (index o rs)
index-enter o k b rs = index-append o (map (hide o b) rs) _ ∙ go o (index-hide o b rs)
  where
    go : (t : Bool) {x y : List Pair} → x ≡ y → x ++ index t (record { box = b; owner = k; out = t; live = true } ∷ []) ≡ y ++ (record { box = b; id = k } ∷ [])
    go true e = rw e
    go false e = rw e

pub index-other : (o : Bool) (k b : ℕ) (rs : List BoxRec) → index (not o) (enter_box o k b rs) ≡ index (not o) rs
index-other o k b rs = index-append (not o) (map (hide o b) rs) _ ∙ go o ∙ index-beside o b rs
  where
    go : (t : Bool) {x : List Pair} → x ++ index (not t) (record { box = b; owner = k; out = t; live = true } ∷ []) ≡ x
    go true = append-nil _
    go false = append-nil _

index-list : (o : Bool) (k : ℕ) (bs : List ℕ) (rs : List BoxRec) → index o (enter_boxes o k bs rs) ≡ enter_pairs k bs (index o rs)
index-list o k [] rs = refl
index-list o k (b ∷ bs) rs = index-list o k bs (enter_box o k b rs) ∙ ap (enter_pairs k bs) (index-enter o k b rs)

index-others : (o : Bool) (k : ℕ) (bs : List ℕ) (rs : List BoxRec) → index (not o) (enter_boxes o k bs rs) ≡ index (not o) rs
index-others o k [] rs = refl
index-others o k (b ∷ bs) rs = index-others o k bs (enter_box o k b rs) ∙ index-other o k b rs

module _ (k : ℕ) (ins outs : List ℕ) (rs : List BoxRec) where
  pub spenders-enter : index false (enter_tx k ins outs rs) ≡ enter_pairs k ins (index false rs)
  spenders-enter = index-others true k outs (enter_boxes false k ins rs) ∙ index-list false k ins rs

  pub producers-enter : index true (enter_tx k ins outs rs) ≡ enter_pairs k outs (index true rs)
  producers-enter = index-list true k outs (enter_boxes false k ins rs) ∙ ap (enter_pairs k outs) (index-others false k ins rs)

pub index-drop : (o : Bool) (k : ℕ) (rs : List BoxRec) → index o (drop_owner k rs) ≡ drop_pairs k (index o rs)
index-drop o k [] = refl
index-drop o k (r ∷ rs) = go (r.live && same o r.out) refl (eqb r.owner k) refl (index-drop o k rs)
  where
    go : (t : Bool) → (r.live && same o r.out) ≡ t → (u : Bool) → eqb r.owner k ≡ u → index o (drop_owner k rs) ≡ drop_pairs k (index o rs)
        → index o (pick (not u) (r ∷ drop_owner k rs) (drop_owner k rs)) ≡ drop_pairs k (pick t (pair_of r ∷ index o rs) (index o rs))
    go true p true q e = rw q e
    go true p false q e = rw (p, q) (ap (λ (x : List Pair). pair_of r ∷ x) e)
    go false p true q e = e
    go false p false q e = rw p e

-- ---- at most one live record for each kind and box

abbrev pub Lone : List Pair → Type 0
Lone ps = Once (map (λ p. p.box) ps)

abbrev pub OneLive : List BoxRec → Type 0
OneLive rs = (o : Bool) → Lone (index o rs)

pub lone-enter : (k : ℕ) (bs : List ℕ) (ps : List Pair) → Lone ps → Lone (enter_pairs k bs ps)
lone-enter k [] ps h = h
lone-enter k (b ∷ bs) ps h = lone-enter k bs (enter_pair k b ps) go
  where
    go : Lone (enter_pair k b ps)
    go =
        rw (
          map-append (λ (p : Pair). p.box) (keep (λ p. other b p.box) ps) (record { box = b; id = k } ∷ []),
          ← keep-map (λ (p : Pair). p.box) (other b) ps,
        )
        (once_last b (map (λ p. p.box) ps) h)

pub lone-drop : (k : ℕ) (ps : List Pair) → Lone ps → Lone (drop_pairs k ps)
lone-drop k ps h j = omega (arith, count-map-keep (λ (p : Pair). p.box) (λ p. other k p.id) j ps, h j)

pub one-live-none : OneLive []
one-live-none true j = omega arith
one-live-none false j = omega arith

pub one-live-enter : (k : ℕ) (ins outs : List ℕ) (rs : List BoxRec) → OneLive rs → OneLive (enter_tx k ins outs rs)
one-live-enter k ins outs rs h true = rw (producers-enter k ins outs rs) (lone-enter k outs (index true rs) (h true))
one-live-enter k ins outs rs h false = rw (spenders-enter k ins outs rs) (lone-enter k ins (index false rs) (h false))

pub one-live-drop : (k : ℕ) (rs : List BoxRec) → OneLive rs → OneLive (drop_owner k rs)
one-live-drop k rs h o = rw (index-drop o k rs) (lone-drop k (index o rs) (h o))

-- ---- the records without the mark 'live': each transaction's inputs, then its outputs, in order of entry

pub record Use : Type 0 where
  pub box : ℕ
  pub owner : ℕ
  pub out : Bool

abbrev pub use_of : BoxRec → Use
use_of r = record { box = r.box; owner = r.owner; out = r.out }

abbrev pub uses : List BoxRec → List Use
uses rs = map use_of rs

abbrev pub the : Bool → ℕ → ℕ → Use
the o k b = record { box = b; owner = k; out = o }

uses-hide : (o : Bool) (b : ℕ) (rs : List BoxRec) → uses (map (hide o b) rs) ≡ uses rs
uses-hide o b [] = refl
uses-hide o b (r ∷ rs) = ap (λ (x : List Use). use_of r ∷ x) (uses-hide o b rs)

uses-list : (o : Bool) (k : ℕ) (bs : List ℕ) (rs : List BoxRec) → uses (enter_boxes o k bs rs) ≡ uses rs ++ map (the o k) bs
uses-list o k [] rs = sym (append-nil (uses rs))
uses-list o k (b ∷ bs) rs =
    uses-list o k bs (enter_box o k b rs)
    ∙ rw (map-append use_of (map (hide o b) rs), uses-hide o b rs) (append_assoc (uses rs) (the o k b ∷ []) (map (the o k) bs))

pub uses-enter : (k : ℕ) (ins outs : List ℕ) (rs : List BoxRec) → uses (enter_tx k ins outs rs) ≡ uses rs ++ (map (the false k) ins ++ map (the true k) outs)
uses-enter k ins outs rs = uses-list true k outs (enter_boxes false k ins rs) ∙ rw (uses-list false k ins rs) (append_assoc (uses rs) (map (the false k) ins) (map (the true k) outs))

pub uses-drop : (k : ℕ) (rs : List BoxRec) → uses (drop_owner k rs) ≡ keep (λ u. other k u.owner) (uses rs)
uses-drop k rs = sym (keep-map use_of (λ u. other k u.owner) rs)

-- ---- a transaction's inputs

abbrev pub inputs_in : ℕ → List Use → List ℕ
inputs_in k [] = []
inputs_in k (u ∷ us) = pick (eqb u.owner k && not u.out) (u.box ∷ inputs_in k us) (inputs_in k us)

pub inputs-uses : (k : ℕ) (rs : List BoxRec) → inputs_of k rs ≡ inputs_in k (uses rs)
inputs-uses k [] = refl
inputs-uses k (r ∷ rs) = rw (inputs-uses k rs)

inputs-append : (k : ℕ) (a b : List Use) → inputs_in k (a ++ b) ≡ inputs_in k a ++ inputs_in k b
inputs-append k [] b = refl
inputs-append k (u ∷ a) b = pick-append (eqb u.owner k && not u.out) u.box (inputs_in k a) (inputs_in k b) (inputs-append k a b)

pub inputs-split : (k : ℕ) (a b : List BoxRec) → inputs_of k (a ++ b) ≡ inputs_of k a ++ inputs_of k b
inputs-split k a b = rw (inputs-uses k (a ++ b), map-append use_of a b, inputs-append k (uses a) (uses b), inputs-uses k a, inputs-uses k b)

inputs_in_map : (j k : ℕ) (t : Bool) → eqb k j ≡ t → (bs : List ℕ) → inputs_in j (map (the false k) bs) ≡ pick t bs []
inputs_in_map j k true q [] = refl
inputs_in_map j k false q [] = refl
inputs_in_map j k true q (b ∷ bs) = rw q (ap (λ (x : List ℕ). b ∷ x) (inputs_in_map j k true q bs))
inputs_in_map j k false q (b ∷ bs) = rw q (inputs_in_map j k false q bs)

inputs-out : (j k : ℕ) (t : Bool) → eqb k j ≡ t → (bs : List ℕ) → inputs_in j (map (the true k) bs) ≡ []
inputs-out j k t q [] = refl
inputs-out j k true q (b ∷ bs) = rw q (inputs-out j k true q bs)
inputs-out j k false q (b ∷ bs) = rw q (inputs-out j k false q bs)

-- a newcomer's inputs stand behind what records of its id there are, and those of others are as they were
pub inputs-enter : (j k : ℕ) (ins outs : List ℕ) (rs : List BoxRec) → inputs_of j (enter_tx k ins outs rs) ≡ inputs_of j rs ++ pick (eqb k j) ins []
inputs-enter j k ins outs rs =
    rw (
      inputs-uses j (enter_tx k ins outs rs),
      uses-enter k ins outs rs,
      inputs-append j (uses rs) (map (the false k) ins ++ map (the true k) outs),
      inputs-append j (map (the false k) ins) (map (the true k) outs),
      inputs_in_map j k (eqb k j) refl ins,
      inputs-out j k (eqb k j) refl outs,
      append-nil (pick (eqb k j) ins []),
      inputs-uses j rs,
    )

-- no record is owned by k
abbrev pub Unowned : ℕ → List BoxRec → Type 0
Unowned k rs = count k (map (λ r. r.owner) rs) ≡ 0

inputs-none : (k : ℕ) (rs : List BoxRec) → Unowned k rs → inputs_of k rs ≡ []
inputs-none k [] h = refl
inputs-none k (r ∷ rs) h =
    let l : List ℕ = map (λ r. r.owner) rs in
    rw (absent-head k r.owner l h) (inputs-none k rs (absent-tail k r.owner l h))

pub inputs-own : (k : ℕ) (ins outs : List ℕ) (rs : List BoxRec) → Unowned k rs → inputs_of k (enter_tx k ins outs rs) ≡ ins
inputs-own k ins outs rs h = inputs-enter k k ins outs rs ∙ rw (inputs-none k rs h, eq-eqb k k refl)

pub inputs-other : (j k : ℕ) (ins outs : List ℕ) (rs : List BoxRec) → eqb k j ≡ false → inputs_of j (enter_tx k ins outs rs) ≡ inputs_of j rs
inputs-other j k ins outs rs h = inputs-enter j k ins outs rs ∙ rw h (append-nil (inputs_of j rs))

-- one that leaves has none, and those of others are as they were
pub inputs-drop : (j k : ℕ) (rs : List BoxRec) → inputs_of j (drop_owner k rs) ≡ pick (eqb j k) [] (inputs_of j rs)
inputs-drop j k [] = go (eqb j k)
  where
    go : (t : Bool) → ◌≡◌ {A = List ℕ} [] (pick t [] [])
    go true = refl
    go false = refl
inputs-drop j k (r ∷ rs) = go (eqb r.owner k) refl (eqb r.owner j) refl (eqb j k) refl (inputs-drop j k rs)
  where
    go : (u : Bool) → eqb r.owner k ≡ u → (v : Bool) → eqb r.owner j ≡ v → (t : Bool) → eqb j k ≡ t → inputs_of j (drop_owner k rs) ≡ pick t [] (inputs_of j rs)
        → inputs_of j (pick (not u) (r ∷ drop_owner k rs) (drop_owner k rs)) ≡ pick t [] (pick (v && not r.out) (r.box ∷ inputs_of j rs) (inputs_of j rs))
    go true p true q true w e = e
    go true p true q false w e = absurd (eqb-false j k w (sym (eqb-true r.owner j q) ∙ eqb-true r.owner k p))
    go true p false q t w e = e
    go false p true q true w e = absurd (eqb-false r.owner k p (eqb-true r.owner j q ∙ eqb-true j k w))
    go false p true q false w e = rw (q, e)
    go false p false q t w e = rw q e
