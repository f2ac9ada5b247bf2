-- Priority order, for rows of any kind: what is read of a row is its weight w and its id k. The laws of the order, what insertion and sorting
-- keep, and what sorting commutes with.
use Rattle.std.specs.Prelude.{ℕ, suc, ◌≤◌, ◌<◌, ◌≡◌, refl, ◌⊎◌, Bool, true, false, List, [], ◌∷◌, map, length}
use Rattle.std.proofs.Common.{sym, ap, ◌∙◌, arith}
use Rattle.std.proofs.Math.Logic.{inl, inr}
use Rattle.std.proofs.Math.Decide.{ℕ_discrete}
use borrow.Author.Tests.{eqb-false, eq-eqb, ne_eqb, ltb-true, ltb-false, lt-ltb, le-ltb}
use Rattle.words.specs.Lists.{pick, keep, count, Once, once-head, once-tail, absent-head, absent-tail}
use Rattle.entries.specs.Entries.{ahead, insert_on}

module _ {A : Type 0} (w k : A → ℕ) where
  abbrev pub before : A → A → Bool
  before x y = ahead (w x) (k x) (w y) (k y)

  abbrev pub sort_on : List A → List A
  sort_on [] = []
  sort_on (x ∷ xs) = insert_on w k x (sort_on xs)

  -- in order: none is ahead of one before it
  abbrev pub Behind : A → List A → Type 0
  Behind x [] = Unit {0}
  Behind x (y ∷ ys) = (before y x ≡ false) × Behind x ys

  abbrev pub Sorted : List A → Type 0
  Sorted [] = Unit {0}
  Sorted (x ∷ xs) = Behind x xs × Sorted xs

  -- ---- the order's laws

  abbrev Ahead : A → A → Type 0
  Ahead x y = (w y < w x) ⊎ ((w x ≡ w y) × (k x < k y))

  abbrev Not : A → A → Type 0
  Not x y = (w x < w y) ⊎ ((w x ≡ w y) × (k y ≤ k x))

  module _ (x y : A) where
    ahead-true : before x y ≡ true → Ahead x y
    unfolding ahead
    ahead-true e = go (ℕ_discrete (w x) (w y))
      where
        go : Dec (w x ≡ w y) → Ahead x y
        go (yes p) = inr (p, ltb-true _ _ (rw (eq-eqb (w x) (w y) p) at e))
        go (no p) = inl (ltb-true _ _ (rw (ne_eqb (w x) (w y) p) at e))

    ahead-false : before x y ≡ false → Not x y
    unfolding ahead
    ahead-false e = go (ℕ_discrete (w x) (w y))
      where
        go : Dec (w x ≡ w y) → Not x y
        go (yes p) = inr (p, ltb-false _ _ (rw (eq-eqb (w x) (w y) p) at e))
        go (no p) = let h : w x ≤ w y = ltb-false _ _ (rw (ne_eqb (w x) (w y) p) at e) in inl (omega (arith, p))

    ahead-yes : Ahead x y → before x y ≡ true
    unfolding ahead
    ahead-yes (inl h) = rw (ne_eqb (w x) (w y) (λ q. omega arith)) (lt-ltb _ _ h)
    ahead-yes (inr h) = rw (eq-eqb (w x) (w y) h.0) (lt-ltb _ _ h.1)

    ahead-no : Not x y → before x y ≡ false
    unfolding ahead
    ahead-no (inl h) = rw (ne_eqb (w x) (w y) (λ q. omega arith)) (le-ltb (w y) (w x) (omega arith))
    ahead-no (inr h) = rw (eq-eqb (w x) (w y) h.0) (le-ltb _ _ h.1)

  pub asym : (x y : A) → before x y ≡ true → before y x ≡ false
  asym x y h = ahead-no y x (go (ahead-true x y h))
    where
      go : Ahead x y → Not y x
      go (inl a) = inl a
      go (inr a) = inr (omega arith)

  pub irrefl : (x : A) → before x x ≡ false
  irrefl x = ahead-no x x (inr (refl, omega arith))

  pub total : (x y : A) → (k x ≡ k y → ⊥) → before x y ≡ false → before y x ≡ true
  total x y n h = ahead-yes y x (go (ahead-false x y h))
    where
      go : Not x y → Ahead y x
      go (inl a) = inl a
      go (inr a) = inr (sym a.0, omega (arith, n))

  pub trans : (x y z : A) → before x y ≡ true → before y z ≡ true → before x z ≡ true
  trans x y z h h' = ahead-yes x z (go (ahead-true x y h) (ahead-true y z h'))
    where
      go : Ahead x y → Ahead y z → Ahead x z
      go (inl a) (inl b) = inl (omega arith)
      go (inl a) (inr b) = inl (omega arith)
      go (inr a) (inl b) = inl (omega arith)
      go (inr a) (inr b) = inr (omega arith)

  pub negtrans : (x y z : A) → before z y ≡ false → before y x ≡ false → before z x ≡ false
  negtrans x y z h h' = ahead-no z x (go (ahead-false z y h) (ahead-false y x h'))
    where
      go : Not z y → Not y x → Not z x
      go (inl a) (inl b) = inl (omega arith)
      go (inl a) (inr b) = inl (omega arith)
      go (inr a) (inl b) = inl (omega arith)
      go (inr a) (inr b) = inr (omega arith)

  -- ---- insertion and sorting

  pub behind-trans : (x y : A) (ys : List A) → before y x ≡ false → Behind y ys → Behind x ys
  behind-trans x y [] h b = tt
  behind-trans x y (z ∷ ys) h b = (negtrans x y z b.0 h, behind-trans x y ys h b.1)

  behind-insert : (x e : A) (ys : List A) → Behind x ys → before e x ≡ false → Behind x (insert_on w k e ys)
  behind-insert x e [] b h = (h, tt)
  behind-insert x e (y ∷ ys) b h = go (before y e) (behind-insert x e ys b.1 h)
    where
      go : (t : Bool) → Behind x (insert_on w k e ys) → Behind x (pick t (y ∷ insert_on w k e ys) (e ∷ y ∷ ys))
      go true ih = (b.0, ih)
      go false ih = (h, b)

  pub insert-sorted : (e : A) (ys : List A) → Sorted ys → Sorted (insert_on w k e ys)
  insert-sorted e [] s = (tt, tt)
  insert-sorted e (y ∷ ys) s = go (before y e) refl (insert-sorted e ys s.1)
    where
      go : (t : Bool) → before y e ≡ t → Sorted (insert_on w k e ys) → Sorted (pick t (y ∷ insert_on w k e ys) (e ∷ y ∷ ys))
      go true q ih = (behind-insert y e ys s.0 (asym y e q), ih)
      go false q ih = ((q, behind-trans e y ys q s.0), s)

  pub sort_sorted : (xs : List A) → Sorted (sort_on xs)
  sort_sorted [] = tt
  sort_sorted (x ∷ xs) = insert-sorted x (sort_on xs) (sort_sorted xs)

  -- nothing is lost or added
  pub count-insert : (j : ℕ) (x : A) (ys : List A) → count j (map k (insert_on w k x ys)) ≡ count j (map k (x ∷ ys))
  count-insert j x [] = refl
  count-insert j x (y ∷ ys) = go (before y x) (count-insert j x ys)
    where
      go : (t : Bool) → count j (map k (insert_on w k x ys)) ≡ count j (map k (x ∷ ys)) → count j (map k (pick t (y ∷ insert_on w k x ys) (x ∷ y ∷ ys))) ≡ count j (map k (x ∷ y ∷ ys))
      go true ih = omega arith
      go false ih = refl

  pub count-sort : (j : ℕ) (xs : List A) → count j (map k (sort_on xs)) ≡ count j (map k xs)
  count-sort j [] = refl
  count-sort j (x ∷ xs) = omega (arith, count-insert j x (sort_on xs), count-sort j xs)

  pub length-insert : (x : A) (ys : List A) → length (insert_on w k x ys) ≡ suc (length ys)
  length-insert x [] = refl
  length-insert x (y ∷ ys) = go (before y x) (length-insert x ys)
    where
      go : (t : Bool) → length (insert_on w k x ys) ≡ suc (length ys) → length (pick t (y ∷ insert_on w k x ys) (x ∷ y ∷ ys)) ≡ suc (suc (length ys))
      go true ih = ap suc ih
      go false ih = refl

  pub length-sort : (xs : List A) → length (sort_on xs) ≡ length xs
  length-sort [] = refl
  length-sort (x ∷ xs) = length-insert x (sort_on xs) ∙ ap suc (length-sort xs)

  -- ---- what is kept of a list in order

  pub front : (x : A) (ys : List A) → Behind x ys → insert_on w k x ys ≡ x ∷ ys
  front x [] b = refl
  front x (y ∷ ys) b = rw b.0

  behind-keep : (p : A → Bool) (x : A) (ys : List A) → Behind x ys → Behind x (keep p ys)
  behind-keep p x [] b = tt
  behind-keep p x (y ∷ ys) b = go (p y) (behind-keep p x ys b.1)
    where
      go : (t : Bool) → Behind x (keep p ys) → Behind x (pick t (y ∷ keep p ys) (keep p ys))
      go true ih = (b.0, ih)
      go false ih = ih

  keep-insert : (p : A → Bool) (x : A) (ys : List A) → Sorted ys → keep p (insert_on w k x ys) ≡ pick (p x) (insert_on w k x (keep p ys)) (keep p ys)
  keep-insert p x [] s = refl
  keep-insert p x (y ∷ ys) s = go (before y x) refl (p y) (p x) (keep-insert p x ys s.1) refl refl
    where
      go : (a : Bool) → before y x ≡ a → (u v : Bool) → keep p (insert_on w k x ys) ≡ pick (p x) (insert_on w k x (keep p ys)) (keep p ys) → p y ≡ u → p x ≡ v
          → keep p (pick a (y ∷ insert_on w k x ys) (x ∷ y ∷ ys)) ≡ pick v (insert_on w k x (pick u (y ∷ keep p ys) (keep p ys))) (pick u (y ∷ keep p ys) (keep p ys))
      go true q true true ih e f = rw (e, ih, f, q)
      go true q true false ih e f = rw (e, ih, f)
      go true q false true ih e f = rw (e, ih, f)
      go true q false false ih e f = rw (e, ih, f)
      go false q u true ih e f = rw (f, ← e) (sym (front x (keep p (y ∷ ys)) (behind-keep p x (y ∷ ys) (q, behind-trans x y ys q s.0))))
      go false q u false ih e f = rw (f, e)

  pub keep-sort : (p : A → Bool) (xs : List A) → keep p (sort_on xs) ≡ sort_on (keep p xs)
  keep-sort p [] = refl
  keep-sort p (x ∷ xs) = keep-insert p x (sort_on xs) (sort_sorted xs) ∙ go (p x) (keep-sort p xs)
    where
      go : (t : Bool) → keep p (sort_on xs) ≡ sort_on (keep p xs) → pick t (insert_on w k x (keep p (sort_on xs))) (keep p (sort_on xs)) ≡ sort_on (pick t (x ∷ keep p xs) (keep p xs))
      go true ih = ap (insert_on w k x) ih
      go false ih = ih

  -- ---- two of different ids may be inserted in either order

  comm-ahead : (x y : A) → before x y ≡ true → (zs : List A) → insert_on w k x (insert_on w k y zs) ≡ insert_on w k y (insert_on w k x zs)
  comm-ahead x y t [] = rw (t, asym x y t)
  comm-ahead x y t (z ∷ zs) = go (before z x) (before z y) refl refl (comm-ahead x y t zs)
    where
      go : (a b : Bool) → before z x ≡ a → before z y ≡ b → insert_on w k x (insert_on w k y zs) ≡ insert_on w k y (insert_on w k x zs)
          → insert_on w k x (pick b (z ∷ insert_on w k y zs) (y ∷ z ∷ zs)) ≡ insert_on w k y (pick a (z ∷ insert_on w k x zs) (x ∷ z ∷ zs))
      go true true p q ih = rw (p, q, ih)
      go true false p q ih = let e : true ≡ false = sym (trans z x y p t) ∙ q in let n : ◌≡◌ {A = ℕ} 0 1 = cc in absurd (omega arith)
      go false true p q ih = rw (p, t, q)
      go false false p q ih = rw (asym x y t, t, q)

  pub insert_comm : (x y : A) → (k x ≡ k y → ⊥) → (zs : List A) → insert_on w k x (insert_on w k y zs) ≡ insert_on w k y (insert_on w k x zs)
  insert_comm x y n zs = go (before x y) refl
    where
      go : (t : Bool) → before x y ≡ t → insert_on w k x (insert_on w k y zs) ≡ insert_on w k y (insert_on w k x zs)
      go true e = comm-ahead x y e zs
      go false e = sym (comm-ahead y x (total x y n e) zs)

  -- a change that keeps the ids may be made before sorting or after it, if one sorts again
  module _ (f : A → A) (same : (x : A) → k (f x) ≡ k x) where
    resort-insert : (x : A) (ys : List A) → count (k x) (map k ys) ≡ 0 → sort_on (map f (insert_on w k x ys)) ≡ insert_on w k (f x) (sort_on (map f ys))
    resort-insert x [] h = refl
    resort-insert x (y ∷ ys) h = go (before y x) (resort-insert x ys (absent-tail (k x) (k y) (map k ys) h))
      where
        go : (t : Bool) → sort_on (map f (insert_on w k x ys)) ≡ insert_on w k (f x) (sort_on (map f ys)) → sort_on (map f (pick t (y ∷ insert_on w k x ys) (x ∷ y ∷ ys))) ≡ insert_on w k (f x) (insert_on w k (f y) (sort_on (map f ys)))
        go true ih =
            ap (insert_on w k (f y)) ih
            ∙ insert_comm (f y) (f x) (λ e. eqb-false (k y) (k x) (absent-head (k x) (k y) (map k ys) h) (sym (same y) ∙ e ∙ same x)) (sort_on (map f ys))
        go false ih = refl

    pub resort : (xs : List A) → Once (map k xs) → sort_on (map f (sort_on xs)) ≡ sort_on (map f xs)
    resort [] h = refl
    resort (x ∷ xs) h =
        resort-insert x (sort_on xs) (count-sort (k x) xs ∙ once-head (k x) (map k xs) h)
        ∙ ap (insert_on w k (f x)) (resort xs (once-tail (k x) (map k xs) h))

-- a view of the rows that keeps weights and ids may be taken before an insertion or after it
module _ {A B : Type 0} (g : A → B) (w k : B → ℕ) where
  pub insert-view : (x : A) (ys : List A) → map g (insert_on (λ a. w (g a)) (λ a. k (g a)) x ys) ≡ insert_on w k (g x) (map g ys)
  insert-view x [] = refl
  insert-view x (y ∷ ys) = go (before w k (g y) (g x)) (insert-view x ys)
    where
      go : (t : Bool) → map g (insert_on (λ a. w (g a)) (λ a. k (g a)) x ys) ≡ insert_on w k (g x) (map g ys)
          → map g (pick t (y ∷ insert_on (λ a. w (g a)) (λ a. k (g a)) x ys) (x ∷ y ∷ ys)) ≡ pick t (g y ∷ insert_on w k (g x) (map g ys)) (g x ∷ g y ∷ map g ys)
      go true ih = ap (λ (r : List B). g y ∷ r) ih
      go false ih = refl
