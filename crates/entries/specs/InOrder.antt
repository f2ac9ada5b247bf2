-- The entries' part of the store's validity: rows in priority order, each id once. What insertion, removal, a credit, a stamp and the loss of
-- the last keep of it.
use Rattle.std.specs.Prelude.{Option}
use Rattle.std.specs.Prelude.{ℕ, ◌+◌, ◌≤◌, ◌≡◌, refl, Bool, true, false, List, [], ◌∷◌, map, eqb}
use Rattle.std.proofs.Common.{ap, arith, eqb-true}
use Rattle.std.proofs.lemmas.Bool.{eqb-false}
use Rattle.words.specs.Lists.{pick, count, Once, once-head, once-tail, once-cons, absent-head}
use Rattle.words.specs.Find.{without, found, but_last, drop_last, put_back}
use Rattle.entries.specs.Entries.{Entry, weight_of, key_of, ahead, insert_on, insert_by, pooled, raised, credit, stamp, stamped}
use Rattle.entries.specs.Order.{before, sort_on, Behind, Sorted, asym, irrefl, total, behind-trans, insert-sorted, sort_sorted, count-insert, count-sort}

module _ {A : Type 0} (w k : A → ℕ) where
  pub record InOrder (xs : List A) : Type 0 where
    pub sorted : Sorted w k xs
    pub once : Once (map k xs)

  -- ---- strict order: each is ahead of the next

  abbrev pub Leads : A → List A → Type 0
  Leads x [] = Unit {0}
  Leads x (y ∷ ys) = before w k x y ≡ true

  abbrev pub Strict : List A → Type 0
  Strict [] = Unit {0}
  Strict (x ∷ xs) = Leads x xs × Strict xs

  strict_of : (xs : List A) → Sorted w k xs → Once (map k xs) → Strict xs
  strict_of [] s h = tt
  strict_of (x ∷ []) s h = (tt, tt)
  strict_of (x ∷ y ∷ ys) s h =
      (total w k y x (eqb-false _ _ (absent-head (k x) (k y) (map k ys) (once-head (k x) (map k (y ∷ ys)) h))) s.0.0, strict_of (y ∷ ys) s.1 (once-tail (k x) (map k (y ∷ ys)) h))

  pub strict : (xs : List A) → InOrder xs → Strict xs
  strict xs o = strict_of xs o.sorted o.once

  behind-lead : (x : A) (ys : List A) → Leads x ys → Sorted w k ys → Behind w k x ys
  behind-lead x [] l s = tt
  behind-lead x (y ∷ ys) l s = (asym w k x y l, behind-trans w k x y ys (asym w k x y l) s.0)

  pub strict-sorted : (xs : List A) → Strict xs → Sorted w k xs
  strict-sorted [] s = tt
  strict-sorted (x ∷ xs) s = let t = strict-sorted xs s.1 in (behind-lead x xs s.0 t, t)

  -- ---- insertion

  pub insert-order : (e : A) (xs : List A) → count (k e) (map k xs) ≡ 0 → InOrder xs → InOrder (insert_on w k e xs)
  insert-order e xs h o =
      record { sorted = insert-sorted w k e xs o.sorted; once = λ j. rw (count-insert w k j e xs) (once-cons (k e) (map k xs) h o.once j) }

  pub sort-order : (xs : List A) → Once (map k xs) → InOrder (sort_on w k xs)
  sort-order xs h = record { sorted = sort_sorted w k xs; once = λ j. rw (count-sort w k j xs) (h j) }

  -- ---- removal

  pub behind-without : (j : ℕ) (x : A) (ys : List A) → Behind w k x ys → Behind w k x (without k j ys)
  behind-without j x [] b = tt
  behind-without j x (y ∷ ys) b = go (eqb (k y) j) (behind-without j x ys b.1)
    where
      go : (t : Bool) → Behind w k x (without k j ys) → Behind w k x (pick t ys (y ∷ without k j ys))
      go true ih = b.1
      go false ih = (b.0, ih)

  sorted-without : (j : ℕ) (xs : List A) → Sorted w k xs → Sorted w k (without k j xs)
  sorted-without j [] s = tt
  sorted-without j (x ∷ xs) s = go (eqb (k x) j) (sorted-without j xs s.1)
    where
      go : (t : Bool) → Sorted w k (without k j xs) → Sorted w k (pick t xs (x ∷ without k j xs))
      go true ih = s.1
      go false ih = (behind-without j x xs s.0, ih)

  count-without : (i j : ℕ) (xs : List A) → count i (map k (without k j xs)) ≤ count i (map k xs)
  count-without i j [] = omega arith
  count-without i j (x ∷ xs) = go (eqb (k x) j) (count-without i j xs)
    where
      go : (t : Bool) → count i (map k (without k j xs)) ≤ count i (map k xs) → count i (map k (pick t xs (x ∷ without k j xs))) ≤ count i (map k (x ∷ xs))
      go true ih = omega arith
      go false ih = omega arith

  -- what was taken out is no more there
  pub gone : (j : ℕ) (xs : List A) → Once (map k xs) → count j (map k (without k j xs)) ≡ 0
  gone j [] h = refl
  gone j (x ∷ xs) h = go (eqb (k x) j) refl (gone j xs (once-tail (k x) (map k xs) h))
    where
      go : (t : Bool) → eqb (k x) j ≡ t → count j (map k (without k j xs)) ≡ 0 → count j (map k (pick t xs (x ∷ without k j xs))) ≡ 0
      go true q ih = rw (eqb-true (k x) j q) at (once-head (k x) (map k xs) h)
      go false q ih = rw q (omega arith)

  pub without-order : (j : ℕ) (xs : List A) → InOrder xs → InOrder (without k j xs)
  without-order j xs o = record { sorted = sorted-without j xs o.sorted; once = λ i. omega (arith, count-without i j xs, o.once i) }

  -- ---- a change of the row of one id, which keeps the id: taken out and put back

  pub found-id : (j : ℕ) (xs : List A) (e : A) (r : List A) → found k j xs ≡ e ∷ r → k e ≡ j
  found-id j [] e r p = let z : ◌≡◌ {A = ℕ} 0 1 = cc in absurd (omega arith)
  found-id j (x ∷ xs) e r p = go (eqb (k x) j) refl (found-id j xs e r) p
    where
      go : (t : Bool) → eqb (k x) j ≡ t → (found k j xs ≡ e ∷ r → k e ≡ j) → pick t (x ∷ []) (found k j xs) ≡ e ∷ r → k e ≡ j
      go true q ih h = let z : x ≡ e = cc in rw z at (eqb-true (k x) j q)
      go false q ih h = ih h

  pub change-order : (f : A → A) → ((x : A) → k (f x) ≡ k x) → (j : ℕ) (xs : List A) → InOrder xs → InOrder (put_back (insert_on w k) f (found k j xs) (without k j xs))
  change-order f same j xs o = go (found k j xs) refl
    where
      go : (r : List A) → found k j xs ≡ r → InOrder (put_back (insert_on w k) f r (without k j xs))
      go [] q = without-order j xs o
      go (e ∷ r) q = insert-order (f e) (without k j xs) (rw (same e, found-id j xs e r q) (gone j xs o.once)) (without-order j xs o)

  -- ---- the loss of the last

  behind-but : (z x : A) (xs : List A) → Behind w k z (x ∷ xs) → Behind w k z (but_last x xs)
  behind-but z x [] b = tt
  behind-but z x (y ∷ ys) b = (b.0, behind-but z y ys b.1)

  sorted-but : (x : A) (xs : List A) → Sorted w k (x ∷ xs) → Sorted w k (but_last x xs)
  sorted-but x [] s = tt
  sorted-but x (y ∷ ys) s = (behind-but x y ys s.0, sorted-but y ys s.1)

  count-but : (j : ℕ) (x : A) (xs : List A) → count j (map k (but_last x xs)) ≤ count j (map k (x ∷ xs))
  count-but j x [] = omega arith
  count-but j x (y ∷ ys) = omega (arith, count-but j y ys)

  pub last-order : (xs : List A) → InOrder xs → InOrder (drop_last xs)
  last-order [] o = o
  last-order (x ∷ xs) o = record { sorted = sorted-but x xs o.sorted; once = λ j. omega (arith, count-but j x xs, o.once j) }

-- order alone does not tell ids apart: two rows of one id and different weights
order-alone : Strict (λ x. x) (λ x. 0) (5 ∷ 3 ∷ [])
unfolding ahead
order-alone = (refl, (tt, tt))

-- ---- the entries

abbrev pub EntriesInOrder : List Entry → Type 0
EntriesInOrder es = InOrder weight_of key_of es

-- an id that is not pooled stands nowhere
pub not-pooled : (k : ℕ) (es : List Entry) → pooled k es ≡ false → count k (map key_of es) ≡ 0
not-pooled k [] h = refl
not-pooled k (e ∷ es) h = go (eqb e.id k) (not-pooled k es) h
  where
    go : (t : Bool) → (pooled k es ≡ false → count k (map key_of es) ≡ 0) → pick t true (pooled k es) ≡ false → pick t 1 0 + count k (map key_of es) ≡ 0
    go true ih q = let z : ◌≡◌ {A = ℕ} 0 1 = cc in absurd (omega arith)
    go false ih q = omega (arith, ih q)

pub entry-order : (e : Entry) (es : List Entry) → pooled e.id es ≡ false → EntriesInOrder es → EntriesInOrder (insert_by e es)
entry-order e es h o = insert-order weight_of key_of e es (not-pooled e.id es h) o

pub credit-order : (c k : ℕ) (es : List Entry) → EntriesInOrder es → EntriesInOrder (credit c k es)
credit-order c k es o = change-order weight_of key_of (raised c) (λ e. refl) k es o

module _ (k : ℕ) (v : Option ℕ) (t : ℕ) where
  -- a view of the entries that reads neither a validation cost nor the time of a check sees no stamp
  pub stamp-view : {B : Type 0} (g : Entry → B) → ((e : Entry) → g (stamp v t e) ≡ g e) → (es : List Entry) → map g (stamped k v t es) ≡ map g es
  stamp-view g h [] = refl
  stamp-view {B} g h (e ∷ es) = go (eqb e.id k) (stamp-view g h es)
    where
      go : (b : Bool) → map g (stamped k v t es) ≡ map g es → map g (pick b (stamp v t e ∷ es) (e ∷ stamped k v t es)) ≡ g e ∷ map g es
      go true ih = ap (λ (x : B). x ∷ map g es) (h e)
      go false ih = ap (λ (r : List B). g e ∷ r) ih

  behind-stamp : (x : Entry) (es : List Entry) → Behind weight_of key_of x es → Behind weight_of key_of x (stamped k v t es)
  behind-stamp x [] b = tt
  behind-stamp x (e ∷ es) b = go (eqb e.id k) (behind-stamp x es b.1)
    where
      go : (u : Bool) → Behind weight_of key_of x (stamped k v t es) → Behind weight_of key_of x (pick u (stamp v t e ∷ es) (e ∷ stamped k v t es))
      go true ih = b
      go false ih = (b.0, ih)

  sorted-stamp : (es : List Entry) → Sorted weight_of key_of es → Sorted weight_of key_of (stamped k v t es)
  sorted-stamp [] s = tt
  sorted-stamp (e ∷ es) s = go (eqb e.id k) (sorted-stamp es s.1)
    where
      go : (u : Bool) → Sorted weight_of key_of (stamped k v t es) → Sorted weight_of key_of (pick u (stamp v t e ∷ es) (e ∷ stamped k v t es))
      go true ih = (behind-trans weight_of key_of (stamp v t e) e es (irrefl weight_of key_of e) s.0, s.1)
      go false ih = (behind-stamp e es s.0, ih)

  pub stamp-order : (es : List Entry) → EntriesInOrder es → EntriesInOrder (stamped k v t es)
  stamp-order es o = record { sorted = sorted-stamp es o.sorted; once = λ j. rw (stamp-view key_of (λ e. refl) es) (o.once j) }
