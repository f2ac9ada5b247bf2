-- Rows in order and a view of them: what is sorted seen by a view is sorted, the last of those in order is the lowest that a search finds, and a search for
-- an id finds the same before sorting and after it.
use Rattle.std.specs.Prelude.{ℕ, suc, ◌≡◌, refl, Bool, true, false, List, [], ◌∷◌, map, eqb, length}
use Rattle.std.proofs.Common.{sym, ap, ◌∙◌, arith, eqb-true}
use Rattle.std.proofs.lemmas.Bool.{eqb-false}
use Rattle.words.specs.Lists.{pick, count, Once, once-head, once-tail, absent-head, absent-tail}
use Rattle.words.specs.Find.{found, last}
use Rattle.entries.specs.Entries.{insert_on}
use Rattle.entries.specs.Order.{before, sort_on, Behind, Sorted, behind-trans, insert-sorted, sort_sorted, count-sort, length-insert, insert-view}
use Rattle.ledger.specs.Book.{Tx, tx_weight, lowest_of, lowest_id}

-- ---- a view

module _ {A B : Type 0} (g : A → B) (w k : B → ℕ) where
  pub sort-view : (xs : List A) → map g (sort_on (λ a. w (g a)) (λ a. k (g a)) xs) ≡ sort_on w k (map g xs)
  sort-view [] = refl
  sort-view (x ∷ xs) = insert-view g w k x (sort_on (λ a. w (g a)) (λ a. k (g a)) xs) ∙ ap (insert_on w k (g x)) (sort-view xs)

  behind-view : (x : A) (ys : List A) → Behind w k (g x) (map g ys) → Behind (λ a. w (g a)) (λ a. k (g a)) x ys
  behind-view x [] b = tt
  behind-view x (y ∷ ys) b = (b.0, behind-view x ys b.1)

  pub sorted-view : (xs : List A) → Sorted w k (map g xs) → Sorted (λ a. w (g a)) (λ a. k (g a)) xs
  sorted-view [] s = tt
  sorted-view (x ∷ xs) s = (behind-view x xs s.0, sorted-view xs s.1)

module _ {A : Type 0} (w k : A → ℕ) where
  -- ---- a search for an id

  found-insert : (j : ℕ) (x : A) (ys : List A) → count (k x) (map k ys) ≡ 0 → found k j (insert_on w k x ys) ≡ found k j (x ∷ ys)
  found-insert j x [] h = refl
  found-insert j x (y ∷ ys) h = go (before w k y x) (found-insert j x ys (absent-tail (k x) (k y) (map k ys) h))
    where
      n : eqb (k y) (k x) ≡ false
      n = absent-head (k x) (k y) (map k ys) h

      swap : (a b : Bool) → eqb (k x) j ≡ a → eqb (k y) j ≡ b → pick b (y ∷ []) (pick a (x ∷ []) (found k j ys)) ≡ pick a (x ∷ []) (pick b (y ∷ []) (found k j ys))
      swap true true p q = absurd (eqb-false (k y) (k x) n (eqb-true (k y) j q ∙ sym (eqb-true (k x) j p)))
      swap true false p q = refl
      swap false b p q = refl

      go : (t : Bool) → found k j (insert_on w k x ys) ≡ found k j (x ∷ ys) → found k j (pick t (y ∷ insert_on w k x ys) (x ∷ y ∷ ys)) ≡ found k j (x ∷ y ∷ ys)
      go true ih = ap (pick (eqb (k y) j) (y ∷ [])) ih ∙ swap (eqb (k x) j) (eqb (k y) j) refl refl
      go false ih = refl

  pub found-sort : (j : ℕ) (xs : List A) → Once (map k xs) → found k j (sort_on w k xs) ≡ found k j xs
  found-sort j [] h = refl
  found-sort j (x ∷ xs) h =
      found-insert j x (sort_on w k xs) (count-sort w k (k x) xs ∙ once-head (k x) (map k xs) h)
      ∙ ap (pick (eqb (k x) j) (x ∷ [])) (found-sort j xs (once-tail (k x) (map k xs) h))

  -- ---- the last of those in order

  last-behind : (x y : A) (ys : List A) → Behind w k x (y ∷ ys) → before w k (last y ys) x ≡ false
  last-behind x y [] b = b.0
  last-behind x y (z ∷ ys) b = last-behind x z ys b.1

  last-insert : (d x : A) (ys : List A) → Sorted w k ys → before w k d x ≡ true → last d (insert_on w k x ys) ≡ pick (before w k (last d ys) x) x (last d ys)
  last-insert d x [] s h = rw h
  last-insert d x (y ∷ ys) s h = go (before w k y x) refl (last-insert y x ys s.1)
    where
      go : (t : Bool) → before w k y x ≡ t → (before w k y x ≡ true → last y (insert_on w k x ys) ≡ pick (before w k (last y ys) x) x (last y ys))
          → last d (pick t (y ∷ insert_on w k x ys) (x ∷ y ∷ ys)) ≡ pick (before w k (last y ys) x) x (last y ys)
      go true q ih = ih q
      go false q ih = rw (last-behind x y ys (q, behind-trans w k x y ys q s.0))

  pub last-top : (d x y : A) (ys : List A) → Sorted w k (y ∷ ys) → last d (insert_on w k x (y ∷ ys)) ≡ pick (before w k (last y ys) x) x (last y ys)
  last-top d x y ys s = go (before w k y x) refl
    where
      go : (t : Bool) → before w k y x ≡ t → last d (pick t (y ∷ insert_on w k x ys) (x ∷ y ∷ ys)) ≡ pick (before w k (last y ys) x) x (last y ys)
      go true q = last-insert y x ys s.1 q
      go false q = rw (last-behind x y ys (q, behind-trans w k x y ys q s.0))

-- ---- .. is the book's lowest

abbrev id_of : Tx → ℕ
id_of t = t.id

abbrev pub sort_txs : List Tx → List Tx
sort_txs ts = sort_on tx_weight id_of ts

last-sort : (d x : Tx) (xs : List Tx) → last d (insert_on tx_weight id_of x (sort_txs xs)) ≡ lowest_of x xs
last-sort d x [] = refl
last-sort d x (y ∷ ys) =
    go (insert_on tx_weight id_of y (sort_txs ys)) (insert-sorted tx_weight id_of y (sort_txs ys) (sort_sorted tx_weight id_of ys)) (length-insert tx_weight id_of y (sort_txs ys)) (last-sort d y ys)
  where
    go : (zs : List Tx) → Sorted tx_weight id_of zs → length zs ≡ suc (length (sort_txs ys)) → last d zs ≡ lowest_of y ys
        → last d (insert_on tx_weight id_of x zs) ≡ pick (before tx_weight id_of (lowest_of y ys) x) x (lowest_of y ys)
    go [] s h e = absurd (omega arith)
    go (z ∷ zs) s h e = last-top tx_weight id_of d x z zs s ∙ ap (λ u. pick (before tx_weight id_of u x) x u) e

pub lowest-last : (d : Tx) (ts : List Tx) → d.id ≡ 0 → (last d (sort_txs ts)).id ≡ lowest_id ts
lowest-last d [] e = e
lowest-last d (t ∷ ts) e = ap id_of (last-sort d t ts)
