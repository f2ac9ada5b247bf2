-- What is known of any table: `of l n` is the list of its first n records in the words l, and `at l i` the record at index i. A table's
-- module proves a `Table of at`, three laws, and the laws below then serve its loops; none of them knows a width or a word.
use Rattle.std.specs.Prelude.{◌≡◌, ℕ, suc, ◌+◌, ◌<◌, ◌≤◌, Bool, true, false, List, [], ◌∷◌, ◌++◌, length, take, drop, slice_index_or, slice_set, refl}
use Rattle.std.proofs.Common.{sym, ◌∙◌, add-one, arith, drop_of_length-le, length-set, drop-cons, take_all, take-suc, take-suc-set, drop-set-lt}
use Rattle.words.specs.Lists.{pick, remove_at, insert_at, keep, keep_snoc, hole-last, hole-up, hole-down, hole-fill}

pub record Table {A : Type 0} (of : List ℕ → ℕ → List A) (at : List ℕ → ℕ → A) : Type 0 where
  pub len : (l : List ℕ) (n : ℕ) → length (of l n) ≡ n
  pub get : (l : List ℕ) (n i : ℕ) (d : A) → i < n → slice_index_or (of l n) i d ≡ at l i
  pub first : (l : List ℕ) (k n : ℕ) → k ≤ n → take k (of l n) ≡ of l k

module _ {A : Type 0} {of : List ℕ → ℕ → List A} {at : List ℕ → ℕ → A} (T : Table of at) where
  -- ---- one record more

  pub drop_of : (l : List ℕ) (n i : ℕ) → i < n → drop i (of l n) ≡ at l i ∷ drop (i + 1) (of l n)
  drop_of l n i h = rw (add-one, drop-cons (of l n) i (at l i) (omega (arith, T.len l n)), T.get l n i (at l i) h)

  pub drop_past : (l : List ℕ) (n i : ℕ) → n ≤ i → drop i (of l n) ≡ []
  drop_past l n i h = drop_of_length-le (of l n) {i = i} (omega (arith, T.len l n))

  pub of-suc : (l : List ℕ) (n : ℕ) → of l (n + 1) ≡ of l n ++ (at l n ∷ [])
  of-suc l n =
      sym (T.first l (n + 1) (n + 1) (omega arith))
      ∙ rw (add-one n, take-suc (of l (suc n)) n (at l n) (omega (arith, T.len l (suc n))), T.first l n (suc n) (omega arith), T.get l (suc n) n (at l n) (omega arith))

  pub of_none : (l : List ℕ) → of l 0 ≡ []
  of_none l = sym (T.first l 0 0 (omega arith))

  -- a record is stored behind the first n
  pub put-end : (l m : List ℕ) (n : ℕ) (x : A) → ((k : ℕ) → of m k ≡ slice_set (of l k) n x) → of m (n + 1) ≡ of l n ++ (x ∷ [])
  put-end l m n x e =
      e (n + 1)
      ∙ rw add-one
      (sym (take_all (suc n) (slice_set (of l (suc n)) n x) (simp length-set (omega (arith, T.len l (suc n)))))
      ∙ take-suc-set (of l (suc n)) n x (omega (arith, T.len l (suc n)))
      ∙ rw (T.first l n (suc n) (omega arith)))

  -- ---- a loop that moves records by one: a hole goes through the table

  pub hole-end : (l : List ℕ) (i n : ℕ) → n ≡ i + 1 → of l i ≡ remove_at (of l n) i
  hole-end l i n e = sym (T.first l i n (omega arith)) ∙ sym (hole-last (of l n) i (T.len l n ∙ e ∙ add-one i))

  pub moved_up : (l m : List ℕ) (n i : ℕ) → i + 1 < n → ((k : ℕ) → of m k ≡ slice_set (of l k) i (at l (i + 1)))
      → remove_at (of m n) (i + 1) ≡ remove_at (of l n) i
  moved_up l m n i h e =
      rw (e n, ← T.get l n (i + 1) (at l i) h, add-one) (hole-up (of l n) i (at l i) (omega (arith, T.len l n)))

  pub moved_down : (l m : List ℕ) (n i j : ℕ) → j ≡ i + 1 → j < n → ((k : ℕ) → of m k ≡ slice_set (of l k) j (at l i))
      → remove_at (of m n) i ≡ remove_at (of l n) j
  moved_down l m n i j q h e =
      rw (e n, ← T.get l n i (at l j) (omega arith), q, add-one) (hole-down (of l n) i _ (omega (arith, T.len l n)))

  pub filled : (l m : List ℕ) (ys : List A) (n i : ℕ) (x : A) → i < n → ((k : ℕ) → of m k ≡ slice_set (of l k) i x)
      → remove_at (of l n) i ≡ ys → of m n ≡ insert_at ys i x
  filled l m ys n i x h e q = e n ∙ hole-fill (of l n) i x (omega (arith, T.len l n)) ∙ rw q

-- ---- a loop that keeps the records that pass a test: of r records read, those kept are the first w, and those not read yet are as they were

pub record Kept {A : Type 0} (of : List ℕ → ℕ → List A) (p : A → Bool) (l₀ l : List ℕ) (n w r : ℕ) : Type 0 where
  pub low : w ≤ r
  pub high : r ≤ n
  pub done : of l w ≡ keep p (of l₀ r)
  pub rest : drop r (of l n) ≡ drop r (of l₀ n)

module _ {A : Type 0} {of : List ℕ → ℕ → List A} {at : List ℕ → ℕ → A} (T : Table of at) (p : A → Bool) where
  pub kept-none : (l : List ℕ) (n : ℕ) → Kept of p l l n 0 0
  kept-none l n = record { low = omega arith; high = omega arith; done = rw (of_none T l); rest = refl }

  module _ (l₀ l : List ℕ) (n w r : ℕ) (h : r < n) (k : Kept of p l₀ l n w r) where
    -- what is read is what was there, and so is what is behind it
    same : at l r ∷ drop (r + 1) (of l n) ≡ at l₀ r ∷ drop (r + 1) (of l₀ n)
    same = sym (drop_of T l n r h) ∙ k.rest ∙ drop_of T l₀ n r h

    here : at l r ≡ at l₀ r
    here = cc same

    behind : drop (r + 1) (of l n) ≡ drop (r + 1) (of l₀ n)
    behind = cc same

    more : keep p (of l₀ (r + 1)) ≡ pick (p (at l r)) (of l w ++ (at l r ∷ [])) (of l w)
    more = rw (of-suc T l₀ r, keep_snoc, k.done, here)

    pub kept-no : p (at l r) ≡ false → Kept of p l₀ l n w (r + 1)
    kept-no t = record { low = omega arith; high = omega arith; done = sym (more ∙ rw t); rest = behind }

    pub kept-yes : (m : List ℕ) → p (at l r) ≡ true → ((i : ℕ) → of m i ≡ slice_set (of l i) w (at l r)) → Kept of p l₀ m n (w + 1) (r + 1)
    kept-yes m t e = record { low = omega arith; high = omega arith; done = put-end T l m w (at l r) e ∙ sym (more ∙ rw t); rest = rw (e n, drop-set-lt (r + 1) (of l n) w (at l r) (omega arith)) behind }

  pub kept-all : (l₀ l : List ℕ) (n w r : ℕ) → n ≤ r → Kept of p l₀ l n w r → of l w ≡ keep p (of l₀ n)
  kept-all l₀ l n w r h k = let e : r ≡ n = omega arith in rw e at k.done
