-- Operations on lists of records that contracts cite, for any type of record, and their laws: what a loop that moves records one by one
-- does. Such a loop moves a hole: the list without the element at the hole is the same before and after each turn.
use Rattle.std.specs.Prelude.{◌≡◌, ℕ, zero, suc, ◌+◌, ◌<◌, ◌≤◌, Bool, true, false, not, List, [], ◌∷◌, ◌++◌, map, length, take, ◌==◌, slice_index_or, slice_set}
use Rattle.std.proofs.Math.Path.{refl, ap}
use Rattle.std.proofs.Common.{sym, ◌∙◌, append_assoc, not-suc-le-zero, le_of_suc-le-suc, suc-ne-zero, arith, eqb-true, eq-eqb}
use Rattle.std.proofs.Math.Nat.{suc_inj}

-- one of two values, by a test
abbrev pub pick : {A : Type 0} → Bool → A → A → A
pick true a b = a
pick false a b = b

-- by a test that is met, and by one that is not
pub yes : {A : Type 0} (b : Bool) (x y : A) → b ≡ true → pick b x y ≡ x
yes {A} b x y e = ap (λ (t : Bool). pick t x y) e

pub no : {A : Type 0} (b : Bool) (x y : A) → b ≡ false → pick b x y ≡ y
no {A} b x y e = ap (λ (t : Bool). pick t x y) e

module _ {A : Type 0} where
  -- the list without its element at index i
  unfoldable pub remove_at : List A → ℕ → List A
  remove_at [] i = []
  remove_at (x ∷ xs) zero = xs
  remove_at (x ∷ xs) (suc i) = x ∷ remove_at xs i

  -- the list with x at index i, before the element that was there
  unfoldable pub insert_at : List A → ℕ → A → List A
  insert_at l zero x = x ∷ l
  insert_at [] (suc i) x = x ∷ []
  insert_at (y ∷ ys) (suc i) x = y ∷ insert_at ys i x

  -- the elements that pass a test, in order
  abbrev pub keep : (A → Bool) → List A → List A
  keep p [] = []
  keep p (x ∷ xs) = pick (p x) (x ∷ keep p xs) (keep p xs)

  -- the element behind the hole moves into it: the hole goes up
  pub hole-up : (l : List A) (j : ℕ) (d : A) → suc j < length l → remove_at (slice_set l j (slice_index_or l (suc j) d)) (suc j) ≡ remove_at l j
  unfolding remove_at
  hole-up [] j d h = absurd (not-suc-le-zero h)
  hole-up (x ∷ []) zero d h = absurd (not-suc-le-zero (le_of_suc-le-suc h))
  hole-up (x ∷ y ∷ ys) zero d h = refl
  hole-up (x ∷ xs) (suc j) d h = ap (λ (r : List A). x ∷ r) (hole-up xs j d (le_of_suc-le-suc h))

  -- the element before the hole moves into it: the hole goes down
  pub hole-down : (l : List A) (j : ℕ) (d : A) → suc j < length l → remove_at (slice_set l (suc j) (slice_index_or l j d)) j ≡ remove_at l (suc j)
  unfolding remove_at
  hole-down [] j d h = absurd (not-suc-le-zero h)
  hole-down (x ∷ []) zero d h = absurd (not-suc-le-zero (le_of_suc-le-suc h))
  hole-down (x ∷ y ∷ ys) zero d h = refl
  hole-down (x ∷ xs) (suc j) d h = ap (λ (r : List A). x ∷ r) (hole-down xs j d (le_of_suc-le-suc h))

  -- a hole at the end
  pub hole-last : (l : List A) (j : ℕ) → length l ≡ suc j → remove_at l j ≡ take j l
  unfolding remove_at
  hole-last [] j h = refl-nil j
    where
      refl-nil : (j : ℕ) → ◌≡◌ {A = List A} [] (take j [])
      refl-nil zero = refl
      refl-nil (suc j) = refl
  hole-last (x ∷ []) zero h = refl
  hole-last (x ∷ y ∷ ys) zero h = absurd (suc-ne-zero (length ys) (suc_inj h))
  hole-last (x ∷ xs) (suc j) h = ap (λ (r : List A). x ∷ r) (hole-last xs j (suc_inj h))

  -- the hole is filled
  pub hole-fill : (l : List A) (j : ℕ) (x : A) → j < length l → slice_set l j x ≡ insert_at (remove_at l j) j x
  unfolding remove_at insert_at
  hole-fill [] j x h = absurd (not-suc-le-zero h)
  hole-fill (y ∷ ys) zero x h = refl
  hole-fill (y ∷ ys) (suc j) x h = ap (λ (r : List A). y ∷ r) (hole-fill ys j x (le_of_suc-le-suc h))

  -- one element more is tested
  pub keep_snoc : (p : A → Bool) (l : List A) (x : A) → keep p (l ++ (x ∷ [])) ≡ pick (p x) (keep p l ++ (x ∷ [])) (keep p l)
  keep_snoc p [] x = go (p x)
    where
      go : (t : Bool) → pick t (x ∷ []) [] ≡ pick t ([] ++ (x ∷ [])) []
      go true = refl
      go false = refl
  keep_snoc p (y ∷ ys) x = rw (keep_snoc p ys x) (go (p x) (p y))
    where
      go : (t u : Bool) → pick u (y ∷ pick t (keep p ys ++ (x ∷ [])) (keep p ys)) (pick t (keep p ys ++ (x ∷ [])) (keep p ys)) ≡ pick t (pick u (y ∷ keep p ys) (keep p ys) ++ (x ∷ [])) (pick u (y ∷ keep p ys) (keep p ys))
      go true true = refl
      go true false = refl
      go false true = refl
      go false false = refl

-- ---- what is kept, and how often a number stands in a list

abbrev pub other : ℕ → ℕ → Bool
other k x = not (x == k)

module _ {A : Type 0} where
  pub keep_append : (p : A → Bool) (a b : List A) → keep p (a ++ b) ≡ keep p a ++ keep p b
  keep_append p [] b = refl
  keep_append p (x ∷ a) b = go (p x) (keep_append p a b)
    where
      go : (t : Bool) → keep p (a ++ b) ≡ keep p a ++ keep p b → pick t (x ∷ keep p (a ++ b)) (keep p (a ++ b)) ≡ pick t (x ∷ keep p a) (keep p a) ++ keep p b
      go true e = ap (λ (r : List A). x ∷ r) e
      go false e = e

module _ {A B : Type 0} (g : A → B) where
  -- what is kept after a map is what is kept before it, mapped
  pub keep-map : (p : B → Bool) (l : List A) → keep p (map g l) ≡ map g (keep (λ x. p (g x)) l)
  keep-map p [] = refl
  keep-map p (x ∷ xs) = go (p (g x)) (keep-map p xs)
    where
      go : (t : Bool) → keep p (map g xs) ≡ map g (keep (λ x. p (g x)) xs) → pick t (g x ∷ keep p (map g xs)) (keep p (map g xs)) ≡ map g (pick t (x ∷ keep (λ x. p (g x)) xs) (keep (λ x. p (g x)) xs))
      go true e = ap (λ (r : List B). g x ∷ r) e
      go false e = e

  -- all or nothing is kept of a list whose elements the test does not tell apart
  pub keep_all : (p : B → Bool) → ((x : A) → p (g x) ≡ true) → (l : List A) → keep p (map g l) ≡ map g l
  keep_all p h [] = refl
  keep_all p h (x ∷ l) = rw (h x) (ap (λ (r : List B). g x ∷ r) (keep_all p h l))

  pub keep-none : (p : B → Bool) → ((x : A) → p (g x) ≡ false) → (l : List A) → keep p (map g l) ≡ []
  keep-none p h [] = refl
  keep-none p h (x ∷ l) = rw (h x) (keep-none p h l)

  pub map-append : (a b : List A) → map g (a ++ b) ≡ map g a ++ map g b
  map-append [] b = refl
  map-append (x ∷ a) b = ap (λ (r : List B). g x ∷ r) (map-append a b)

abbrev pub count : ℕ → List ℕ → ℕ
count k [] = 0
count k (x ∷ xs) = pick (x == k) 1 0 + count k xs

-- fewer are kept
pub count-keep : (k : ℕ) (p : ℕ → Bool) (l : List ℕ) → count k (keep p l) ≤ count k l
count-keep k p [] = omega arith
count-keep k p (x ∷ l) = go (p x) (count-keep k p l)
  where
    go : (t : Bool) → count k (keep p l) ≤ count k l → count k (pick t (x ∷ keep p l) (keep p l)) ≤ pick (x == k) 1 0 + count k l
    go true h = omega arith
    go false h = omega arith

-- each number at most once
abbrev pub Once : List ℕ → Type 0
Once l = (k : ℕ) → count k l ≤ 1

pub once-head : (x : ℕ) (l : List ℕ) → Once (x ∷ l) → count x l ≡ 0
once-head x l h = let q : pick (x == x) 1 0 + count x l ≤ 1 = h x in let e : ◌≡◌ {A = ℕ} (pick (x == x) 1 0) 1 = rw (eq-eqb x x refl) in omega arith

pub once-tail : (x : ℕ) (l : List ℕ) → Once (x ∷ l) → Once l
once-tail x l h k = omega (arith, h k)

pub once-cons : (x : ℕ) (l : List ℕ) → count x l ≡ 0 → Once l → Once (x ∷ l)
once-cons x l e h k = go (x == k) refl
  where
    go : (t : Bool) → (x == k) ≡ t → pick t 1 0 + count k l ≤ 1
    go true q = let z : count k l ≡ 0 = rw (eqb-true x k q) at e in omega arith
    go false q = omega (arith, h k)

-- one that does not stand in a list is not at its head, nor in its tail
pub absent-head : (k x : ℕ) (l : List ℕ) → count k (x ∷ l) ≡ 0 → (x == k) ≡ false
absent-head k x l h = go (x == k) refl h
  where
    go : (t : Bool) → (x == k) ≡ t → pick t 1 0 + count k l ≡ 0 → t ≡ false
    go true q z = absurd (omega arith)
    go false q z = refl

pub absent-tail : (k x : ℕ) (l : List ℕ) → count k (x ∷ l) ≡ 0 → count k l ≡ 0
absent-tail k x l h = omega arith

pub count-append : (k : ℕ) (a b : List ℕ) → count k (a ++ b) ≡ count k a + count k b
count-append k [] b = omega arith
count-append k (x ∷ a) b = omega (arith, count-append k a b)

pub count-other : (k : ℕ) (l : List ℕ) → count k (keep (other k) l) ≡ 0
count-other k [] = refl
count-other k (x ∷ l) = go (x == k) refl (count-other k l)
  where
    go : (t : Bool) → (x == k) ≡ t → count k (keep (other k) l) ≡ 0 → count k (pick (not t) (x ∷ keep (other k) l) (keep (other k) l)) ≡ 0
    go true q h = h
    go false q h = rw q (omega arith)

pub count-map-keep : {A : Type 0} (g : A → ℕ) (p : A → Bool) (j : ℕ) (l : List A) → count j (map g (keep p l)) ≤ count j (map g l)
count-map-keep g p j [] = omega arith
count-map-keep {A} g p j (x ∷ l) = go (p x) (count-map-keep g p j l)
  where
    go : (t : Bool) → count j (map g (keep p l)) ≤ count j (map g l) → count j (map g (pick t (x ∷ keep p l) (keep p l))) ≤ count j (map g (x ∷ l))
    go true h = omega arith
    go false h = omega arith

-- the old ones of b go, and b stands at the end
pub once_last : (b : ℕ) (l : List ℕ) → Once l → Once (keep (other b) l ++ (b ∷ []))
once_last b l h k = go (b == k) refl
  where
    go : (t : Bool) → (b == k) ≡ t → count k (keep (other b) l ++ (b ∷ [])) ≤ 1
    go true q = rw (← eqb-true b k q) (rw (count-append b (keep (other b) l) (b ∷ []), count-other b l, eq-eqb b b refl) (omega arith))
    go false q = rw (count-append k (keep (other b) l) (b ∷ []), q) (omega (arith, count-keep k (other b) l, h k))

-- ---- lists laid end to end

module _ {A B : Type 0} where
  abbrev pub flat : (A → List B) → List A → List B
  flat f [] = []
  flat f (x ∷ xs) = f x ++ flat f xs

  pub flat_append : (f : A → List B) (a b : List A) → flat f (a ++ b) ≡ flat f a ++ flat f b
  flat_append f [] b = refl
  flat_append f (x ∷ a) b = rw (flat_append f a b) (sym (append_assoc (f x) (flat f a) (flat f b)))

module _ {A B C : Type 0} (g : B → C) where
  pub map-flat : (f : A → List B) (l : List A) → map g (flat f l) ≡ flat (λ x. map g (f x)) l
  map-flat f [] = refl
  map-flat f (x ∷ l) = map-append g (f x) (flat f l) ∙ ap (λ (r : List C). map g (f x) ++ r) (map-flat f l)
