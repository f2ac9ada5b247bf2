-- Laws of the list of rows, for callers: what an insertion and a pruning keep. An id that is held is present; ids stay distinct; the
-- rows stay within the capacity.
use Rattle.std.specs.Prelude.{ℕ, zero, suc, ◌+◌, ◌-◌, ◌≤◌, max, ◌≡◌, refl, Bool, true, false, List, [], ◌∷◌, ◌++◌, map, length, drop, eqb}
use Rattle.std.proofs.Common.{arith, length-append, length-drop, eq-eqb, eqb-true}
use Rattle.words.specs.Lists.{pick, count, count-append, count-map-keep, map-append, Once}
use Rattle.expiring_cache.specs.Cache.{Held, fresh, present, held, enter, remember, prune}

abbrev pub ids : List Held → List ℕ
ids xs = map (λ (x : Held). x.id) xs

-- ---- held and present

pub held-present : (ttl time k : ℕ) (xs : List Held) → held ttl time k xs ≡ true → present k xs ≡ true
held-present ttl time k [] h = h
held-present ttl time k (x ∷ xs) h = go (eqb x.id k) (held-present ttl time k xs) h
  where
    go : (t : Bool) → (held ttl time k xs ≡ true → present k xs ≡ true) → pick t (fresh ttl time x) (held ttl time k xs) ≡ true → pick t true (present k xs) ≡ true
    go true ih q = refl
    go false ih q = ih q

present-last : (k t : ℕ) (xs : List Held) → present k (xs ++ (record { id = k; since = t } ∷ [])) ≡ true
present-last k t [] = rw (eq-eqb k k refl)
present-last k t (x ∷ xs) = go (eqb x.id k) (present-last k t xs)
  where
    go : (b : Bool) {p : Bool} → p ≡ true → pick b true p ≡ true
    go true h = refl
    go false h = h

-- after an insertion the id is present
pub remember-present : (capacity time k : ℕ) (xs : List Held) → present k (remember capacity time k xs) ≡ true
remember-present capacity time k xs = go (present k xs) refl
  where
    go : (t : Bool) → present k xs ≡ t → present k (pick t xs (enter capacity time k xs)) ≡ true
    go true e = e
    go false e = present-last k time (drop (suc (length xs) - max capacity 1) xs)

-- ---- how many they are

pub enter-length : (capacity time k : ℕ) (xs : List Held) → length (enter capacity time k xs) ≤ max capacity 1
enter-length capacity time k xs = simp (length-append, length-drop) (omega arith)

pub remember-length : (capacity time k : ℕ) (xs : List Held) → length xs ≤ max capacity 1 → length (remember capacity time k xs) ≤ max capacity 1
remember-length capacity time k xs h = go (present k xs)
  where
    go : (t : Bool) → length (pick t xs (enter capacity time k xs)) ≤ max capacity 1
    go true = h
    go false = enter-length capacity time k xs

-- ---- each id once

-- one that is not present stands nowhere among the ids
absent-count : (k : ℕ) (xs : List Held) → present k xs ≡ false → count k (ids xs) ≡ 0
absent-count k [] h = refl
absent-count k (x ∷ xs) h = go (eqb x.id k) (absent-count k xs) h
  where
    go : (t : Bool) {n : ℕ} → (present k xs ≡ false → n ≡ 0) → pick t true (present k xs) ≡ false → pick t 1 0 + n ≡ 0
    go true ih q = absurd (let z : ◌≡◌ {A = ℕ} 0 1 = cc in omega arith)
    go false ih q = omega (arith, ih q)

count-drop : (k n : ℕ) (xs : List Held) → count k (ids (drop n xs)) ≤ count k (ids xs)
count-drop k zero xs = omega arith
count-drop k (suc n) [] = omega arith
count-drop k (suc n) (x ∷ xs) = omega (arith, count-drop k n xs)

enter-once : (capacity time k : ℕ) (xs : List Held) → present k xs ≡ false → Once (ids xs) → Once (ids (enter capacity time k xs))
enter-once capacity time k xs a o j = rw (map-append, count-append) (go (eqb k j) refl)
  where
    n : ℕ
    n = suc (length xs) - max capacity 1

    go : (t : Bool) → eqb k j ≡ t → count j (ids (drop n xs)) + (pick t 1 0 + 0) ≤ 1
    go true q = let z : count j (ids xs) ≡ 0 = rw (eqb-true k j q) at (absent-count k xs a) in omega (arith, count-drop j n xs)
    go false q = omega (arith, count-drop j n xs, o j)

pub remember-once : (capacity time k : ℕ) (xs : List Held) → Once (ids xs) → Once (ids (remember capacity time k xs))
remember-once capacity time k xs o = go (present k xs) refl
  where
    go : (t : Bool) → present k xs ≡ t → Once (ids (pick t xs (enter capacity time k xs)))
    go true e = o
    go false e = enter-once capacity time k xs e o

pub prune-once : (ttl time : ℕ) (xs : List Held) → Once (ids xs) → Once (ids (prune ttl time xs))
prune-once ttl time xs o k = omega (arith, count-map-keep (λ (x : Held). x.id) (fresh ttl time) k xs, o k)
