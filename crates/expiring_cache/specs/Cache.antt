-- Ids once found invalid (document 01, "Ids once found invalid"): rows of an id and the time it was held from, oldest first.
use Rattle.std.specs.Prelude.{ℕ, suc, ◌-◌, max, ◌≡◌, refl, Bool, true, false, List, [], ◌∷◌, ◌++◌, length, drop, eqb, ltb}
use Rattle.words.specs.Lists.{pick, keep}

pub record Held : Type 0 where
  pub id : ℕ
  pub since : ℕ

-- "Held while age < ttl." The age is a difference of times, and "a difference that would be negative is 0".
abbrev pub young : ℕ → ℕ → ℕ → Bool
young ttl now since = ltb (now - since) ttl

abbrev pub fresh : ℕ → ℕ → Held → Bool
fresh ttl now x = young ttl now x.since

-- an id is present, expired or not
abbrev pub present : ℕ → List Held → Bool
present k [] = false
present k (x ∷ xs) = pick (eqb x.id k) true (present k xs)

-- it is held: present, and young enough (of two rows of one id, which no start and calls leave, the first decides)
abbrev pub held : ℕ → ℕ → ℕ → List Held → Bool
held ttl now k [] = false
held ttl now k (x ∷ xs) = pick (eqb x.id k) (fresh ttl now x) (held ttl now k xs)

-- "When full, oldest goes first. Capacity 0 acts as 1."
abbrev pub enter : ℕ → ℕ → ℕ → List Held → List Held
enter capacity now k xs = drop (suc (length xs) - max capacity 1) xs ++ (record { id = k; since = now } ∷ [])

-- "An id that is present, even expired, is not renewed by `insert`."
abbrev pub remember : ℕ → ℕ → ℕ → List Held → List Held
remember capacity now k xs = pick (present k xs) xs (enter capacity now k xs)

-- "`prune` drops the expired."
abbrev pub prune : ℕ → ℕ → List Held → List Held
prune ttl now xs = keep (fresh ttl now) xs

-- ---- on the edges

abbrev row : ℕ → ℕ → Held
row k t = record { id = k; since = t }

-- an age equal to the ttl is not held, one less is; a time before the stored one is an age of 0
pub held-edges : (held 10 110 7 (row 7 100 ∷ []) ≡ false) × (held 10 109 7 (row 7 100 ∷ []) ≡ true) × (held 10 3 7 (row 7 100 ∷ []) ≡ true)
held-edges = (refl, refl, refl)

-- an expired id stays as it is; a full cache of two drops the oldest; capacity 0 acts as 1; rows past the capacity go too
pub remember-edges : (remember 2 999 7 (row 7 100 ∷ []) ≡ row 7 100 ∷ [])
    × (remember 2 30 9 (row 7 10 ∷ row 8 20 ∷ []) ≡ row 8 20 ∷ row 9 30 ∷ [])
    × (remember 0 30 9 (row 8 20 ∷ []) ≡ row 9 30 ∷ [])
    × (remember 1 30 9 (row 7 10 ∷ row 8 20 ∷ []) ≡ row 9 30 ∷ [])
remember-edges = (refl, refl, refl, refl)

pub prune-edge : prune 10 110 (row 7 100 ∷ row 8 101 ∷ []) ≡ row 8 101 ∷ []
prune-edge = refl
