-- Credits to parents on the pool's tables (document 01, "Credits to parents"): "After a submission is inserted, `propagate_family_weight` pushes
-- its inputs' producers in input order, pops the last, adds the child's base (capped at 2^64−1), pushes that parent's producers likewise. At most
-- 500 visits". The walk reads the box records alone, so its path is that of `walked`, and the credits are granted along it.
use Rattle.std.specs.Prelude.{None}
use Rattle.std.specs.Prelude.{ℕ, ◌≡◌, refl, List, [], ◌∷◌, map}
use Rattle.words.specs.Sums.{cap}
use Rattle.entries.specs.Entries.{ahead}
use Rattle.boxes.specs.Records.{parents}
use Rattle.pool.specs.Pool.{Tables, insert_tx, credits}
use Rattle.pool.specs.Ok.{Ok, ok-credits}
use Rattle.family.specs.Chains.{walked}

-- transaction k credits c to each that its walk of b visits at most reaches
abbrev pub propagated : ℕ → ℕ → ℕ → Tables → Tables
propagated b c k t = record { entries = credits c (walked (parents t.boxes) b k) t.entries; boxes = t.boxes }

-- a valid store stays valid
pub ok-propagated : (b c k : ℕ) (t : Tables) → Ok t → Ok (propagated b c k t)
ok-propagated b c k t o = ok-credits c (walked (parents t.boxes) b k) t o

-- ---- on the edges: entries of base 10, and a newcomer of base 1, each with its id, inputs and outputs; what is compared is id and weight

pub record Seen : Type 0 where
  pub id : ℕ
  pub weight : ℕ

abbrev seen : Tables → List Seen
seen t = map (λ e. record { id = e.id; weight = e.weight }) t.entries

abbrev tx : ℕ → ℕ → List ℕ → List ℕ → Tables → Tables
tx k w ins outs t =
    insert_tx (record { id = k; weight = w; base = w; size = 0; cost = 0; validation_cost = None; created = 0; last_checked = 0; height_key = 0; inputs = 0 }) ins outs t

abbrev none : Tables
none = record { entries = []; boxes = [] }

abbrev now : ℕ → ℕ → Seen
now k w = record { id = k; weight = w }

-- a chain: 1 makes box 11 that 2 spends, 2 makes 12 that 9 spends
chain : seen (propagated 500 1 9 (tx 9 1 (12 ∷ []) [] (tx 2 10 (11 ∷ []) (12 ∷ []) (tx 1 10 (7 ∷ []) (11 ∷ []) none)))) ≡ now 1 11 ∷ now 2 11 ∷ now 9 1 ∷ []
unfolding ahead
chain = refl

-- a diamond: 2 and 3 spend the two outputs of 1, and 9 spends one of each. The grandparent is credited twice
diamond : seen (propagated 500 1 9 (tx 9 1 (12 ∷ 13 ∷ []) [] (tx 3 10 (14 ∷ []) (13 ∷ []) (tx 2 10 (11 ∷ []) (12 ∷ []) (tx 1 10 [] (11 ∷ 14 ∷ []) none))))) ≡ now 1 12 ∷ now 2 11 ∷ now 3 11 ∷ now 9 1 ∷ []
unfolding ahead
diamond = refl

-- a repeated input counts twice
repeated : seen (propagated 500 1 9 (tx 9 1 (11 ∷ 11 ∷ []) [] (tx 1 10 [] (11 ∷ []) none))) ≡ now 1 12 ∷ now 9 1 ∷ []
unfolding ahead
repeated = refl

-- a cycle ends with the visits: 9 makes what 1 spends. A transaction that spends its own output credits itself
cycle : seen (propagated 5 1 9 (tx 9 1 (11 ∷ []) (12 ∷ []) (tx 1 10 (12 ∷ []) (11 ∷ []) none))) ≡ now 1 13 ∷ now 9 3 ∷ []
unfolding ahead
cycle = refl

own : seen (propagated 500 1 9 (tx 9 1 (11 ∷ []) (11 ∷ []) (tx 1 10 [] [] none))) ≡ now 9 501 ∷ now 1 10 ∷ []
unfolding ahead
own = refl

-- a weight does not pass 2^64−1
capped : seen (propagated 500 1 9 (tx 9 1 (11 ∷ 11 ∷ []) [] (tx 1 18446744073709551614 [] (11 ∷ []) none))) ≡ now 1 cap ∷ now 9 1 ∷ []
unfolding ahead
capped = refl
