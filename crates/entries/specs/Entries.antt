-- The ordered pool's entries (document 01, "The ordered pool"): the pooled transactions in priority order, which is that of the Rust's `TxWeight`:
-- weight falling, then id rising.
use Rattle.std.specs.Prelude.{None, Option, Some}
use Rattle.std.specs.Prelude.{ℕ, ◌+◌, ◌≡◌, refl, Bool, true, false, List, [], ◌∷◌, eqb, ltb}
use Rattle.words.specs.Lists.{pick}
use Rattle.words.specs.Find.{found, without, put_back}
use Rattle.words.specs.Sums.{cap, capped}

pub record Entry : Type 0 where
  pub id : ℕ
  -- the base and the credits, capped
  pub weight : ℕ
  pub base : ℕ
  pub size : ℕ
  -- the cost that the base weight goes by, and "the entry's measured cost", or none
  pub cost : ℕ
  pub validation_cost : Option ℕ
  pub created : ℕ
  pub last_checked : ℕ
  -- the greatest output height as signed 32 bits, biased by 2^31, and 0 where there is no output
  pub height_key : ℕ
  -- repeats counted
  pub inputs : ℕ

-- what the order reads of an entry
abbrev pub weight_of : Entry → ℕ
weight_of e = e.weight

abbrev pub key_of : Entry → ℕ
key_of e = e.id

-- the first is heavier, or as heavy with a smaller id
unfoldable pub ahead : ℕ → ℕ → ℕ → ℕ → Bool
ahead w k w' k' = pick (eqb w w') (ltb k k') (ltb w' w)

-- a row put where the order has it: behind those at the front that are ahead of it. What is read of a row is its weight and its id
abbrev pub insert_on : {A : Type 0} → (A → ℕ) → (A → ℕ) → A → List A → List A
insert_on w k e [] = e ∷ []
insert_on w k e (x ∷ xs) = pick (ahead (w x) (k x) (w e) (k e)) (x ∷ insert_on w k e xs) (e ∷ x ∷ xs)

abbrev pub insert_by : Entry → List Entry → List Entry
insert_by e es = insert_on weight_of key_of e es

-- whether an id is pooled
abbrev pub pooled : ℕ → List Entry → Bool
pooled k [] = false
pooled k (e ∷ es) = pick (eqb e.id k) true (pooled k es)

-- the place of the first entry of this id, where the list's first stands at i
unfoldable pub place_from : ℕ → ℕ → List Entry → Option ℕ
place_from i k [] = None
place_from i k (e ∷ es) = pick (eqb e.id k) (Some i) (place_from (i + 1) k es)

unfoldable pub place_of : ℕ → List Entry → Option ℕ
place_of k es = place_from 0 k es

-- "adds the child's base (capped at 2^64−1)": the entry of this id is taken out, raised and put back in order; where there is none, nothing
abbrev pub raised : ℕ → Entry → Entry
raised c e =
    record {
      id = e.id;
      weight = capped (e.weight + c);
      base = e.base;
      size = e.size;
      cost = e.cost;
      validation_cost = e.validation_cost;
      created = e.created;
      last_checked = e.last_checked;
      height_key = e.height_key;
      inputs = e.inputs;
    }

abbrev pub credit : ℕ → ℕ → List Entry → List Entry
credit c k es = put_back insert_by (raised c) (found (λ e. e.id) k es) (without (λ e. e.id) k es)

-- "valid, stamped, measured cost added": the entry of this id gets a validation cost and a time
abbrev pub stamp : Option ℕ → ℕ → Entry → Entry
stamp v t e =
    record {
      id = e.id;
      weight = e.weight;
      base = e.base;
      size = e.size;
      cost = e.cost;
      validation_cost = v;
      created = e.created;
      last_checked = t;
      height_key = e.height_key;
      inputs = e.inputs;
    }

abbrev pub stamped : ℕ → Option ℕ → ℕ → List Entry → List Entry
stamped k v t [] = []
stamped k v t (e ∷ es) = pick (eqb e.id k) (stamp v t e ∷ es) (e ∷ stamped k v t es)

-- ---- on the edges

abbrev sample : ℕ → ℕ → Entry
sample k w = record { id = k; weight = w; base = w; size = 0; cost = 0; validation_cost = None; created = 0; last_checked = 0; height_key = 0; inputs = 0 }

abbrev three : List Entry
three = sample 7 30 ∷ sample 2 20 ∷ sample 5 20 ∷ []

-- a tie goes by the id
ties : (insert_by (sample 4 20) three ≡ sample 7 30 ∷ sample 2 20 ∷ sample 4 20 ∷ sample 5 20 ∷ []) × (insert_by (sample 9 cap) three ≡ sample 9 cap ∷ three)
unfolding ahead
ties = (refl, refl)

places : (place_of 5 three ≡ Some 2) × (place_of 4 three ≡ None) × (pooled 5 three ≡ true) × (pooled 4 three ≡ false)
unfolding place_of place_from
places = (refl, refl, refl, refl)

-- a credit of 10 makes the last as heavy as the first, and its smaller id goes ahead; 2^64−1 is not passed
credits : (credit 10 5 three ≡ raised 10 (sample 5 20) ∷ sample 7 30 ∷ sample 2 20 ∷ []) × (credit cap 2 three ≡ raised cap (sample 2 20) ∷ sample 7 30 ∷ sample 5 20 ∷ []) × ((raised cap (sample 2 20)).weight ≡ cap) × (credit 1 4 three ≡ three)
unfolding ahead
credits = (refl, refl, refl, refl)

stamps : stamped 2 (Some 6) 9 three ≡ sample 7 30 ∷ stamp (Some 6) 9 (sample 2 20) ∷ sample 5 20 ∷ []
stamps = refl
