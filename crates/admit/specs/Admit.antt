-- What follows the tests of a submission with a valid verdict (document 01, "A submission"): "a remote peer is charged; 10; 29; losers go; 30;
-- insert, credits, eviction of the lowest until the capacity is met." Here from 10 on; the block sum after the charge stands beside it.
use Rattle.std.specs.Prelude.{None, Some}
use Rattle.std.specs.Prelude.{ℕ, ◌+◌, min, max, ◌≡◌, refl, Bool, true, false, not, ◌&&◌, List, [], ◌∷◌, ◌++◌, eqb, leb, ltb, length}
use Rattle.words.specs.Lists.{pick}
use Rattle.words.specs.Find.{found, last}
use Rattle.words.specs.Sums.{cap, capped, quotient_of}
use Rattle.words.specs.Ids.{id_of}
use Rattle.pool_types.specs.declared.MempoolConfig.{MempoolConfig}
use Rattle.pool_types.specs.declared.Submission.{Submission}
use Rattle.pool_types.specs.declared.Source.{Source}
use Rattle.pool_types.specs.declared.Source.TheVariants.{Local, Peer}
use Rattle.pool_types.specs.declared.Verdict.TheVariants.{Valid}
use Rattle.pool_types.specs.declared.FeeStrategy.TheVariants.{FeePerByte}
use Rattle.pool_types.specs.Outcomes.{Outcome, refused, done, wrote}
use Rattle.weight.specs.Weight.{fee_per_factor}
use Rattle.arguments.specs.Arguments.{records, fee_of, height_key}
use Rattle.entries.specs.Entries.{Entry}
use Rattle.boxes.specs.Records.{index, conflicts}
use Rattle.boxes.specs.Flat.{ids_to, ids_of}
use Rattle.pool.specs.Pool.{Tables, insert_tx, remove_all, nobody, evict, evicted}
use Rattle.family.specs.Family.{propagated}

-- ---- cost and charge

-- "Cost = max(verdict cost, size)"
abbrev pub cost_of : ℕ → ℕ → ℕ
cost_of c size = max c size

-- "A charge adds the cost to the block sum and to the peer's record": the block sum; the record is crate peers'. "A remote peer is charged".
unfoldable pub charged_sum : Source → ℕ → ℕ → ℕ
charged_sum Local sum cost = sum
charged_sum (Peer p) sum cost = capped (sum + cost)

-- ---- 29: "base at most the floored exact average of the conflicts' weights"

abbrev first_weight : List Entry → ℕ
first_weight [] = 0
first_weight (e ∷ es) = e.weight

-- the weight of the first entry of this id, 0 where there is none
abbrev pub weight_of : ℕ → List Entry → ℕ
weight_of k es = first_weight (found (λ e. e.id) k es)

-- their sum, exact
abbrev pub weights_of : List ℕ → List Entry → ℕ
weights_of [] es = 0
weights_of (k ∷ ks) es = weight_of k es + weights_of ks es

unfoldable pub loses : ℕ → List ℕ → List Entry → Bool
loses base ks es = pick (eqb (length ks) 0) false (leb base (quotient_of (weights_of ks es) (length ks)))

-- ---- 30: "pool full and base at most the lowest weight", not where no entry is left (docs/DECISIONS.md, D15)

unfoldable pub crowded : ℕ → ℕ → List Entry → Bool
crowded capacity base es = leb capacity (length es) && (not (eqb (length es) 0) && leb base (last nobody es).weight)

-- ---- "insert, credits, eviction of the lowest until the capacity is met"

-- "Entry weight is the base"; "the verdict cost itself is kept as the entry's measured cost"
unfoldable pub newcomer : Submission → ℕ → ℕ → List ℕ → List ℕ → Entry
newcomer a c base ins outs =
    record {
      id = id_of a.id;
      weight = base;
      base = base;
      size = a.size;
      cost = cost_of c a.size;
      validation_cost = Some c;
      created = a.time;
      last_checked = a.time;
      height_key = height_key 7 6 outs;
      inputs = records 5 ins;
    }

-- it is inserted, and its walk credits its base: the pool with the newcomer, "before eviction"
unfoldable pub joined : ℕ → Entry → List ℕ → List ℕ → Tables → Tables
joined visits e ins outs t = propagated visits e.base e.id (insert_tx e (ids_of 5 ins) (ids_of 7 outs) t)

-- ---- the whole

-- what an admission comes to: the outcome, both tables, and the ids that go to the answer buffer, from its first place on. An id without a place
-- is not written: an outcome counts no more ids than `room`, the places of the buffer
pub record Admitted : Type 0 where
  pub outcome : Outcome
  pub tables : Tables
  pub written : List ℕ

-- "`Accepted` names no evicted ids; `Replaced` lists conflicts, then evicted. The newcomer itself can be evicted."
unfoldable pub settled : ℕ → ℕ → List ℕ → Tables → Admitted
settled room capacity [] t = record { outcome = done; tables = evict capacity t; written = [] }
settled room capacity (k ∷ ks) t =
    record {
      outcome = wrote (min room (length (k ∷ ks) + length (evicted capacity t)));
      tables = evict capacity t;
      written = (k ∷ ks) ++ evicted capacity t;
    }

-- the newcomer e with these inputs and outputs, against a capacity
module _ (visits room capacity : ℕ) (e : Entry) (ins outs : List ℕ) where
  -- after the losers ks went. 30: "charge and removal of losers stand"
  unfoldable pub seated : List ℕ → Tables → Admitted
  seated ks t =
      pick (crowded capacity e.base t.entries) (record { outcome = refused 30 0; tables = t; written = [] })
      (settled room capacity ks (joined visits e ins outs t))

  -- 29: "their ids are written, the charge stands"; else "losers go"
  unfoldable pub contested : List ℕ → Tables → Admitted
  contested ks t =
      pick (loses e.base ks t.entries) (record { outcome = refused 29 (min room (length ks)); tables = t; written = ks })
      (seated ks (remove_all ks t))

-- its base
abbrev pub base_of : MempoolConfig → Submission → ℕ → List ℕ → ℕ
base_of g a c outs = fee_per_factor g.fee_strategy (fee_of outs) a.size (cost_of c a.size)

-- 10: "fee below minimum; the charge stands". "Conflicts are listed by first input."
unfoldable pub admit_spec : ℕ → ℕ → MempoolConfig → Tables → Submission → ℕ → List ℕ → List ℕ → Admitted
admit_spec visits room g t a c ins outs =
    pick (ltb (fee_of outs) g.min_fee) (record { outcome = refused 10 0; tables = t; written = [] })
    (contested visits room g.capacity (newcomer a c (base_of g a c outs) ins outs) ins outs (conflicts (index false t.boxes) (ids_of 5 ins)) t)

-- ---- on the edges

abbrev sample : ℕ → ℕ → Entry
sample k w = record { id = k; weight = w; base = w; size = 0; cost = 0; validation_cost = None; created = 0; last_checked = 0; height_key = 0; inputs = 0 }

abbrev two : List Entry
two = sample 1 15 ∷ sample 2 10 ∷ []

-- "Conflicts 10 and 15: 12 loses, 13 wins." One that is not pooled weighs nothing and counts; nobody loses against nobody
contests : (loses 12 (2 ∷ 1 ∷ []) two ≡ true) × (loses 13 (2 ∷ 1 ∷ []) two ≡ false) × (loses 8 (2 ∷ 1 ∷ 3 ∷ []) two ≡ true) × (loses 9 (2 ∷ 1 ∷ 3 ∷ []) two ≡ false) × (loses 0 [] two ≡ false)
unfolding loses
contests = (refl, refl, refl, refl, refl)

-- sums past 2^64−1 are exact
exact : (loses cap (1 ∷ 2 ∷ []) (sample 1 cap ∷ sample 2 cap ∷ []) ≡ true) × (loses cap (1 ∷ 2 ∷ []) (sample 1 cap ∷ sample 2 10 ∷ []) ≡ false)
unfolding loses
exact = (refl, refl)

-- a full pool refuses a base equal to its lowest weight; one that is not full, or empty, refuses none
crowds : (crowded 2 10 two ≡ true) × (crowded 2 11 two ≡ false) × (crowded 3 0 two ≡ false) × (crowded 0 0 [] ≡ false)
unfolding crowded
crowds = (refl, refl, refl, refl)

-- "`Accepted` names no evicted ids; `Replaced` lists conflicts, then evicted."
abbrev pool : Tables
pool = record { entries = two; boxes = [] }

lists : (settled 2 1 (7 ∷ []) pool ≡ record { outcome = wrote 2; tables = record { entries = sample 1 15 ∷ []; boxes = [] }; written = 7 ∷ 2 ∷ [] }) × (settled 2 0 [] pool ≡ record { outcome = done; tables = record { entries = []; boxes = [] }; written = [] })
unfolding settled
lists = (refl, refl)

-- a buffer of one place holds one of two
told : (settled 1 1 (7 ∷ []) pool).outcome ≡ wrote 1
unfolding settled
told = refl

-- "Capacity 0, empty pool: `Accepted`, pool empty"
abbrev none : Tables
none = record { entries = []; boxes = [] }

abbrev settings : MempoolConfig
settings =
    record {
      capacity = 0;
      min_fee = 0;
      fee_strategy = FeePerByte;
      cleanup_interval = 0;
      rebroadcast_count = 0;
      invalidation_ttl = 0;
      invalidation_capacity = 0;
      cost_per_block = 0;
      cost_per_peer_per_block = 0;
    }

abbrev offered : Submission
offered = record { time = 5; id = record { a = 0; b = 0; c = 0; d = 3 }; size = 300; preheader = 1; source = Local; verdict = Valid 500 }

no-capacity : admit_spec 500 1 settings none offered 500 [] [] ≡ record { outcome = done; tables = none; written = [] }
unfolding admit_spec contested seated settled joined newcomer loses crowded fee_of ids_to
no-capacity = refl
