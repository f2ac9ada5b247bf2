-- A return and an invalidation on their edges, by computation: a pool of capacity 1, weighed by cost, that holds transaction 1, which spends box 7
-- and makes box 8.
use Rattle.std.specs.Prelude.{None}
use Rattle.std.specs.Prelude.{ℕ, ◌≡◌, refl, Bool, true, false, List, [], ◌∷◌}
use Rattle.words.specs.Ids.{id_of, id_at, join_is}
use Rattle.words.specs.declared.ids.Id.{Id}
use Rattle.pool_types.specs.declared.FeeStrategy.TheVariants.{FeePerCycle}
use Rattle.pool_types.specs.declared.Mempool.{Mempool}
use Rattle.pool_types.specs.declared.Source.TheVariants.{Local}
use Rattle.pool_types.specs.Outcomes.{refused, done}
use Rattle.arguments.specs.Arguments.{height_key}
use Rattle.expiring_cache.specs.Cache.{Held}
use Rattle.entries.specs.Entries.{Entry, ahead}
use Rattle.boxes.specs.Flat.{ids_to}
use Rattle.pool.specs.Pool.{Tables, insert_tx}
use Rattle.store.specs.World.{World, world, unchanged}
use Rattle.returns.specs.Returns.{return_refusal, returned_entry, returned, invalidated}
use Rattle.returns.specs.declared.UnconfirmedTx.{UnconfirmedTx}

abbrev tx-id : ℕ → Id
tx-id n = record { a = 0; b = 0; c = 0; d = n }

abbrev pool : Bool → Mempool
pool passing =
    record {
      config =
          record {
            capacity = 1;
            min_fee = 1000;
            fee_strategy = FeePerCycle;
            cleanup_interval = 0;
            rebroadcast_count = 0;
            invalidation_ttl = 9;
            invalidation_capacity = 2;
            cost_per_block = 1000;
            cost_per_peer_per_block = 1000;
          };
      counts = record { pooled = 1; records = 2 };
      cached = 1;
      sums = record { interblock_cost = 40; peers = 0 };
      pass = record { «open» = passing; out = false; candidate = tx-id 0; time = 0; limit = 0; preheader = 0; spent = 0 };
    }

-- an entry of this id, weight and base
abbrev sample : ℕ → ℕ → ℕ → Entry
sample k w b = record { id = k; weight = w; base = b; size = 0; cost = 0; validation_cost = None; created = 0; last_checked = 0; height_key = 0; inputs = 1 }

abbrev none : Tables
none = record { entries = []; boxes = [] }

abbrev one : Tables
one = insert_tx (sample 1 30 20) (7 ∷ []) (8 ∷ []) none

-- id 2 was found invalid at time 5
abbrev cached : List Held
cached = record { id = 2; since = 5 } ∷ []

abbrev before : World
before = world one cached 40 []

-- ---- a return

-- of this id and size, which pays 10 and costs 4, checked last at time 3; it spends box 8 and makes box 9 at height 50
abbrev back : ℕ → ℕ → UnconfirmedTx
back k size = record { id = tx-id k; fee = 10; size = size; cost = 4; validation_cost = None; created = 2; last_checked = 3; source = Local }

abbrev ins : List ℕ
ins = 0 ∷ 0 ∷ 0 ∷ 8 ∷ []

abbrev outs : List ℕ
outs = 0 ∷ 0 ∷ 0 ∷ 9 ∷ 50 ∷ []

abbrev code : ℕ → ℕ → Bool → UnconfirmedTx → List ℕ → ℕ
code E R passing u l = return_refusal E R (pool passing) one u l outs

-- in order, each with those behind it met too: 20, 1, 3, 23, 27. A size of 98,304 passes, and so do E − 1 entries and records that just fit
refusals : (code 1 2 true (back 1 98305) (8 ∷ []) ≡ 20)
    × (code 1 2 false (back 1 98305) (8 ∷ []) ≡ 1)
    × (code 1 2 false (back 1 98305) ins ≡ 3)
    × (code 1 2 false (back 1 98304) ins ≡ 23)
    × (code 1 4 false (back 2 98304) ins ≡ 27)
    × (code 2 3 false (back 2 98304) ins ≡ 27)
    × (code 2 4 false (back 2 98304) ins ≡ 0)
unfolding return_refusal ahead id_of
refusals = (refl, refl, refl, simp join_is, simp join_is, simp join_is, simp join_is)

-- Its id is in the cache, its fee below the minimum and the pool at its capacity: it enters. Its cost of 4 is not raised to its size of 300, so its
-- base is 10 × 1,024 / 4; its parent, transaction 1, gets no credit; nobody is evicted or charged, and the cache stays as it is
enters : returned 2 4 (pool false) before (back 2 300) ins outs
    ≡ record {
      outcome = done;
      world =
          world
          (insert_tx
          (record {
            id = 2;
            weight = 2560;
            base = 2560;
            size = 300;
            cost = 4;
            validation_cost = None;
            created = 2;
            last_checked = 3;
            height_key = 2147483698;
            inputs = 1;
          })
          (8 ∷ [])
          (9 ∷ [])
          one)
          cached
          40
          [];
      written = [];
    }
unfolding returned return_refusal returned_entry height_key ahead id_of ids_to id_at
enters = simp join_is

refused-one : returned 2 4 (pool false) before (back 1 300) ins outs ≡ unchanged (refused 23 0) before
unfolding returned return_refusal ahead id_of
refused-one = simp join_is

-- ---- an invalidation

-- of a pooled one: it leaves with its records, and its id stands behind those in the cache
pooled-one : invalidated (pool false) before 6 1
    ≡ record { outcome = done; world = world none (record { id = 2; since = 5 } ∷ record { id = 1; since = 6 } ∷ []) 40 []; written = [] }
unfolding invalidated ahead
pooled-one = refl

-- of one that is in the cache, even expired, and not pooled: nothing changes, the time neither
cached-one : invalidated (pool false) before 999 2 ≡ unchanged done before
unfolding invalidated ahead
cached-one = refl

-- of one that is neither, and the next: the cache has two places, and the oldest goes
unknown-one : ((invalidated (pool false) before 6 3).world.cache ≡ record { id = 2; since = 5 } ∷ record { id = 3; since = 6 } ∷ [])
    × ((invalidated (pool false) (invalidated (pool false) before 6 3).world 7 4).world.cache ≡ record { id = 3; since = 6 } ∷ record { id = 4; since = 7 } ∷ [])
unfolding invalidated ahead
unknown-one = (refl, refl)

-- during a pass: 20
in-a-pass : invalidated (pool true) before 6 1 ≡ unchanged (refused 20 0) before
unfolding invalidated
in-a-pass = refl
