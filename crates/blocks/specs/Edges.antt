-- A block on its edges, by computation.
use Rattle.std.specs.Prelude.{None}
use Rattle.std.specs.Prelude.{ℕ, ◌≡◌, refl, Bool, true, false, List, [], ◌∷◌}
use Rattle.words.specs.Ids.{num, id_at}
use Rattle.words.specs.declared.ids.Id.{Id}
use Rattle.pool_types.specs.declared.FeeStrategy.TheVariants.{FeePerByte}
use Rattle.pool_types.specs.declared.Mempool.{Mempool}
use Rattle.pool_types.specs.Outcomes.{refused, wrote}
use Rattle.arguments.specs.Arguments.{counts_agree}
use Rattle.expiring_cache.specs.Cache.{Held}
use Rattle.peers.specs.Peers.{peer_of}
use Rattle.stats.specs.Stats.{fresh, counted, binned, confirmed}
use Rattle.stats.specs.declared.FeeStats.{FeeStats}
use Rattle.entries.specs.Entries.{Entry, ahead}
use Rattle.boxes.specs.Flat.{ids_to}
use Rattle.pool.specs.Pool.{Tables, insert_tx}
use Rattle.store.specs.World.{World, world, unchanged}
use Rattle.blocks.specs.Blocks.{Confirmed, Progress, recorded, confirm_one, drive_out, rivals, spent, applied_txs, inputs_at, confirmed_from, confirmed_of, readable, block_refusal, settled, applied}

-- ---- transactions in a pool: 1 of base 30, made at 1,000, spends box 7 and makes 8; 2 of base 20 spends 9; 3 of base 10 spends 8

abbrev sample : ℕ → ℕ → Entry
sample k w = record { id = k; weight = w; base = w; size = 0; cost = 0; validation_cost = None; created = 1000; last_checked = 0; height_key = 0; inputs = 0 }

abbrev pub none : Tables
none = record { entries = []; boxes = [] }

abbrev one : Tables
one = insert_tx (sample 1 30) (7 ∷ []) (8 ∷ []) none

abbrev pub two : Tables
two = insert_tx (sample 2 20) (9 ∷ []) [] one

abbrev pub three : Tables
three = insert_tx (sample 3 10) (8 ∷ []) [] two

abbrev pub tx : ℕ → List ℕ → Confirmed
tx k bs = record { id = k; inputs = bs }

-- a block at 61,000 on such a pool, with no statistics before
abbrev pub of : List Confirmed → Tables → Progress
of ts t = applied_txs 61000 ts (record { tables = t; stats = fresh 61000; removed = [] })

abbrev pub left : Tables → FeeStats → List ℕ → Progress
left t s ks = record { tables = t; stats = s; removed = ks }

-- the statistics of a confirmation after 60,000 ms: bin 1
abbrev pub after : ℕ → FeeStats
after base = confirmed 60000 (fresh 61000) 61000 1000 base

-- a transaction that is listed twice is confirmed once; one that is not pooled is not confirmed at all
twice : (of (tx 1 (7 ∷ []) ∷ tx 1 (7 ∷ []) ∷ []) one ≡ left none (after 30) (1 ∷ [])) × (of (tx 5 [] ∷ []) one ≡ left one (fresh 61000) [])
unfolding applied_txs confirm_one drive_out rivals spent recorded confirmed counted binned fresh ahead
twice = (refl, refl)

-- a double-spend alone leaves the statistics as they were, and an input that is listed twice drives out one
rival : (of (tx 5 (7 ∷ []) ∷ []) one ≡ left none (fresh 61000) (1 ∷ [])) × ((of (tx 5 (7 ∷ 7 ∷ []) ∷ []) two).removed ≡ 1 ∷ [])
unfolding applied_txs confirm_one drive_out rivals spent recorded confirmed counted binned fresh ahead
rival = (refl, refl)

-- ---- the lists: two transactions, of one input and of two

abbrev txs : List ℕ
txs = 0 ∷ 0 ∷ 0 ∷ 1 ∷ 1 ∷ 0 ∷ 0 ∷ 0 ∷ 2 ∷ 2 ∷ []

abbrev ins : List ℕ
ins = 0 ∷ 0 ∷ 0 ∷ 7 ∷ 0 ∷ 0 ∷ 0 ∷ 8 ∷ 0 ∷ 0 ∷ 0 ∷ 9 ∷ []

lists : (confirmed_of txs ins ≡ tx (num 0 0 0 1) (num 0 0 0 7 ∷ []) ∷ tx (num 0 0 0 2) (num 0 0 0 8 ∷ num 0 0 0 9 ∷ []) ∷ []) × (confirmed_of [] [] ≡ [])
unfolding confirmed_of confirmed_from inputs_at ids_to id_at
lists = (refl, refl)

-- ---- the whole: a state with one pooled, a sum of 40, a ttl of 10

abbrev zero-id : Id
zero-id = record { a = 0; b = 0; c = 0; d = 0 }

abbrev st : Bool → Mempool
st passing =
    record {
      config =
          record {
            capacity = 3;
            min_fee = 5;
            fee_strategy = FeePerByte;
            cleanup_interval = 0;
            rebroadcast_count = 0;
            invalidation_ttl = 10;
            invalidation_capacity = 2;
            cost_per_block = 1000;
            cost_per_peer_per_block = 1000;
          };
      counts = record { pooled = 1; records = 2 };
      cached = 2;
      sums = record { interblock_cost = 40; peers = 1 };
      pass = record { «open» = passing; out = false; candidate = zero-id; time = 0; limit = 0; preheader = 0; spent = 0 };
    }

abbrev row : ℕ → ℕ → Held
row k t = record { id = k; since = t }

abbrev before : World
before = world one (row 7 100 ∷ row 8 101 ∷ []) 40 (peer_of 7 300 ∷ [])

-- an empty block writes nothing, sets the sum to 0, frees every record and prunes the cache; a refused one changes nothing
blocks : (applied (st false) before (fresh 0) 2 110 [] [] ≡ record { result = record { outcome = wrote 0; world = world one (row 8 101 ∷ []) 0 []; written = [] }; stats = fresh 0 })
    × (applied (st false) before (fresh 0) 1 110 [] [] ≡ record { result = unchanged (refused 2 0) before; stats = fresh 0 })
unfolding applied settled block_refusal readable applied_txs confirmed_of confirmed_from counts_agree
blocks = (refl, refl)

-- 20 before 1 before 2; pooled + 1 ids are enough
refusals : (block_refusal (st true) 0 (0 ∷ []) [] ≡ 20) × (block_refusal (st false) 0 (0 ∷ []) [] ≡ 1) × (block_refusal (st false) 0 txs (0 ∷ []) ≡ 1)
    × (block_refusal (st false) 0 txs [] ≡ 1) × (block_refusal (st false) 1 txs ins ≡ 2) × (block_refusal (st false) 2 txs ins ≡ 0)
unfolding block_refusal readable counts_agree
refusals = (refl, refl, refl, refl, refl, refl)
