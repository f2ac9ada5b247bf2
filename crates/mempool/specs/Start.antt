-- A start: the settings and the sizes of the lent store (document 01, refusal 6: "settings: E, R or K outside its range, other than 256 peer
-- records, capacity above E−1, cache above K, a cost limit above 2^63").
use Rattle.std.specs.Prelude.{ℕ, ◌≡◌, Bool, Result, Ok, Err, not, eqb, leb, ltb}
use Rattle.std.proofs.Math.Path.{refl}
use Rattle.std.proofs.Math.Bool.{true, false}
use Rattle.words.specs.Lists.{pick}
use Rattle.pool_types.specs.declared.MempoolConfig.{MempoolConfig}
use Rattle.pool_types.specs.declared.Mempool.{Mempool}
use Rattle.pool_types.specs.declared.Refusal.{Refusal}
use Rattle.pool_types.specs.declared.Refusal.TheVariants.{Settings}
use Rattle.pool_types.specs.Outcomes.{Outcome, done, refused}

-- "E entries (1 to 4,096), R box records (1 to 65,536) and K cache ids (1 to 10,000) are the sizes of the lent store"
abbrev pub within : ℕ → ℕ → Bool
within n most = pick (eqb n 0) false (leb n most)

-- the sizes of a store
pub record Sizes : Type 0 where
  pub entries : ℕ
  pub boxes : ℕ
  pub cache : ℕ
  pub peers : ℕ

abbrev pub sizes : ℕ → ℕ → ℕ → ℕ → Sizes
sizes e r k p = record { entries = e; boxes = r; cache = k; peers = p }

unfoldable pub sized : Sizes → Bool
sized z =
    pick (not (within z.entries 4096)) false
    (pick (not (within z.boxes 65536)) false
    (pick (not (within z.cache 10000)) false
    (eqb z.peers 256)))

-- "capacity above E−1" is one of at least E
unfoldable pub settled : Sizes → MempoolConfig → Bool
settled z c =
    pick (leb z.entries c.capacity) false
    (pick (ltb z.cache c.invalidation_capacity) false
    (pick (ltb 9223372036854775808 c.cost_per_block) false
    (leb c.cost_per_peer_per_block 9223372036854775808)))

-- what an accepted start leaves: nothing pooled, nothing charged, no pass
unfoldable pub empty : MempoolConfig → Mempool
empty c =
    record {
      config = c;
      counts = record { pooled = 0; records = 0 };
      cached = 0;
      sums = record { interblock_cost = 0; peers = 0 };
      pass =
          record {
            «open» = false;
            out = false;
            candidate = record { a = 0; b = 0; c = 0; d = 0 };
            time = 0;
            limit = 0;
            preheader = 0;
            spent = 0;
          };
    }

unfoldable pub started : Sizes → MempoolConfig → Result Mempool Refusal
started z c = pick (sized z) (pick (settled z c) (Ok (empty c)) (Err Settings)) (Err Settings)

-- .. and in document 01's numbers: 6, or ready
unfoldable pub start_answer : Sizes → MempoolConfig → Outcome
start_answer z c = pick (sized z) (pick (settled z c) done (refused 6 0)) (refused 6 0)

-- ---- on edges

edges : (sized (sizes 4096 65536 10000 256) ≡ true) × (sized (sizes 4097 1 1 256) ≡ false) × (sized (sizes 1 1 0 256) ≡ false) × (sized (sizes 1 1 1 255) ≡ false)
unfolding sized
edges = (refl, refl, refl, refl)
