-- The edges of the fee queries, by computation.
use Rattle.std.specs.Prelude.{None}
use Rattle.std.specs.Prelude.{ℕ, ◌≡◌, refl, false, [], ◌∷◌, set, replicate}
use Rattle.words.specs.Sums.{cap}
use Rattle.words.specs.Tables.{of_none}
use Rattle.pool_types.specs.declared.Mempool.{Mempool}
use Rattle.pool_types.specs.declared.FeeStrategy.TheVariants.{FeePerByte}
use Rattle.pool_types.specs.Outcomes.{refused, number, wrote}
use Rattle.stats.specs.Stats.{first_fee, fee_in}
use Rattle.stats.specs.declared.FeeStats.{FeeStats}
use Rattle.entries.specs.Entries.{Entry}
use Rattle.entries.specs.Layout.{entries_room, entries}
use Rattle.fees.specs.Fees.{recommended, above, expected_wait, bin, no_bin, bin_of, binned, histogram, no_histogram, histogram_of}

-- a state with this minimum fee and so many transactions pooled
abbrev state : ℕ → ℕ → Mempool
state least pooled =
    record {
      config =
          record {
            capacity = 10;
            min_fee = least;
            fee_strategy = FeePerByte;
            cleanup_interval = 0;
            rebroadcast_count = 0;
            invalidation_ttl = 0;
            invalidation_capacity = 1;
            cost_per_block = 0;
            cost_per_peer_per_block = 0;
          };
      counts = record { pooled = pooled; records = 0 };
      cached = 0;
      sums = record { interblock_cost = 0; peers = 0 };
      pass = record { «open» = false; out = false; candidate = record { a = 0; b = 0; c = 0; d = 0 }; time = 0; limit = 0; preheader = 0; spent = 0 };
    }

-- statistics with 2 transactions of total 3,001 in bin 3, and every other bin empty; 4 taken since 0
abbrev third : FeeStats
third = record { counts = set (replicate 60 0) 3 2; totals = set (replicate 60 0) 3 3001; window_start = 0; taken = 4; snap_time = 0; snap_taken = 0 }

-- ---- a fee for a wait: empty bins are skipped, floor(1,500 × 300 / 1,024) is 439; "at least the minimum fee; the minimum if no bin"

fees : (recommended third (state 100 0) 3 300 ≡ number 439) × (recommended third (state 440 0) 3 300 ≡ number 440) × (recommended third (state 100 0) 2 300 ≡ number 100)
unfolding recommended fee_in first_fee
fees = (refl, refl, refl)

-- "size above 98,304": a size of 0 is none
fee-sizes : (recommended third (state 100 0) 3 0 ≡ number 100) × (recommended third (state 100 0) 3 98304 ≡ number 144000) × (recommended third (state 100 0) 3 98305 ≡ refused 3 0)
unfolding recommended fee_in first_fee
fee-sizes = (refl, refl, refl)

-- ---- a wait for a fee

-- an entry of this weight and base that is pooled since then
abbrev since : ℕ → ℕ → ℕ → Entry
since w b created = record { id = 0; weight = w; base = b; size = 0; cost = 0; validation_cost = None; created = created; last_checked = 0; height_key = 0; inputs = 0 }

-- one as heavy is not above
heavier : (above 20 (since 21 0 0 ∷ since 20 0 0 ∷ since 19 0 0 ∷ []) ≡ 1) × (above cap (since cap 0 0 ∷ []) ≡ 0) × (above 0 [] ≡ 0)
heavier = (refl, refl, refl)

-- "size above 98,304; in the wait query also 0"; 1 comes first
wait-sizes : (expected_wait [] third (state 0 0) 60000 1 0 ≡ refused 3 0)
    × (expected_wait [] third (state 0 0) 60000 1 98305 ≡ refused 3 0)
    × (expected_wait [] third (state 0 0) 60000 1 98304 ≡ number 0)
    × (expected_wait [] third (state 0 0) 60000 1 1 ≡ number 0)
    × (expected_wait (replicate 13 0) third (state 0 1) 60000 1 0 ≡ refused 1 0)
unfolding expected_wait entries_room
wait-sizes = (refl, refl, rw (of_none entries []), rw (of_none entries []), refl)

-- ---- the pool by the waits so far

-- document 01: "3 bins, longest 10, wait 9: bin 3"; a wait of `longest` and a longer one are in the last bin too
starred : bin_of 3 10 9 ≡ 3
starred = refl

bin-edges : (bin_of 3 10 2 ≡ 0) × (bin_of 3 10 3 ≡ 1) × (bin_of 3 10 8 ≡ 2) × (bin_of 3 10 10 ≡ 3) × (bin_of 3 10 cap ≡ 3) × (bin_of 3 9 8 ≡ 2) × (bin_of 1 1 0 ≡ 0)
bin-edges = (refl, refl, refl, refl, refl, refl, refl)

-- at time 100: waits of 9, 0, 0 (pooled later than now) and 10; a sum stops
counted : binned 3 10 100 (since 0 5 91 ∷ since 0 7 100 ∷ since 0 8 101 ∷ since 0 cap 90 ∷ []) (replicate 4 no_bin) ≡ bin 2 15 ∷ no_bin ∷ no_bin ∷ bin 2 cap ∷ []
counted = refl

-- "bins + 1 pairs", whole ones; "bins 0, or longest wait below bins"; each refusal in its turn
histogram-edges : (histogram_of [] (state 0 0) 7 0 3 10 ≡ no_histogram 2)
    × (histogram_of [] (state 0 0) 8 0 3 10 ≡ histogram (wrote 4) (replicate 4 no_bin))
    × (histogram_of [] (state 0 0) 2 0 0 10 ≡ no_histogram 11)
    × (histogram_of [] (state 0 0) 8 0 3 2 ≡ no_histogram 11)
    × (histogram_of [] (state 0 0) 8 0 3 3 ≡ histogram (wrote 4) (replicate 4 no_bin))
    × (histogram_of [] (state 0 0) 1 0 0 10 ≡ no_histogram 2)
    × (histogram_of [] (state 0 1) 0 0 0 0 ≡ no_histogram 1)
unfolding histogram_of entries_room
histogram-edges = (refl, rw (of_none entries []), refl, refl, rw (of_none entries []), refl, refl)
