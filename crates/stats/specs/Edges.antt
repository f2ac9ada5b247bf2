-- The edges of fee and wait that document 01 names, and those of its words "more than" and "stop at", by computation.
use Rattle.std.specs.Prelude.{None, Some}
use Rattle.std.specs.Prelude.{ℕ, ◌≡◌, refl, [], ◌∷◌, set, replicate}
use Rattle.words.specs.Sums.{cap}
use Rattle.stats.specs.declared.FeeStats.{FeeStats}
use Rattle.stats.specs.Stats.{fresh, counted, added, binned, confirmed, first_fee, fee_in, fee_for_wait, wait_for}

-- "Wait 3,599,999 ms: bin 59; 3,600,000: none, yet counted."
pub last-minute : confirmed 60000 (fresh 0) 3599999 0 7 ≡ record {
  counts = set (replicate 60 0) 59 1;
  totals = set (replicate 60 0) 59 7;
  window_start = 0;
  taken = 1;
  snap_time = 3599999;
  snap_taken = 1;
}
unfolding confirmed binned counted fresh
last-minute = refl

pub an-hour : confirmed 60000 (fresh 0) 3600000 0 7 ≡ record {
  counts = replicate 60 0;
  totals = replicate 60 0;
  window_start = 0;
  taken = 1;
  snap_time = 3600000;
  snap_taken = 1;
}
unfolding confirmed binned counted fresh
an-hour = refl

-- a window of 6 taken, of which the snapshot at 100 had 3
abbrev busy : FeeStats
busy = record { counts = []; totals = []; window_start = 10; taken = 6; snap_time = 100; snap_taken = 3 }

-- 60,000 ms after the snapshot one more is taken, and that is all; 60,001 ms after it the 3 are subtracted, and then the snapshot is taken
pub stays_at : counted 60000 busy 60100 ≡ record { counts = []; totals = []; window_start = 10; taken = 7; snap_time = 100; snap_taken = 3 }
unfolding counted
stays_at = refl

pub moves-past : counted 60000 busy 60101 ≡ record { counts = []; totals = []; window_start = 100; taken = 4; snap_time = 60101; snap_taken = 4 }
unfolding counted
moves-past = refl

-- a count and a total stop
pub stops : (added (cap ∷ []) 0 1 ≡ cap ∷ []) × (added (3 ∷ []) 0 cap ≡ cap ∷ [])
stops = (refl, refl)

-- "taken 4, window full, position 10: 150,000", and 0 for `taken` 0
pub waits : (wait_for 60000 (record { counts = []; totals = []; window_start = 0; taken = 4; snap_time = 0; snap_taken = 0 }) 60000 10 ≡ 150000) × (wait_for 60000 (fresh 0) 60000 10 ≡ 0)
unfolding fresh
waits = (refl, refl)

-- statistics with 2 transactions of total 3,001 in bin m
abbrev one : ℕ → FeeStats
one m = record { counts = set (replicate 60 0) m 2; totals = set (replicate 60 0) m 3001; window_start = 0; taken = 2; snap_time = 0; snap_taken = 0 }

-- bin 3 is reached from a wait of 3 minutes on, bin 59 by any longer wait; floor(3,001/2) × 300 is divided by 1,024
pub fees : (fee_for_wait (one 3) 2 300 ≡ None) × (fee_for_wait (one 3) 3 300 ≡ Some 439) × (fee_for_wait (one 59) 58 300 ≡ None) × (fee_for_wait (one 59) 4000000000 300 ≡ Some 439)
unfolding fee_in first_fee
fees = (refl, refl, refl, refl)
