-- Fee and wait: the statistics over confirmed transactions (document 01, "Fee and wait").
-- "Counts and totals stop at 2^64−1." "a difference that would be negative is 0": `◌-◌` stops at 0.
use Rattle.std.specs.Prelude.{None, Option, Some}
use Rattle.std.specs.Prelude.{ℕ, zero, suc, ◌+◌, ◌-◌, ◌*◌, ◌/◌, min, Bool, ◌&&◌, not, List, get_or, set, replicate, eqb, ltb}
use Rattle.words.specs.Lists.{pick}
use Rattle.words.specs.Sums.{capped, quotient_of}
use Rattle.stats.specs.declared.FeeStats.{FeeStats}

-- statistics at a start: nothing counted, window and snapshot at the time given
unfoldable pub fresh : ℕ → FeeStats
fresh time = record {
  counts = replicate 60 0;
  totals = replicate 60 0;
  window_start = time;
  taken = 0;
  snap_time = time;
  snap_taken = 0;
}

-- "If more than 60,000 ms passed since `snap_time`" (interval: the 60,000 ms)
abbrev pub moves : ℕ → FeeStats → ℕ → Bool
moves interval s time = ltb interval (time - s.snap_time)

-- "Confirming adds 1 to `taken`"; where the window moves, "a nonzero `snap_taken` is subtracted from `taken`"
abbrev pub taken_after : ℕ → FeeStats → ℕ → ℕ
taken_after interval s time = pick (moves interval s time) (capped (s.taken + 1) - s.snap_taken) (capped (s.taken + 1))

-- "and `window_start` becomes `snap_time`; then the snapshot takes the new `taken` and time"
unfoldable pub counted : ℕ → FeeStats → ℕ → FeeStats
counted interval s time = record {
  counts = s.counts;
  totals = s.totals;
  window_start = pick (moves interval s time && not (eqb s.snap_taken 0)) s.snap_time s.window_start;
  taken = taken_after interval s time;
  snap_time = pick (moves interval s time) time s.snap_time;
  snap_taken = pick (moves interval s time) (taken_after interval s time) s.snap_taken;
}

-- x more in the bin m, if it is one of the 60
abbrev pub added : List ℕ → ℕ → ℕ → List ℕ
added bins m x = pick (ltb m 60) (set bins m (capped (get_or bins m 0 + x))) bins

-- "A wait below 60 minutes then adds 1 and the base to its minute's bin" (m: the minute)
unfoldable pub binned : FeeStats → ℕ → ℕ → FeeStats
binned s m base = record {
  counts = added s.counts m 1;
  totals = added s.totals m base;
  window_start = s.window_start;
  taken = s.taken;
  snap_time = s.snap_time;
  snap_taken = s.snap_taken;
}

-- the minute of a wait: its whole minutes
abbrev pub minute_of : ℕ → ℕ → ℕ
minute_of time created = (time - created) / 60000

-- a confirmation at `time` of a transaction that entered the pool at `created`: the window, "then" the bin
unfoldable pub confirmed : ℕ → FeeStats → ℕ → ℕ → ℕ → FeeStats
confirmed interval s time created base = binned (counted interval s time) (minute_of time created) base

-- "floor(total/n) × size, divided by 1024 and floored, capped at 2^64−1"
abbrev pub bin_fee : ℕ → ℕ → ℕ → ℕ
bin_fee total n size = quotient_of (total / n * size) 1024

-- "first nonempty bin": of the n bins from bin k on, by their counts and their totals
unfoldable pub first_fee : List ℕ → List ℕ → ℕ → ℕ → ℕ → Option ℕ
first_fee counts totals size k zero = None
first_fee counts totals size k (suc n) =
    pick (eqb (get_or counts k 0) 0) (first_fee counts totals size (suc k) n) (Some (bin_fee (get_or totals k 0) (get_or counts k 0) size))

-- "first nonempty bin of 0..min(wait, 59)", both ends included (minutes: the wait)
unfoldable pub fee_in : List ℕ → List ℕ → ℕ → ℕ → Option ℕ
fee_in counts totals minutes size = first_fee counts totals size 0 (suc (min minutes 59))

abbrev pub fee_for_wait : FeeStats → ℕ → ℕ → Option ℕ
fee_for_wait s minutes size = fee_in s.counts s.totals minutes size

-- "floor(min(now − `window_start`, 60,000) × position/taken), 0 for `taken` 0": the cap belongs to the quotient
abbrev pub wait_in : ℕ → ℕ → ℕ → ℕ → ℕ → ℕ
wait_in interval start taken time position = quotient_of (min (time - start) interval * position) taken

abbrev pub wait_for : ℕ → FeeStats → ℕ → ℕ → ℕ
wait_for interval s time position = wait_in interval s.window_start s.taken time position
