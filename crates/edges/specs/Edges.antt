-- Document 01, "Each edge (* proved)": the starred cases as one table, and one theorem that computes over it. A row has what the definitions give
-- and what document 01 says; a yes is 1, a no is 0.
use Rattle.std.specs.Prelude.{None}
use Rattle.std.specs.Prelude.{ℕ, ◌+◌, ◌*◌, Bool, true, false, ◌&&◌, List, [], ◌∷◌, get_or, replicate, eqb}
use Rattle.words.specs.Sums.{cap}
use Rattle.pool_types.specs.declared.FeeStrategy.TheVariants.{FeePerByte, FeePerCycle}
use Rattle.pool_types.specs.declared.Submission.{Submission}
use Rattle.pool_types.specs.declared.Source.TheVariants.{Local}
use Rattle.pool_types.specs.declared.Verdict.TheVariants.{Absent}
use Rattle.weight.specs.Weight.{fee_per_factor}
use Rattle.arguments.specs.Arguments.{max_inputs, biased, ahead_of}
use Rattle.expiring_cache.specs.Cache.{held}
use Rattle.stats.specs.declared.FeeStats.{FeeStats}
use Rattle.stats.specs.Stats.{fresh, confirmed, wait_for}
use Rattle.entries.specs.Entries.{Entry}
use Rattle.checks.specs.Checks.{list_refusal}
use Rattle.admit.specs.Admit.{loses}
use Rattle.fees.specs.Fees.{bin_of}
use Rattle.cleanup.specs.Passes.{due}

pub record Row : Type 0 where
  pub got : ℕ
  pub due : ℕ

abbrev pub is : ℕ → ℕ → Row
is g d = record { got = g; due = d }

abbrev yes? : Bool → ℕ
yes? true = 1
yes? false = 0

-- an entry checked last at 1,000, at a pass's time, with an interval of 500
abbrev due_at : ℕ → ℕ
due_at time = yes? (due 500 time 1000)

-- an id held since 1,000, asked at a time
abbrev held_at : ℕ → ℕ
held_at time = yes? (held 500 time 7 (record { id = 7; since = 1000 } ∷ []))

-- the statistics of a fresh start after one confirmation, whose base was 9, of a wait
abbrev after : ℕ → FeeStats
after wait = confirmed 60000 (fresh 0) wait 0 9

-- so many in all bins
abbrev in_all : List ℕ → ℕ
in_all [] = 0
in_all (n ∷ ns) = n + in_all ns

-- `taken` 4 in a window that is full
abbrev four : FeeStats
four = record { counts = []; totals = []; window_start = 0; taken = 4; snap_time = 0; snap_taken = 0 }

-- a pooled transaction of this id and weight
abbrev pooled : ℕ → ℕ → Entry
pooled id weight = record { id = id; weight = weight; base = weight; size = 0; cost = 0; validation_cost = None; created = 0; last_checked = 0; height_key = 0; inputs = 0 }

-- whether a newcomer of this base loses to its conflicts, transactions 1 and 2 of weights 10 and 15
abbrev loses_to : ℕ → ℕ
loses_to base = yes? (loses base (1 ∷ 2 ∷ []) (pooled 1 10 ∷ pooled 2 15 ∷ []))

-- the tests of a submission's lists, of which 7 is the first: n inputs of five words each, no output, and a store without an entry, so that 27
-- stops what passes 7
abbrev offered : Submission
offered = record { time = 0; id = record { a = 0; b = 0; c = 0; d = 1 }; size = 0; preheader = 50; source = Local; verdict = Absent }

abbrev stops_at : ℕ → ℕ
stops_at n = list_refusal max_inputs 0 0 (record { entries = []; boxes = [] }) offered (replicate (n * 5) 1) []

unfoldable pub starred : List Row
starred =
    -- "fee 1,000,000, size 300: 3,413,333"
    is (fee_per_factor FeePerByte 1000000 300 500) 3413333
    -- "Fee 2^64−1: factor 1,024 gives 2^64−1, 1,023 the cap"
    ∷ is (fee_per_factor FeePerByte cap 1024 0) cap
    ∷ is (fee_per_factor FeePerByte cap 1023 0) cap
    -- "Cost 0 by cycle: factor 1,000"
    ∷ is (fee_per_factor FeePerCycle 5000 300 0) 5120
    -- "Conflicts 10 and 15: 12 loses, 13 wins"
    ∷ is (loses_to 12) 1
    ∷ is (loses_to 13) 0
    -- "Age equal to interval: not due; one more: due"
    ∷ is (due_at 1500) 0
    ∷ is (due_at 1501) 1
    -- "Age equal to ttl: not held"
    ∷ is (held_at 1500) 0
    ∷ is (held_at 1499) 1
    -- "Wait 3,599,999 ms: bin 59; 3,600,000: none, yet counted"
    ∷ is (get_or (after 3599999).counts 59 0) 1
    ∷ is (get_or (after 3599999).totals 59 0) 9
    ∷ is (in_all (after 3600000).counts) 0
    ∷ is (after 3600000).taken 1
    -- "3 bins, longest 10, wait 9: bin 3"
    ∷ is (bin_of 3 10 9) 3
    -- "taken 4, window full, position 10: 150,000"
    ∷ is (wait_for 60000 four 70000 10) 150000
    -- "Height 2^31 against 50: not ahead"
    ∷ is (yes? (ahead_of (biased 2147483648) 50)) 0
    -- "Inputs 5,000 pass, 5,001 don't": the next test is 27. Last, for these lists are long to compute
    ∷ is (stops_at 5001) 7
    ∷ is (stops_at 5000) 27
    ∷ []

abbrev pub agree : List Row → Bool
agree [] = true
agree (r ∷ rs) = eqb r.got r.due && agree rs
