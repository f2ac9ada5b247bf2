-- The fee queries (document 01, "Fee and wait"; lib.rs): what each answers, as a function of what the store, the statistics and the arguments hold.
-- "a query 1, 2, 3, 11": each tests those of them that it has. Counts that do not fit the lent entries are refusal 1 (docs/DECISIONS.md, D2).
use Rattle.std.specs.Prelude.{None, Option, Some}
use Rattle.std.specs.Prelude.{ℕ, ◌+◌, ◌-◌, ◌*◌, ◌/◌, min, max, ◌≡◌, refl, ◌||◌, List, [], ◌∷◌, eqb, leb, ltb, get_or, set, replicate}
use Rattle.words.specs.Lists.{pick}
use Rattle.words.specs.Sums.{capped, quotient_of}
use Rattle.pool_types.specs.declared.Mempool.{Mempool}
use Rattle.pool_types.specs.Outcomes.{Outcome, refused, number, wrote}
use Rattle.stats.specs.Stats.{fee_in, fee_for_wait, wait_in, wait_for}
use Rattle.stats.specs.declared.FeeStats.{FeeStats}
use Rattle.entries.specs.Entries.{Entry}
use Rattle.entries.specs.Layout.{entries_of, entries_room}

-- ---- `recommended_fee`: ".. at least the minimum fee; the minimum if no bin". 3: "size above 98,304"

abbrev pub at_least : ℕ → Option ℕ → ℕ
at_least least (Some f) = max f least
at_least least None = least

-- of counts, totals and a minimum
unfoldable pub recommended_in : List ℕ → List ℕ → ℕ → ℕ → ℕ → Outcome
recommended_in counts totals least minutes size = pick (ltb 98304 size) (refused 3 0) (number (at_least least (fee_in counts totals minutes size)))

unfoldable pub recommended : FeeStats → Mempool → ℕ → ℕ → Outcome
recommended s st minutes size = pick (ltb 98304 size) (refused 3 0) (number (at_least st.config.min_fee (fee_for_wait s minutes size)))

pub recommended-by : (s : FeeStats) (st : Mempool) (minutes size : ℕ) → recommended_in s.counts s.totals st.config.min_fee minutes size ≡ recommended s st minutes size
unfolding recommended_in recommended
recommended-by s st minutes size = refl

-- ---- `expected_wait_ms_at`: "position = entries of weight above floor(fee × 1024/size), capped"

abbrev pub above : ℕ → List Entry → ℕ
above w [] = 0
above w (e ∷ es) = pick (ltb w e.weight) 1 0 + above w es

-- of so many pooled and a window. 3: "size above 98,304; in the wait query also 0"
unfoldable pub expected_in : List ℕ → ℕ → ℕ → ℕ → ℕ → ℕ → ℕ → Outcome
expected_in e pooled start taken time fee size =
    pick (leb pooled (entries_room e))
    (pick (eqb size 0 || ltb 98304 size) (refused 3 0)
    (number (wait_in 60000 start taken time (above (quotient_of (fee * 1024) size) (entries_of e pooled)))))
    (refused 1 0)

unfoldable pub expected_wait : List ℕ → FeeStats → Mempool → ℕ → ℕ → ℕ → Outcome
expected_wait e s st time fee size =
    pick (leb st.counts.pooled (entries_room e))
    (pick (eqb size 0 || ltb 98304 size) (refused 3 0)
    (number (wait_for 60000 s time (above (quotient_of (fee * 1024) size) (entries_of e st.counts.pooled)))))
    (refused 1 0)

pub expected-by : (e : List ℕ) (s : FeeStats) (st : Mempool) (time fee size : ℕ) → expected_in e st.counts.pooled s.window_start s.taken time fee size ≡ expected_wait e s st time fee size
unfolding expected_in expected_wait
expected-by e s st time fee size = refl

-- ---- `pool_histogram_at`: "interval floor(max/bins); a wait below max goes to min(floor(wait/interval), bins), else to bins; a pair is a count and a
-- sum of bases"; "Counts and totals stop at 2^64−1"

pub record Bin : Type 0 where
  pub count : ℕ
  pub total : ℕ

abbrev pub bin : ℕ → ℕ → Bin
bin n t = record { count = n; total = t }

abbrev pub no_bin : Bin
no_bin = bin 0 0

abbrev pub bin_of : ℕ → ℕ → ℕ → ℕ
bin_of bins longest wait = pick (ltb wait longest) (min (wait / (longest / bins)) bins) bins

-- one more of this base in a bin
abbrev pub more : Bin → ℕ → Bin
more b base = bin (capped (b.count + 1)) (capped (b.total + base))

abbrev pub add_to : List Bin → ℕ → ℕ → List Bin
add_to bs i base = set bs i (more (get_or bs i no_bin) base)

abbrev pub binned : ℕ → ℕ → ℕ → List Entry → List Bin → List Bin
binned bins longest time [] bs = bs
binned bins longest time (e ∷ es) bs = binned bins longest time es (add_to bs (bin_of bins longest (time - e.created)) e.base)

pub record Histogram : Type 0 where
  pub outcome : Outcome
  pub bins : List Bin

abbrev pub histogram : Outcome → List Bin → Histogram
histogram o bs = record { outcome = o; bins = bs }

abbrev pub no_histogram : ℕ → Histogram
no_histogram n = histogram (refused n 0) []

-- 2: "answer buffer below .. bins + 1 pairs"; 11: "bins 0, or longest wait below bins". `words`: the buffer's length
unfoldable pub histogram_of : List ℕ → Mempool → ℕ → ℕ → ℕ → ℕ → Histogram
histogram_of e st words time bins longest =
    pick (leb st.counts.pooled (entries_room e))
    (pick (ltb (words / 2) (bins + 1)) (no_histogram 2)
    (pick (eqb bins 0 || ltb longest bins) (no_histogram 11)
    (histogram (wrote (bins + 1)) (binned bins longest time (entries_of e st.counts.pooled) (replicate (bins + 1) no_bin)))))
    (no_histogram 1)
