-- What the exported fee queries answer. A fee and a wait may be any word, so that the number stands in the first word of the answer buffer, and the
-- call answers 1 where it wrote it.
use Rattle.pool_types.specs.Refusals.{refusal_number}
use Rattle.std.specs.Prelude.{Err, Ok, Result}
use Rattle.pool_types.specs.declared.Refusal.{Refusal}
use Rattle.std.specs.Prelude.{ℕ, ◌-◌, ◌≤◌, ◌<◌, ◌≡◌, List, [], ◌∷◌, ltb, length, get_or, set, take, drop}
use Rattle.std.proofs.Math.Path.{refl, ap}
use Rattle.std.proofs.Common.{◌∙◌}
use borrow.Author.Tests.{lt-ltb, le-ltb}
use Rattle.words.specs.Lists.{pick}
use Rattle.words.specs.Sums.{cap}
use Rattle.words.specs.Rows.{stored}
use Rattle.words.specs.Tables.{of_none}
use Rattle.pool_types.specs.declared.Mempool.{Mempool}
use Rattle.pool_types.specs.declared.MempoolConfig.{MempoolConfig}
use Rattle.pool_types.specs.Outcomes.{Outcome, refused, done, wrote, needed, candidate, ended, missing, invalid, valid, number, said, entry, none, number_of, listed_of}
use Rattle.fees.specs.Fees.{recommended_in, recommended, recommended-by, expected_in, expected_wait, expected-by, Histogram, no_histogram, histogram_of}
use Rattle.fees.specs.Bins.{Laid, Drawn, bins as bin_table}
use Rattle.host.specs.State.{config_of, state_of}
use Rattle.host.specs.Statistics.{stats_of}
use Rattle.host.specs.Queries.{query_of}

-- ---- a number

-- 1 where a number was written; refusal n is 2^64−1−n, as of every query
unfoldable pub figure_of : Outcome → ℕ
figure_of (refused n k) = cap - n
figure_of done = 0
figure_of (wrote k) = 0
figure_of needed = 0
figure_of (candidate k) = 0
figure_of (ended n) = 0
figure_of (missing k) = 0
figure_of (invalid k) = 0
figure_of (valid k) = 0
figure_of (number n) = 1
figure_of (said b) = 0
figure_of (entry k w b) = 0
figure_of none = 0

-- the words that it writes
unfoldable pub figure_in : Outcome → List ℕ
figure_in (refused n k) = []
figure_in done = []
figure_in (wrote k) = []
figure_in needed = []
figure_in (candidate k) = []
figure_in (ended n) = []
figure_in (missing k) = []
figure_in (invalid k) = []
figure_in (valid k) = []
figure_in (number n) = n ∷ []
figure_in (said b) = []
figure_in (entry k w b) = []
figure_in none = []

-- an answer buffer whose words were a₀ and are a
pub record Figure (a₀ a : List ℕ) (code : ℕ) (o : Outcome) : Type 0 where
  pub answered : code ≡ figure_of o
  pub answer : a ≡ stored a₀ 0 (figure_in o)

module _ (a : List ℕ) {o : Result ℕ Refusal} where
  pub figure-number : (n : ℕ) → o ≡ Ok n → Figure a (set a 0 n) 1 (number_of o)
  unfolding number_of figure_of figure_in
  figure-number n e = rw e (record { answered = refl; answer = refl })

  pub figure-refused : (f : Refusal) → o ≡ Err f → Figure a a (cap - refusal_number f) (number_of o)
  unfolding number_of figure_of figure_in
  figure-refused f e = rw e (record { answered = refl; answer = refl })

-- too few words of a state or of statistics are refused with 1, and an answer buffer of none with 2
unfoldable pub figured : List ℕ → List ℕ → ℕ → Outcome → Outcome
figured t s words o = pick (ltb (length s) 25) (refused 1 0) (pick (ltb (length t) 124) (refused 1 0) (pick (ltb words 1) (refused 2 0) o))

module _ (t s a : List ℕ) where
  no-figure : (n : ℕ) (o : Outcome) → o ≡ refused n 0 → Figure a a (cap - n) o
  unfolding figure_of figure_in
  no-figure n o e = rw e (record { answered = refl; answer = refl })

  pub figure-few : (o : Outcome) → length s < 25 → Figure a a (cap - 1) (figured t s (length a) o)
  unfolding figured
  figure-few o h = no-figure 1 _ (rw (lt-ltb _ _ h))

  pub figure-few-stats : (o : Outcome) → 25 ≤ length s → length t < 124 → Figure a a (cap - 1) (figured t s (length a) o)
  unfolding figured
  figure-few-stats o h g = no-figure 1 _ (rw (le-ltb _ _ h, lt-ltb _ _ g))

  pub figure-room : (o : Outcome) → 25 ≤ length s → 124 ≤ length t → length a < 1 → Figure a a (cap - 2) (figured t s (length a) o)
  unfolding figured
  figure-room o h g f = no-figure 2 _ (rw (le-ltb _ _ h, le-ltb _ _ g, lt-ltb _ _ f))

  -- where there are words enough the query's own outcome counts
  pub figure-by : (a' : List ℕ) {o p : Outcome} {n : ℕ} → 25 ≤ length s → 124 ≤ length t → 1 ≤ length a → p ≡ o → Figure a a' n p → Figure a a' n (figured t s (length a) o)
  unfolding figured
  figure-by a' h g f e r = rw (le-ltb (length s) 25 h, le-ltb (length t) 124 g, le-ltb (length a) 1 f, ← e) r

-- a fee and a wait by the words of the statistics where they stand, and what was read of the state
module _ (t s : List ℕ) where
  pub fee-words : (minutes size : ℕ) {c : MempoolConfig} → c ≡ config_of s
      → recommended_in (take 60 t) (take 60 (drop 60 t)) c.min_fee minutes size ≡ recommended (stats_of t) (state_of s) minutes size
  unfolding stats_of state_of
  fee-words minutes size e = rw e (recommended-by (stats_of t) (state_of s) minutes size)

  pub wait-words : (e : List ℕ) (time fee size : ℕ) {st : Mempool} → st ≡ state_of s
      → expected_in e st.counts.pooled (get_or t 120 0) (get_or t 121 0) time fee size ≡ expected_wait e (stats_of t) (state_of s) time fee size
  unfolding stats_of
  wait-words e time fee size q = rw q (expected-by e (stats_of t) (state_of s) time fee size)

-- ---- bins: how many pairs were written, and what stands in the answer buffer

pub record Bars (a₀ a : List ℕ) (code : ℕ) (h : Histogram) : Type 0 where
  pub answered : code ≡ query_of h.outcome
  pub answer : Laid a₀ a (length h.bins) h.bins

unfoldable pub bars_of : List ℕ → List ℕ → ℕ → ℕ → ℕ → ℕ → Histogram
bars_of e s words time bins longest = pick (ltb (length s) 25) (no_histogram 1) (histogram_of e (state_of s) words time bins longest)

module _ (e s a : List ℕ) (time bins longest : ℕ) where
  pub bars-few : length s < 25 → Bars a a (cap - 1) (bars_of e s (length a) time bins longest)
  unfolding bars_of query_of
  bars-few h = rw (lt-ltb (length s) 25 h) (record { answered = refl; answer = record { kept = refl; bins = of_none bin_table a; rest = refl } })

  pub bars-by : (a' : List ℕ) {st : Mempool} {o : Result ℕ Refusal} {n : ℕ} → 25 ≤ length s → st ≡ state_of s → Drawn a a' o (histogram_of e st (length a) time bins longest) → n ≡ query_of (listed_of o)
      → Bars a a' n (bars_of e s (length a) time bins longest)
  unfolding bars_of
  bars-by a' h q d r = rw (le-ltb (length s) 25 h, ← q) (record { answered = r ∙ ap query_of d.outcome; answer = d.answer })
