-- Bins in an answer buffer: two words each, the count and the sum (docs/DECISIONS.md, D5), and what a call leaves in the buffer.
use Rattle.std.specs.Prelude.{ℕ, ◌*◌, ◌/◌, ◌≤◌, ◌<◌, ◌≡◌, refl, Result, List, [], ◌∷◌, length, get_or, drop, set}
use Rattle.words.specs.Rows.{rec_at, recs, length-recs, get_or-recs, take-recs}
use Rattle.words.specs.Tables.{Table}
use Rattle.pool_types.specs.Outcomes.{listed_of}
use Rattle.pool_types.specs.declared.Refusal.{Refusal}
use Rattle.fees.specs.Fees.{Bin, bin, Histogram}

-- there are bins, and the longest wait is divided into intervals for them
pub record Bounds (bins longest interval : ℕ) : Type 0 where
  pub some : 0 < bins
  pub enough : bins ≤ longest
  pub is : interval ≡ longest / bins

unfoldable pub bin_dec : List ℕ → Bin
bin_dec b = bin (get_or b 0 0) (get_or b 1 0)

unfoldable pub bin_at : List ℕ → ℕ → Bin
bin_at l i = rec_at 2 bin_dec l i

unfoldable pub bins_of : List ℕ → ℕ → List Bin
bins_of l n = recs 2 bin_dec l n

pub bins : Table bins_of bin_at
unfolding bins_of bin_at
bins = record { len = length-recs 2 bin_dec; get = get_or-recs 2 bin_dec; first = take-recs 2 bin_dec }

-- on the edges: the first and the second pair of five words
pairs : (bin_at (3 ∷ 70 ∷ 1 ∷ 20 ∷ 9 ∷ []) 0 ≡ bin 3 70) × (bin_at (3 ∷ 70 ∷ 1 ∷ 20 ∷ 9 ∷ []) 1 ≡ bin 1 20)
unfolding bin_at rec_at bin_dec
pairs = (refl, refl)

-- the first n bins are these, and nothing else has changed
pub record Laid (l m : List ℕ) (n : ℕ) (bs : List Bin) : Type 0 where
  pub kept : length m ≡ length l
  pub bins : bins_of m n ≡ bs
  pub rest : drop (n * 2) m ≡ drop (n * 2) l

-- what `pool_histogram_at` leaves: the histogram's bins from the first word on, every other word as it was
pub record Drawn (l m : List ℕ) (o : Result ℕ Refusal) (h : Histogram) : Type 0 where
  pub outcome : listed_of o ≡ h.outcome
  pub answer : Laid l m (length h.bins) h.bins

-- bin i is b, and no other one has changed, nor what stands behind it
pub record Put (l m : List ℕ) (i : ℕ) (b : Bin) : Type 0 where
  pub kept : length m ≡ length l
  pub bins : (n : ℕ) → bins_of m n ≡ set (bins_of l n) i b
  pub rest : (n : ℕ) → i < n → drop (n * 2) m ≡ drop (n * 2) l
