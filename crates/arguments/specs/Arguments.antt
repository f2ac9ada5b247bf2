-- The lists that calls bring: flat words, records of W words each (docs/DECISIONS.md, D3 and D4).
use Rattle.std.specs.Prelude.{None, Option, Some}
use Rattle.std.specs.Prelude.{ℕ, zero, suc, ◌+◌, ◌*◌, ◌/◌, ◌%◌, max, ◌≡◌, refl, Bool, true, false, not, List, [], ◌∷◌, length, get_or, eqb, ltb}
use Rattle.words.specs.Lists.{pick}
use Rattle.words.specs.Sums.{cap}

-- refusal 1: "a list is no whole number of records"
abbrev pub whole : ℕ → List ℕ → Bool
whole W l = eqb (length l % W) 0

abbrev pub records : ℕ → List ℕ → ℕ
records W l = length l / W

-- word j of record i
abbrev pub field : ℕ → ℕ → List ℕ → ℕ → ℕ
field W j l i = get_or l (i * W + j) 0

-- a flag is set where its word is not 0
abbrev pub flagged : ℕ → Bool
flagged w = not (eqb w 0)

-- refusal 7: "more than 5,000 inputs"
abbrev pub max_inputs : ℕ
max_inputs = 5000

-- ---- "Fee = sum of flagged values": an output of a submission has 7 words, its value at 4, its fee flag at 5

abbrev pub fee_at : List ℕ → ℕ → ℕ
fee_at l i = pick (flagged (field 7 5 l i)) (field 7 4 l i) 0

-- of n outputs from i on
abbrev pub fee_from : List ℕ → ℕ → ℕ → ℕ
fee_from l i zero = 0
fee_from l i (suc n) = fee_at l i + fee_from l (suc i) n

unfoldable pub fee_of : List ℕ → ℕ
fee_of l = fee_from l 0 (records 7 l)

-- refusal 4: "fee sum above 2^64−1"
unfoldable pub fee_sum : List ℕ → Option ℕ
fee_sum l = pick (ltb cap (fee_of l)) None (Some (fee_of l))

-- ---- heights: "Heights of 32 bits are read as signed"

-- The low 32 bits of a word: below 2^31 they stand for themselves, from there on for themselves less 2^32. This is that number plus 2^31, so that
-- signed numbers are in the order of these.
abbrev pub biased : ℕ → ℕ
biased w = (w + 2147483648) % 4294967296

-- the greatest of n heights from record i on, each at word j of a record of W words; 0 where there is none
abbrev pub high_from : ℕ → ℕ → List ℕ → ℕ → ℕ → ℕ
high_from W j l i zero = 0
high_from W j l i (suc n) = max (biased (field W j l i)) (high_from W j l (suc i) n)

unfoldable pub height_key : ℕ → ℕ → List ℕ → ℕ
height_key W j l = high_from W j l 0 (records W l)

-- refusal 8 and passes: an output is ahead of the preheader
abbrev pub ahead_of : ℕ → ℕ → Bool
ahead_of key preheader = ltb (biased preheader) key

-- ---- a block: transactions of 5 words, the number of inputs at 4; their inputs in a second list of 4 words each

abbrev pub total_from : List ℕ → ℕ → ℕ → ℕ
total_from l i zero = 0
total_from l i (suc n) = field 5 4 l i + total_from l (suc i) n

-- refusal 1: ".. or its counts disagree"
unfoldable pub counts_agree : List ℕ → List ℕ → Bool
counts_agree txs ins = eqb (total_from txs 0 (records 5 txs)) (records 4 ins)

-- ---- on edges

edges : (ahead_of (biased 2147483648) 50 ≡ false) × (ahead_of (biased 51) 50 ≡ true) × (ahead_of (biased 50) 50 ≡ false) × (ahead_of (biased 50) 4294967295 ≡ true)
edges = (refl, refl, refl, refl)

fee-edges : (fee_of (0 ∷ 0 ∷ 0 ∷ 1 ∷ 5 ∷ 1 ∷ 9 ∷ 0 ∷ 0 ∷ 0 ∷ 2 ∷ 7 ∷ 0 ∷ 9 ∷ []) ≡ 5)
unfolding fee_of
fee-edges = refl
