-- Loops over the records of a list: what is folded and what is left are the whole.
use Rattle.std.specs.Prelude.{None, Some}
use Rattle.std.specs.List.{fold, range_with_len}
use Rattle.std.specs.Prelude.{ℕ, zero, suc, ◌+◌, ◌-◌, ◌^◌, ◌≤◌, ◌<◌, max, ◌≡◌, refl, List, eqb}
use Rattle.std.proofs.Common.{sym, ap, ◌∙◌, add-one, arith, lt-ltb, le-ltb, eq-eqb, ne_eqb}
use Rattle.words.specs.Sums.{cap, capped}
use Rattle.arguments.specs.Arguments.{fee_at, fee_from, fee_of, fee_sum, field, biased, high_from, height_key, total_from, counts_agree, records}

-- any fold from record i with n left, to the right: `x` has what was folded before i
module _ (from : ℕ → ℕ → ℕ) (one : ℕ → ℕ) (op : ℕ → ℕ → ℕ) (step : (i n : ℕ) → from i (suc n) ≡ op (one i) (from (suc i) n)) where
  pub turn : (i n : ℕ) → i < n → from i (n - i) ≡ op (one i) (from (i + 1) (n - (i + 1)))
  turn i n h =
      let e : n - i ≡ suc (n - (i + 1)) = omega arith in
      ap (from i) e ∙ step i (n - (i + 1)) ∙ ap (λ k. op (one i) (from k (n - (i + 1)))) (sym (add-one i))

-- ---- the fee

pub fee-begins : (l : List ℕ) → 0 + fee_from l 0 (records 7 l - 0) ≡ fee_of l
unfolding fee_of
fee-begins l = let e : records 7 l - 0 ≡ records 7 l = omega arith in rw e (omega arith)

module _ (l : List ℕ) (i sum : ℕ) (h : sum + fee_from l i (records 7 l - i) ≡ fee_of l) where
  pub fee-again : i < records 7 l → sum + fee_at l i + fee_from l (i + 1) (records 7 l - (i + 1)) ≡ fee_of l
  fee-again b = omega (arith, turn (fee_from l) (fee_at l) (λ a b. a + b) (λ i n. refl) i (records 7 l) b)

  pub fee-beyond : i < records 7 l → 2 ^ 64 ≤ sum + fee_at l i → None ≡ fee_sum l
  unfolding fee_sum
  fee-beyond b q = rw (lt-ltb cap (fee_of l) (omega (arith, fee-again b)))

  pub fee-ends : records 7 l ≤ i → sum ≤ cap → Some sum ≡ fee_sum l
  unfolding fee_sum
  fee-ends b q =
      let e : records 7 l - i ≡ 0 = omega arith in
      let s : sum ≡ fee_of l = omega (arith, rw e at h) in
      rw (le-ltb cap (fee_of l) (omega arith), s)

-- ---- the height key

module _ (W j : ℕ) (l : List ℕ) where
  pub high-begins : max 0 (high_from W j l 0 (records W l - 0)) ≡ height_key W j l
  unfolding height_key
  high-begins = let e : records W l - 0 ≡ records W l = omega arith in rw e (omega arith)

  module _ (i key : ℕ) (h : max key (high_from W j l i (records W l - i)) ≡ height_key W j l) where
    pub high-next : i < records W l → max (max key (biased (field W j l i))) (high_from W j l (i + 1) (records W l - (i + 1))) ≡ height_key W j l
    high-next b = omega (arith, turn (high_from W j l) (λ i. biased (field W j l i)) max (λ i n. refl) i (records W l) b)

    pub high-ends : records W l ≤ i → key ≡ height_key W j l
    high-ends b = let e : records W l - i ≡ 0 = omega arith in omega (arith, rw e at h)

-- ---- a block's numbers of inputs, summed up to the cap

abbrev pub all : List ℕ → ℕ
all l = total_from l 0 (records 5 l)

module _ (l : List ℕ) where
  abbrev pub more : ℕ → ℕ → ℕ
  more sum i = capped (sum + field 5 4 l i)

  total-fold : (n i sum : ℕ) → fold more (capped sum) (range_with_len i n) ≡ capped (sum + total_from l i n)
  total-fold zero i sum = omega arith
  total-fold (suc n) i sum =
      let e : more (capped sum) i ≡ capped (sum + field 5 4 l i) = omega arith in
      ap (λ a. fold more a (range_with_len (i + 1) n)) e ∙ total-fold n (i + 1) (sum + field 5 4 l i) ∙ rw (add-one i) (omega arith)

  pub totalled : fold more 0 (range_with_len 0 (records 5 l)) ≡ capped (all l)
  totalled = total-fold (records 5 l) 0 0 ∙ omega arith

-- the sum that stops is the number of inputs exactly if the exact one is, which is below the cap
pub total-agrees : (l ins : List ℕ) → records 4 ins < cap → eqb (capped (all l)) (records 4 ins) ≡ counts_agree l ins
unfolding counts_agree
total-agrees l ins k = go (native.Mathlib.Decide.ℕ_discrete (all l) (records 4 ins))
  where
    go : Dec (all l ≡ records 4 ins) → eqb (capped (all l)) (records 4 ins) ≡ eqb (all l) (records 4 ins)
    go (yes p) = eq-eqb (capped (all l)) (records 4 ins) (omega arith) ∙ sym (eq-eqb (all l) (records 4 ins) p)
    go (no p) = ne_eqb (capped (all l)) (records 4 ins) (λ z. p (omega arith)) ∙ sym (ne_eqb (all l) (records 4 ins) p)
