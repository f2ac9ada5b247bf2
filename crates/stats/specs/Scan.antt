-- The scan for the first nonempty bin: what it passes over is empty, and behind that it is `find` over the bins' numbers.
use Rattle.std.specs.Prelude.{Option, None, Some, ℕ, zero, suc, ◌+◌, ◌-◌, ◌*◌, ◌/◌, ◌%◌, ◌≤◌, ◌<◌, ◌≡◌, ◌==◌, Bool, true, false, cond, not, min, List, slice_index, find}
use Rattle.std.specs.List.{range_with_len}
use Rattle.std.specs.Option.{MatchOption, unwrap_or}
use Rattle.std.proofs.Common.{refl, sym, ap, ◌∙◌, add-one, arith}
use Rattle.std.proofs.Math.Decide.{ℕ_discrete}
use Rattle.std.specs.Int.Bits.{bit_or, or_add_and}
use Rattle.std.proofs.lemmas.Nat.{and_le_l, and_le_r}
use Rattle.words.specs.Lists.{pick}
use Rattle.stats.specs.Stats.{bin_fee, first_fee, fee_in}

-- four counts are 0
abbrev pub AllNone : ℕ → ℕ → ℕ → ℕ → Type 0
AllNone a b c d = (a ≡ 0) × (b ≡ 0) × (c ≡ 0) × (d ≡ 0)

none_of_two : (a b : ℕ) → bit_or a b ≡ 0 → (a ≡ 0) × (b ≡ 0)
none_of_two a b e = (omega (arith, or_add_and a b, and_le_r a b), omega (arith, or_add_and a b, and_le_l a b))

pub none_of_four : (a b c d : ℕ) → bit_or (bit_or (bit_or a b) c) d ≡ 0 → AllNone a b c d
none_of_four a b c d e =
    let three = none_of_two (bit_or (bit_or a b) c) d e in
    let two = none_of_two (bit_or a b) c three.0 in
    let one = none_of_two a b two.0 in
    (one.0, one.1, two.1, three.1)

-- the first k counts are 0, and none of them is behind the last
pub record Skipped (counts : List ℕ) (last k : ℕ) : Type 0 where
  pub within : k ≤ last + 1
  pub empty : (i : ℕ) → i < k → slice_index counts i ≡ 0

-- four bins are empty
abbrev pub NoneIn : List ℕ → ℕ → Type 0
NoneIn counts k = AllNone (slice_index counts (k * 4)) (slice_index counts (k * 4 + 1)) (slice_index counts (k * 4 + 2)) (slice_index counts (k * 4 + 3))

-- of n fours those before one are empty, or all are
module _ (counts : List ℕ) (last n : ℕ) (h : n ≡ (last + 1) / 4) where
  fours : (m : ℕ) → m ≤ n → ((k : ℕ) → 0 ≤ k → k < m → NoneIn counts k) → Skipped counts last (m * 4)
  fours m q e = record { within = omega arith; empty = λ i g. go i (e (i / 4) (omega arith) (omega arith)) (ℕ_discrete (i % 4) 0) (ℕ_discrete (i % 4) 1) (ℕ_discrete (i % 4) 2) }
    where
      go : (i : ℕ) → NoneIn counts (i / 4) → Dec (i % 4 ≡ 0) → Dec (i % 4 ≡ 1) → Dec (i % 4 ≡ 2) → slice_index counts i ≡ 0
      go i f (yes a) b c = let z : i ≡ i / 4 * 4 = omega arith in rw z f.0
      go i f (no a) (yes b) c = let z : i ≡ i / 4 * 4 + 1 = omega arith in rw z f.1
      go i f (no a) (no b) (yes c) = let z : i ≡ i / 4 * 4 + 2 = omega arith in rw z f.2
      go i f (no a) (no b) (no c) = let z : i ≡ i / 4 * 4 + 3 = omega arith in rw z f.3

  pub passed : (r : Option ℕ) → MatchOption r ((k : ℕ) → 0 ≤ k → k < n → NoneIn counts k) (λ i. (0 ≤ i) × (i < n) × Unit {0} × ((k : ℕ) → 0 ≤ k → k < i → NoneIn counts k))
      → Skipped counts last (unwrap_or r n * 4)
  passed None f = fours n (omega arith) f
  passed (Some i) f = fours i (omega (arith, f.1)) f.3

-- bin k is not empty
abbrev pub full : List ℕ → ℕ → Bool
full counts k = not (slice_index counts k == 0)

module _ (counts totals : List ℕ) (size : ℕ) where
  -- the fee of the bin that was found
  abbrev pub fee_at : Option ℕ → Option ℕ
  fee_at None = None
  fee_at (Some k) = Some (bin_fee (slice_index totals k) (slice_index counts k) size)

  pub scanned : (k n : ℕ) → fee_at (find (full counts) (range_with_len k n)) ≡ first_fee counts totals size k n
  unfolding first_fee
  scanned k zero = refl
  scanned k (suc n) = go (slice_index counts k == 0) (scanned (k + 1) n ∙ rw (add-one k))
    where
      go : (t : Bool) → fee_at (find (full counts) (range_with_len (k + 1) n)) ≡ first_fee counts totals size (suc k) n
          → fee_at (cond (not t) (Some k) (find (full counts) (range_with_len (k + 1) n))) ≡ pick t (first_fee counts totals size (suc k) n) (fee_at (Some k))
      go true e = e
      go false e = refl

  -- what is skipped is empty
  skips : (last k : ℕ) → Skipped counts last k → first_fee counts totals size k (last + 1 - k) ≡ first_fee counts totals size 0 (last + 1)
  unfolding first_fee
  skips last zero s = let z : last + 1 - 0 ≡ last + 1 = omega arith in rw z
  skips last (suc k) s =
      let z : last + 1 - k ≡ suc (last + 1 - suc k) = omega (arith, s.within) in
      let e : first_fee counts totals size k (last + 1 - k) ≡ first_fee counts totals size (suc k) (last + 1 - suc k) = rw (z, s.empty k (omega arith)) in
      sym e ∙ skips last k (record { within = omega (arith, s.within); empty = λ i g. s.empty i (omega arith) })

-- the fee of a wait, which the last bin that it reaches tells
module _ (counts totals : List ℕ) (size minutes last k : ℕ) (h : last ≡ min minutes 59) (s : Skipped counts last k) where
  pub fee_found : (r : Option ℕ) → r ≡ find (full counts) (range_with_len k (last + 1 - k)) → fee_at counts totals size r ≡ fee_in counts totals minutes size
  unfolding fee_in
  fee_found r e =
      let n : last + 1 ≡ suc (min minutes 59) = omega arith in
      rw e (scanned counts totals size k (last + 1 - k)) ∙ skips counts totals size last k s ∙ ap (first_fee counts totals size 0) n
