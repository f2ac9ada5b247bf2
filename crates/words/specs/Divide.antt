-- Long division, some bits at a time from the highest: what is left after a step, with the next bits behind it, is all that is divided next.
-- One law, over every base, serves every quotient.
use Rattle.std.specs.Prelude.{◌≡◌, ℕ, ◌+◌, ◌-◌, ◌*◌, ◌/◌, ◌%◌, ◌^◌, ◌<◌, ◌≤◌, min}
use Rattle.std.proofs.Common.{sym, ◌∙◌, add_assoc, add-mul, mul_right_comm, div-add-mod', div-one, mod-eq_of_lt, div-mul-le_self, le-div_iff_mul-le, div-lt_iff_lt-mul, le_trans, lt_of_lt_of_le, lt_of_le_of_lt, mul-le-mul_left, le-add_right, arith, pow_pos, pow_mono, shr-shr}
use Rattle.std.proofs.Math.Path.{ap}
use Rattle.std.proofs.Math.Nat.{mul-add-div_right, mul-add-mod_self_right, mod-lt, div-eq_of_lt, div-eq-sub-div, mod-eq-sub-mod}
use Rattle.std.proofs.Math.Arith.{digits_lt}
use Rattle.std.proofs.Math.Pow.{split, shr_mod}
use Rattle.std.proofs.lemmas.Nat.{shr_le}
use Rattle.words.specs.Wide.{wide_of}
use Rattle.words.specs.declared.wide.Wide.{Wide}
use Rattle.words.specs.declared.wide.Part.{Part}

-- ---- the law

module _ (p g B : ℕ) {d : ℕ} (pos : 0 < d) where
  cut : p * B + g ≡ p / d * B * d + (p % d * B + g)
  cut =
      ap (λ (x : ℕ). x * B + g) (sym (div-add-mod' p d))
      ∙ ap (λ (x : ℕ). x + g) (add-mul (p / d * d) (p % d) B ∙ ap (λ (x : ℕ). x + p % d * B) (mul_right_comm (p / d) d B))
      ∙ add_assoc (p / d * B * d) (p % d * B) g

  pub step-quotient : (p * B + g) / d ≡ p / d * B + (p % d * B + g) / d
  step-quotient = ap (λ (x : ℕ). x / d) cut ∙ mul-add-div_right pos (p / d * B) (p % d * B + g)

  pub step-rest : (p * B + g) % d ≡ (p % d * B + g) % d
  step-rest = ap (λ (x : ℕ). x % d) cut ∙ mul-add-mod_self_right (p / d * B) d (p % d * B + g)

-- ---- which quotients fit a word

pub fits_word : (w : Wide) {d : ℕ} → w.high < d → w.low < 2 ^ 64 → wide_of w / d < 2 ^ 64
unfolding wide_of
fits_word w {d} h b = let pos : 0 < d = omega arith in (div-lt_iff_lt-mul pos).1 (omega arith)

pub past_word_is : (w : Wide) {d : ℕ} → 0 < d → d ≤ w.high → 2 ^ 64 ≤ wide_of w / d
unfolding wide_of
past_word_is w pos h = (le-div_iff_mul-le pos).1 (omega arith)

-- ---- where a division starts, and how far a step goes

-- r is the length of n in bits: the place of its highest one bit, and one
pub record Length (n r : ℕ) : Type 0 where
  pub below : n < 2 ^ r
  pub least : 2 ^ r ≤ 2 * n + 1
  pub room : r ≤ 128

-- the first step ends 64 bits below, or at bit 0
pub first-within : {n r : ℕ} → Length n r → (m : ℕ) → m ≡ min r 64 → n < 2 ^ (64 + (r - m))
first-within k m e = lt_of_lt_of_le k.below (pow_mono (omega arith))

-- a step of s bits serves the divisor d: a number below d with s bits behind it fits a word, or the step is one bit
pub record Serves (d s : ℕ) : Type 0 where
  pub some : 0 < s
  pub few : s < 64
  pub room : d < 2 ^ 32 → d * 2 ^ s ≤ 2 ^ 64
  pub one : 2 ^ 32 ≤ d → s ≡ 1

-- and so does a shorter one
pub serves-less : {d m s : ℕ} → Serves d m → 0 < s → s ≤ m → Serves d s
serves-less {d} k p l = record {
  some = p;
  few = omega (arith, k.few);
  room = λ h. le_trans (mul-le-mul_left d (pow_mono l)) (k.room h);
  one = λ h. omega (arith, k.one h);
}

-- ---- what a division has come to at bit `at`, and a step of s bits

unfoldable pub part_of : ℕ → ℕ → ℕ → Part
part_of n d at = record { quotient = n / 2 ^ at / d; rest = n / 2 ^ at % d }

unfoldable pub stepped : Part → ℕ → ℕ → ℕ → Part
stepped t g d s = record { quotient = t.quotient * 2 ^ s + (t.rest * 2 ^ s + g) / d; rest = (t.rest * 2 ^ s + g) % d }

-- what a step needs: what is left and the bits are small, and the quotient fits a word
pub record Ready (t : Part) (g d s : ℕ) : Type 0 where
  pub left : t.rest < d
  pub digit : g < 2 ^ s
  pub serves : Serves d s
  pub fits : (stepped t g d s).quotient < 2 ^ 64

module _ (n d at s : ℕ) (pos : 0 < d) where
  bits-more : n / 2 ^ (at + s) * 2 ^ s + n / 2 ^ at % 2 ^ s ≡ n / 2 ^ at
  bits-more = rw (← shr-shr n at s) (split (n / 2 ^ at) s)

  pub part_step : stepped (part_of n d (at + s)) (n / 2 ^ at % 2 ^ s) d s ≡ part_of n d at
  unfolding part_of stepped
  part_step = λ i. record {
    quotient = (sym (step-quotient (n / 2 ^ (at + s)) (n / 2 ^ at % 2 ^ s) (2 ^ s) pos) ∙ ap (λ (x : ℕ). x / d) bits-more) i;
    rest = (sym (step-rest (n / 2 ^ (at + s)) (n / 2 ^ at % 2 ^ s) (2 ^ s) pos) ∙ ap (λ (x : ℕ). x % d) bits-more) i;
  }

  pub part-ready : n / d < 2 ^ 64 → Serves d s → Ready (part_of n d (at + s)) (n / 2 ^ at % 2 ^ s) d s
  unfolding part_of
  part-ready h k = record {
    left = mod-lt (n / 2 ^ (at + s)) pos;
    digit = mod-lt (n / 2 ^ at) (pow_pos s);
    serves = k;
    fits = rw part_step (lt_of_le_of_lt ((le-div_iff_mul-le pos).1 (le_trans (div-mul-le_self (n / 2 ^ at) d) (shr_le n at))) h);
  }

-- after the first step, of a whole word, and after the last
pub part-first : (n d at : ℕ) → n < 2 ^ (64 + at) → record { quotient = n / 2 ^ at % 2 ^ 64 / d; rest = n / 2 ^ at % 2 ^ 64 % d } ≡ part_of n d at
unfolding part_of
part-first n d at h = rw (shr_mod 64 at h)

pub part-all : (n d : ℕ) → (part_of n d 0).quotient ≡ n / d
unfolding part_of
part-all n d = ap (λ (x : ℕ). x / d) (div-one n)

-- ---- a step in the code

module _ (t : Part) (g d s : ℕ) (k : Ready t g d s) where
  -- within a word: nothing is shifted out
  module _ (h : d < 2 ^ 32) where
    pub word_fits : t.rest * 2 ^ s + g < 2 ^ 64
    word_fits = lt_of_lt_of_le (digits_lt k.left k.digit) (k.serves.room h)

    pub rest-kept : t.rest * 2 ^ s % 2 ^ 64 ≡ t.rest * 2 ^ s
    rest-kept = mod-eq_of_lt (lt_of_le_of_lt (le-add_right (t.rest * 2 ^ s) g) word_fits)

    pub quotient_fits : t.quotient * 2 ^ s + (t.rest * 2 ^ s + g) / d < 2 ^ 64
    unfolding stepped
    quotient_fits = k.fits

    pub quotient-kept : t.quotient * 2 ^ s % 2 ^ 64 ≡ t.quotient * 2 ^ s
    quotient-kept = mod-eq_of_lt (lt_of_le_of_lt (le-add_right (t.quotient * 2 ^ s) ((t.rest * 2 ^ s + g) / d)) quotient_fits)

  -- by one bit: the quotient's digit is 0 or 1
  module _ (h : 2 ^ 32 ≤ d) where
    pub bit-digit : g < 2
    bit-digit = rw (k.serves.one h) at k.digit

    bit-step : (q r : ℕ) → q ≡ t.quotient * 2 + (t.rest * 2 + g) / d → r ≡ (t.rest * 2 + g) % d → (q < 2 ^ 64) × (record { quotient = q; rest = r } ≡ stepped t g d s)
    unfolding stepped
    bit-step q r e f = (rw e (rw (k.serves.one h) at k.fits), rw (k.serves.one h) λ i. record { quotient = e i; rest = f i })

    pub bit-none : t.rest + g < d - t.rest → (t.quotient + t.quotient < 2 ^ 64) × (record { quotient = t.quotient + t.quotient; rest = t.rest + (t.rest + g) } ≡ stepped t g d s)
    bit-none l =
        let b : t.rest * 2 + g < d = omega (arith, k.left) in
        bit-step _ _ (rw (div-eq_of_lt b) (omega arith)) (rw (mod-eq_of_lt b) (omega arith))

    pub bit-one : d - t.rest ≤ t.rest + g → (t.quotient + t.quotient + 1 < 2 ^ 64) × (record { quotient = t.quotient + t.quotient + 1; rest = t.rest + g - (d - t.rest) } ≡ stepped t g d s)
    bit-one l =
        let a : d ≤ t.rest * 2 + g = omega (arith, k.left) in
        let b : t.rest * 2 + g - d < d = omega (arith, k.left, bit-digit) in
        bit-step _ _ (rw (div-eq-sub-div (omega arith) a, div-eq_of_lt b) (omega arith)) (rw (mod-eq-sub-mod a, mod-eq_of_lt b) (omega arith))
