-- `wide::Wide::word_at` meets its contract: from bit 64 on only the high word is seen, and below it the low bits of the high word stand before what is
-- left of the low word. Assumes nothing.
use Rattle.std.proofs.Common.{◌≡◌, ℕ, ◌+◌, ◌-◌, ◌*◌, ◌/◌, ◌%◌, ◌^◌, ◌<◌, ◌≤◌, sym, ap, ◌∙◌, ap₂, lt_of_le_of_lt, add-zero, mod-lt, mod-eq_of_lt, mul_assoc, arith, pow_pos, pow-add, shr-shr, shr_lt}
use native.Mathlib.Nat.{mul-mod_left, mul-add-div_right}
use lib.Arith.{digits_div}
use lib.Pow.{shl-shr, shr_le, high, low, mod-pow-add}
use Rattle.words.specs.Wide.{wide_of}
use Rattle.words.proofs.wide.Wide.word_at.Goals as goal

none : (h l at : ℕ) → l < 2 ^ 64 → at ≡ 0 → l ≡ (h * 2 ^ 64 + l) / 2 ^ at % 2 ^ 64
none h l at b e = rw e (omega arith)

-- a word that has k bits of the high word and at bits of the low one
module _ (h l at k : ℕ) (b : l < 2 ^ 64) (e : 64 ≡ at + k) where
  cut : (h * 2 ^ 64 + l) / 2 ^ at ≡ h * 2 ^ k + l / 2 ^ at
  cut =
      let p : 2 ^ 64 ≡ 2 ^ k * 2 ^ at = let f : 64 ≡ k + at = omega arith in ap (λ (x : ℕ). 2 ^ x) f ∙ pow-add 2 k at in
      ap (λ (x : ℕ). (x + l) / 2 ^ at) (ap (λ (x : ℕ). h * x) p ∙ sym (mul_assoc h (2 ^ k) (2 ^ at)))
      ∙ mul-add-div_right (pow_pos at) (h * 2 ^ k) l

  shifted : h * 2 ^ k % 2 ^ 64 ≡ h % 2 ^ at * 2 ^ k
  shifted =
      ap (λ (x : ℕ). h * 2 ^ k % 2 ^ x) e
      ∙ mod-pow-add (h * 2 ^ k) at k
      ∙ ap₂ (λ (x y : ℕ). x % 2 ^ at * 2 ^ k + y) (shl-shr h k) (mul-mod_left h (2 ^ k))
      ∙ add-zero _

  across : h * 2 ^ k % 2 ^ 64 + l / 2 ^ at ≡ (h * 2 ^ 64 + l) / 2 ^ at % 2 ^ 64
  across =
      let f : 64 ≡ k + at = omega arith in
      let c : l / 2 ^ at < 2 ^ k = shr_lt k at (rw (← f) b) in
      ap (λ (x : ℕ). x + l / 2 ^ at) shifted
      ∙ sym
      (ap (λ (x : ℕ). x % 2 ^ 64) cut
      ∙ ap (λ (x : ℕ). (h * 2 ^ k + l / 2 ^ at) % 2 ^ x) e
      ∙ mod-pow-add (h * 2 ^ k + l / 2 ^ at) at k
      ∙ ap₂ (λ (x y : ℕ). x % 2 ^ at * 2 ^ k + y) (high h k c) (low h k c))

upper : (h l at : ℕ) → h < 2 ^ 64 → l < 2 ^ 64 → 64 ≤ at → h / 2 ^ (at - 64) ≡ (h * 2 ^ 64 + l) / 2 ^ at % 2 ^ 64
upper h l at a b k =
    let e : 64 + (at - 64) ≡ at = omega arith in
    let f : h / 2 ^ (at - 64) ≡ (h * 2 ^ 64 + l) / 2 ^ at =
    ap (λ (x : ℕ). x / 2 ^ (at - 64)) (sym (digits_div h b)) ∙ shr-shr (h * 2 ^ 64 + l) 64 (at - 64) ∙ ap (λ (x : ℕ). (h * 2 ^ 64 + l) / 2 ^ x) e in
    rw (← f) (sym (mod-eq_of_lt (lt_of_le_of_lt (shr_le h (at - 64)) a)))

pub returns-then-at-eq0 : goal.returns-then-at-eq0
unfolding wide_of
returns-then-at-eq0 c = let a = c.args in none a.self.high a.self.low a.at (omega arith) c.if-at-eq0.true

pub overflow_add-result : goal.overflow_add-result
overflow_add-result c =
    let a = c.args in
    record { fits = rw (across a.self.high a.self.low a.at (64 - a.at) (omega arith) (omega arith)) (mod-lt _ (pow_pos 64)) }

pub returns-then-at-lt64 : goal.returns-then-at-lt64
unfolding wide_of
returns-then-at-lt64 c = let a = c.args in across a.self.high a.self.low a.at (64 - a.at) (omega arith) (omega arith)

pub returns : goal.returns
unfolding wide_of
returns c = let a = c.args in upper a.self.high a.self.low a.at (omega arith) (omega arith) c.if-at-lt64.false
