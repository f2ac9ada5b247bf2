-- Numbers of two words of 64 bits.
use Rattle.std.specs.Prelude.{◌≡◌, ℕ, ◌+◌, ◌*◌, ◌^◌, ◌<◌, ◌≤◌, refl}
use Rattle.std.proofs.Math.Nat.{lt_of_le_of_lt, lt_of_mul-lt-mul_right, add-le-add_iff_right}
use Rattle.std.proofs.Common.{le_of_mul-le-mul_right, arith, pow_pos}
use Rattle.words.specs.Sums.{cap}
use Rattle.words.specs.declared.wide.Wide.{Wide}

-- the number of two words
unfoldable pub wide_of : Wide → ℕ
wide_of w = w.high * 2 ^ 64 + w.low

pub wide-none : wide_of (record { high = 0; low = 0 }) ≡ 0
unfolding wide_of
wide-none = refl

-- ---- a sum of n words from 0: at most n times the greatest word, so that its high word stays below n. Of 4,096 weights it is never full.

module _ (w : Wide) (n : ℕ) (h : wide_of w ≤ n * cap) where
  pub sum_more : (x : ℕ) → x < 2 ^ 64 → wide_of w + x ≤ (n + 1) * cap
  sum_more x b = omega arith

  pub sum-high : 0 < n → w.high < n
  unfolding wide_of
  sum-high p = lt_of_mul-lt-mul_right (2 ^ 64) (omega arith)

  pub sum_room : n + 1 < 2 ^ 64 → w.high + 1 < 2 ^ 64
  unfolding wide_of
  sum_room b = lt_of_le_of_lt ((add-le-add_iff_right 1).1 (le_of_mul-le-mul_right {k = 2 ^ 64} (omega arith) (pow_pos 64))) b
