-- `wide::Wide::product` meets its contract: x is cut into halves of 32 bits, both products fit a word, and what is left is linear in them.
-- Assumes nothing.
use Rattle.std.proofs.Common.{◌≡◌, ℕ, ◌+◌, ◌*◌, ◌/◌, ◌%◌, ◌^◌, ◌<◌, sym, ap, ◌∙◌, lt_of_le_of_lt, le_of_lt, add-mul, mul-le-mul_left, mul-lt-mul_of_pos_right, div-add-mod', mul_right_comm, arith, pow_pos}
use Rattle.words.specs.Wide.{wide_of}
use Rattle.words.proofs.wide.Wide.product.Goals as goal

halves : (x y : ℕ) → x * y ≡ x / 2 ^ 32 * y * 2 ^ 32 + x % 2 ^ 32 * y
halves x y =
    ap (λ (z : ℕ). z * y) (sym (div-add-mod' x (2 ^ 32)))
    ∙ add-mul (x / 2 ^ 32 * 2 ^ 32) (x % 2 ^ 32) y
    ∙ ap (λ (z : ℕ). z + x % 2 ^ 32 * y) (mul_right_comm (x / 2 ^ 32) (2 ^ 32) y)

fits : (a b : ℕ) → a < 2 ^ 32 → b < 2 ^ 32 → a * b < 2 ^ 64
fits a b ha hb = lt_of_le_of_lt (mul-le-mul_left a (le_of_lt hb)) (mul-lt-mul_of_pos_right ha (pow_pos 32))

module _ (x y : ℕ) (hx : x < 2 ^ 64) (hy : y < 2 ^ 32) where
  upper_fits : x / 2 ^ 32 * y < 2 ^ 64
  upper_fits = fits (x / 2 ^ 32) y (omega arith) hy

  lower-fits : x % 2 ^ 32 * y < 2 ^ 64
  lower-fits = fits (x % 2 ^ 32) y (omega arith) hy

pub returns-then-low-lower : goal.returns-then-low-lower
unfolding wide_of
returns-then-low-lower c = let a = c.args in omega (arith, halves a.x a.y, lower-fits a.x a.y (omega arith) (omega arith))

pub returns : goal.returns
unfolding wide_of
returns c = let a = c.args in omega (arith, halves a.x a.y, lower-fits a.x a.y (omega arith) (omega arith))
