-- The bucket of an id in a table's index, by the last word d of the id and the table's key k, of n buckets. Which it is changes no answer: the laws of
-- an index hold for every choice.
use Rattle.std.specs.Prelude.{ℕ, ◌+◌, ◌*◌, ◌/◌, ◌%◌, ◌^◌, ◌<◌, Bool, true, false, nat_lt}
use Rattle.std.proofs.Common.{subst, mod-lt, mul_comm, mul-lt-mul_of_pos_right, div-lt_iff_lt-mul, arith, pow_pos}
use Rattle.words.specs.Lists.{pick}

-- what a half of the last word is multiplied by
abbrev pub factor : ℕ → ℕ → ℕ
factor half constant = (half % 2 ^ 31 + constant) % 2 ^ 31 * 2 + 1

-- a place among n for a number x below 2^32
unfoldable pub place_in : ℕ → ℕ → ℕ
place_in x n = pick (nat_lt n (2 ^ 32)) (x * n / 2 ^ 32) (x % n)

unfoldable pub bucket_of : ℕ → ℕ → ℕ → ℕ
bucket_of d k n = place_in ((d % 2 ^ 32 * factor k 1540483477 % 2 ^ 32 + d / 2 ^ 32 * factor (k / 2 ^ 31) 461845907 % 2 ^ 32) % 2 ^ 32) n

pub place-low : (x n : ℕ) → x < 2 ^ 32 → 0 < n → place_in x n < n
unfolding place_in
place-low x n h p = low (nat_lt n (2 ^ 32))
  where
    low : (b : Bool) → pick b (x * n / 2 ^ 32) (x % n) < n
    low true = (div-lt_iff_lt-mul (pow_pos 32)).1 (subst (λ (y : ℕ). x * n < y) (mul_comm (2 ^ 32) n) (mul-lt-mul_of_pos_right h p))
    low false = mod-lt x p

pub bucket-low : (d k n : ℕ) → 0 < n → bucket_of d k n < n
unfolding bucket_of
bucket-low d k n h =
    place-low ((d % 2 ^ 32 * factor k 1540483477 % 2 ^ 32 + d / 2 ^ 32 * factor (k / 2 ^ 31) 461845907 % 2 ^ 32) % 2 ^ 32) n (omega arith) h
