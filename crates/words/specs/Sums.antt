-- Numbers of 64 bits: the greatest one, sums that stop at it, and differences that stop at 0.
use Rattle.std.specs.Prelude.{◌≡◌, ℕ, ◌+◌, ◌*◌, ◌/◌, ◌^◌, ◌<◌, ◌≤◌, min, List, [], ◌∷◌, ◌++◌, length, ◌==◌, refl}
use Rattle.std.proofs.Common.{arith, eq-eqb, ne_eqb}
use Rattle.words.specs.Lists.{pick}

-- 2^64−1, where counts, totals, weights and sums stop (document 01: "capped at 2^64−1", "stop at 2^64−1")
abbrev pub cap : ℕ
cap = 18446744073709551615

abbrev pub capped : ℕ → ℕ
capped n = min n cap

-- a quotient as document 01 has every one: floored, "0 for factor 0, 2^64−1 if larger"
abbrev pub quotient_of : ℕ → ℕ → ℕ
quotient_of n d = pick (d == 0) 0 (capped (n / d))

-- on the edges
quotient-edges : (quotient_of 7 0 ≡ 0) × (quotient_of 25 2 ≡ 12) × (quotient_of (cap * 1024) 1024 ≡ cap) × (quotient_of (cap * 1024) 1023 ≡ cap)
quotient-edges = (refl, refl, refl, refl)

-- which of the three it is
pub quotient-none : (n d : ℕ) → d ≡ 0 → 0 ≡ quotient_of n d
quotient-none n d e = rw (eq-eqb d 0 e)

module _ (n d : ℕ) (pos : 0 < d) where
  pub quotient-word : n / d < 2 ^ 64 → n / d ≡ quotient_of n d
  quotient-word h = let z : d ≡ 0 → ⊥ = omega arith in rw (ne_eqb d 0 z) (omega arith)

  pub quotient-cap : 2 ^ 64 ≤ n / d → cap ≡ quotient_of n d
  quotient-cap h = let z : d ≡ 0 → ⊥ = omega arith in rw (ne_eqb d 0 z) (omega arith)

-- ---- a sum of words, as an exact average takes it

abbrev pub total : List ℕ → ℕ
total [] = 0
total (x ∷ xs) = x + total xs

-- document 01's edge: conflicts of 10 and 15 have the floored exact average 12
average-edge : quotient_of (total (10 ∷ 15 ∷ [])) 2 ≡ 12
average-edge = refl

pub total-append : (a b : List ℕ) → total (a ++ b) ≡ total a + total b
total-append [] b = omega arith
total-append (x ∷ a) b = omega (arith, total-append a b)

-- each element of a list is a number of 64 bits
abbrev pub AllWords : List ℕ → Type 0
AllWords [] = Unit {0}
AllWords (x ∷ xs) = (x < 2 ^ 64) × AllWords xs

pub total-le : (l : List ℕ) → AllWords l → total l ≤ length l * cap
total-le [] h = omega arith
total-le (x ∷ xs) h = omega (arith, h.0, total-le xs h.1)
