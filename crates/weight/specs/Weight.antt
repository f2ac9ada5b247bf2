-- Document 01, "Weight of a transaction": "Base = floor(fee × 1024 / factor), 0 for factor 0, 2^64−1 if larger. Factor is the size
-- (`FeePerByte`) or the cost, with 1,000 for cost 0 (`FeePerCycle`)."
use Rattle.std.specs.Prelude.{ℕ, ◌*◌, ◌≡◌, refl, eqb}
use Rattle.words.specs.Lists.{pick}
use Rattle.words.specs.Sums.{cap, quotient_of}
use Rattle.pool_types.specs.declared.FeeStrategy.{FeeStrategy}
use Rattle.pool_types.specs.declared.FeeStrategy.TheVariants.{FeePerByte, FeePerCycle}

abbrev pub factor_of : FeeStrategy → ℕ → ℕ → ℕ
factor_of FeePerByte size cost = size
factor_of FeePerCycle size cost = pick (eqb cost 0) 1000 cost

abbrev pub base_of : ℕ → ℕ → ℕ
base_of fee factor = quotient_of (fee * 1024) factor

abbrev pub fee_per_factor : FeeStrategy → ℕ → ℕ → ℕ → ℕ
fee_per_factor strategy fee size cost = base_of fee (factor_of strategy size cost)

-- document 01's edges
pub base-edges : (fee_per_factor FeePerByte 1000000 300 0 ≡ 3413333)
    × (base_of cap 1024 ≡ cap)
    × (base_of cap 1023 ≡ cap)
    × (fee_per_factor FeePerCycle 1000000 300 0 ≡ base_of 1000000 1000)
    × (fee_per_factor FeePerByte 1000000 0 7 ≡ 0)
base-edges = (refl, refl, refl, refl, refl)
