-- `FeeStats::confirmed` meets its contract: the window first, then the histogram. That a wait past the last minute is given as minute 60
-- makes no difference to the bins. Assumes nothing.
use mathlib.Core.Path.{◌≡◌, ◌∙◌}
use Prim.Native.Nat.{ℕ, ◌<◌, ◌≤◌, min}
use native.Mathlib.Nat.{min-eq_left, min-eq_right, le_of_lt}
use native.Mathlib.Decide.{dec_lt}
use native.Mathlib.Omega.{arith}
use borrow.Author.Tests.{le-ltb}
use Rattle.stats.specs.declared.FeeStats.{FeeStats}
use Rattle.stats.specs.Stats.{confirmed, binned}
use Rattle.stats.proofs.FeeStats.confirmed.Goals as goal

-- the histogram does not tell the minutes from 60 on apart
past : (s : FeeStats) (m base : ℕ) → binned s (min m 60) base ≡ binned s m base
unfolding binned
past s m base = go (dec_lt m 60)
  where
    go : Dec (m < 60) → binned s (min m 60) base ≡ binned s m base
    go (yes h) = rw (min-eq_left (le_of_lt h))
    go (no h) = let k : 60 ≤ m = omega (arith, h) in rw (min-eq_right k, le-ltb m 60 k)

pub returns : goal.returns
unfolding confirmed
returns c =
    c.binned.ensures
    ∙ rw (c.counted.ensures, c.minute_bin-minute.ensures, c.saturating_sub.ensures) (past _ _ _)
