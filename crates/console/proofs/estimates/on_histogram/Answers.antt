use native.Mathlib.Omega.{arith}
use Rattle.console.specs.Texts.{prints-as, drawn-bins, drawn-not}
use Rattle.console.proofs.estimates.on_histogram.Goals as goal

-- src/estimates.rt:67:35
pub bins-requires : goal.bins-requires
bins-requires c = let h = (drawn-bins _ _ _ _ _ c.in-Ok.is c.pool_histogram_at-drawn.ensures).0 in (omega (arith, h), omega (arith, h, c.requires))

-- src/estimates.rt:53:1
pub returns-in-Ok : goal.returns-in-Ok
returns-in-Ok c = prints-as (drawn-bins _ _ _ _ _ c.in-Ok.is c.pool_histogram_at-drawn.ensures).1 c.bins.ensures

-- src/estimates.rt:53:1
pub returns-in-Err : goal.returns-in-Err
returns-in-Err c = prints-as (drawn-not _ _ _ _ _ c.in-Err.is c.pool_histogram_at-drawn.ensures) c.refused_for.ensures
