use native.Mathlib.Omega.{arith}
use Rattle.console.specs.Texts.{prints-as, listed-rows, listed-not}
use Rattle.console.proofs.query.on_top.Goals as goal

-- src/query.rt:29:35
pub pooled-requires : goal.pooled-requires
pooled-requires c = let h = (listed-rows _ _ _ c.in-Ok.is c.top-listed.ensures).0 in (omega (arith, h), omega (arith, h, c.requires))

-- src/query.rt:23:1
pub returns-in-Ok : goal.returns-in-Ok
returns-in-Ok c = prints-as (listed-rows _ _ _ c.in-Ok.is c.top-listed.ensures).1 c.pooled.ensures

-- src/query.rt:23:1
pub returns-in-Err : goal.returns-in-Err
returns-in-Err c = prints-as (listed-not _ _ _ c.in-Err.is c.top-listed.ensures) c.refused_for.ensures
