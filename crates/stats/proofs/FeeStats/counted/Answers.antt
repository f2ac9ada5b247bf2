-- `FeeStats::counted` meets its contract: on each of its three ways the tests of the definition are decided by those of the code.
-- Assumes nothing.
use mathlib.Core.Path.{◌≡◌}
use Prim.Native.Nat.{◌-◌, ◌<◌, ◌≤◌}
use native.Mathlib.Nat.{sub-zero}
use native.Mathlib.Omega.{arith}
use borrow.Author.Tests.{lt-ltb, le-ltb, ne_eqb}
use Rattle.stats.specs.Stats.{counted}
use Rattle.stats.proofs.FeeStats.counted.Goals as goal

pub returns-then-self-ne0 : goal.returns-then-self-ne0
unfolding counted
returns-then-self-ne0 c =
    let moved : 60000 < c.args.time - c.args.self.snap_time = omega arith in
    simp (c.saturating_sub-then-self-ne0.ensures, c.saturating_add.ensures, lt-ltb _ _ moved, ne_eqb _ _ c.if-self-ne0.true)

pub returns-else-self-ne0 : goal.returns-else-self-ne0
unfolding counted
returns-else-self-ne0 c =
    let moved : 60000 < c.args.time - c.args.self.snap_time = omega arith in
    let none : c.args.self.snap_taken ≡ 0 = omega arith in
    simp (c.saturating_add.ensures, lt-ltb _ _ moved, none, sub-zero)

pub returns-else-saturating_sub-gt-MEASUREMENT_INTERVAL : goal.returns-else-saturating_sub-gt-MEASUREMENT_INTERVAL
unfolding counted
returns-else-saturating_sub-gt-MEASUREMENT_INTERVAL c =
    let stays : c.args.time - c.args.self.snap_time ≤ 60000 = omega arith in
    simp (c.saturating_add.ensures, le-ltb _ _ stays)
