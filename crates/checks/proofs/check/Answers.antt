-- `checks::check` meets its contract: what passes the three chains is as the later steps need it. Assumes nothing.
use mathlib.Core.Path.{refl, sym}
use Rattle.checks.specs.Passed.{passed_by}
use Rattle.checks.proofs.check.Goals as goal

pub returns-clause-passed : goal.returns-clause-passed
returns-clause-passed c =
    let pool = c.new-pool.ensures in
    let lists = rw (pool.0, pool.1, pool.2) at c.check_lists.ensures.inputs_bound in
    λ z. passed_by _ _ _ _ _ _ _ _ _ (sym c.in_ok-check_call.ensures.value) (c.in_ok-check_state.ensures.welcome refl) (lists z).0 (lists z).1
