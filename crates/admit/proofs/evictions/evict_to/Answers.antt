-- `evictions::evict_to` meets its contract. The loop's invariant: as many went as are missing, and evicting from what is here gives the tables, and with
-- what went before the ids, that evicting gave at the beginning (`Evicting`). Assumes nothing.
use native.Mathlib.Omega.{arith}
use mathlib.Core.Path.{◌∙◌}
use Rattle.admit.specs.Evictions.{evicting-more, evicting-all, few}
use Rattle.admit.proofs.evictions.evict_to.Goals as goal

pub overflow_add-at : goal.overflow_add-at
overflow_add-at c = omega (arith, few _ _ c.args.pool.now.fits.entries (omega arith))

pub loop-i-preserved : goal.loop-i-preserved
loop-i-preserved c =
    let v = c.loop-i.invariant in
    let w = c.evict_lowest.ensures in
    record {
      same = (w.same.0 ∙ v.same.0, w.same.1 ∙ v.same.1, w.same.2 ∙ v.same.2, w.same.3 ∙ v.same.3);
      pooled = omega (arith, w.fewer.1);
      evicting = λ k.
          let h = v.evicting k in
          let l = w.left h.0 in
          (l.kept, evicting-more _ _ _ _ _ _ _ _ _ _ h.1 _ _ _ (omega arith) l.tables (rw (c.entries.ensures.0, c.entries.ensures.1) at c.lowest_id.ensures) c.note_id.ensures);
    }

pub returns-clause-upper_bound : goal.returns-clause-upper_bound
returns-clause-upper_bound c = omega (arith, few _ _ c.args.pool.now.fits.entries (omega arith))

pub returns-clause-evicts : goal.returns-clause-evicts
returns-clause-evicts c =
    let v = c.loop-i.invariant in
    λ k. let h = v.evicting k in evicting-all _ _ _ _ _ _ _ _ _ _ h.1 _ (omega arith) c.loop-i.pool.fits h.0 (omega arith)
