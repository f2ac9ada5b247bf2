-- `PoolMut::remove_all` meets its contract. The loop's invariant: removing the ids that are left from what is here gives what removing all of
-- them gave at the beginning, and before the first nothing has changed. Assumes nothing.
use Rattle.std.proofs.Common.{refl, sym, ◌∙◌, arith}
use Rattle.pool.specs.Laws.{remove-turn, remove-end}
use Rattle.pool.specs.Steps.{fewer-none}
use Rattle.pool.proofs.lent.PoolMut.remove_all.Goals as goal

pub loop-i-init : goal.loop-i-init
loop-i-init c = ((refl, refl, refl, refl), fewer-none _ _ _ c.args.self.now.fits, (λ k. (k, refl)), λ z. (refl, refl, refl))

pub loop-i-preserved : goal.loop-i-preserved
loop-i-preserved c =
    let r = c.remove.ensures in
    let v = c.loop-i.invariant in (
      (r.same.0 ∙ v.0.0, r.same.1 ∙ v.0.1, r.same.2 ∙ v.0.2, r.same.3 ∙ v.0.3),
      record { fits = r.fewer.fits; entries = omega (arith, r.fewer.entries, v.1.entries); records = omega (arith, r.fewer.records, v.1.records) },
      (λ k. let w = v.2 k in let x = r.left w.0 in (x.kept, remove-turn _ _ _ _ _ (omega arith) _ c.id_at.ensures x.tables w.1)),
      λ z. absurd (omega arith),
    )

pub returns-clause-same : goal.returns-clause-same
returns-clause-same c = c.loop-i.invariant.0

pub returns-clause-fewer : goal.returns-clause-fewer
returns-clause-fewer c = c.loop-i.invariant.1

pub returns-clause-left : goal.returns-clause-left
returns-clause-left c k =
    let v = c.loop-i.invariant in
    let w = v.2 k in
    record { fits = v.1.fits; kept = w.0; tables = sym (remove-end _ _ _ _ _ (omega arith)) ∙ w.1 }

pub returns-clause-entries_unchanged : goal.returns-clause-entries_unchanged
returns-clause-entries_unchanged c h = c.loop-i.invariant.3 (omega arith)
