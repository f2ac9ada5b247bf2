-- `admission::offer` meets its contract: 10 (`fee-refused`), or the newcomer takes a place (`fee-contested`). Assumes nothing.
use mathlib.Core.Path.{refl}
use Rattle.entries.specs.Layout.{entries_of}
use Rattle.admit.specs.Admission.{sound_declined, fee-refused, fee-contested, own-id}
use Rattle.admit.proofs.admission.offer.Goals as goal

pub returns-then-fee-config-clause-sound : goal.returns-then-fee-config-clause-sound
returns-then-fee-config-clause-sound c = sound_declined _ _ refl

pub returns-then-fee-config-clause-leaves : goal.returns-then-fee-config-clause-leaves
returns-then-fee-config-clause-leaves c = λ k new. fee-refused _ _ _ _ _ _ _ _ _ c.requires.inputs_bound.1 _ _ _ _ (record { fits = c.args.pool.now.fits; kept = k; tables = refl }) c.if-fee-config.true

pub returns-clause-leaves : goal.returns-clause-leaves
returns-clause-leaves c = let a = c.args in
    let p = c.find_place.ensures in
    let x = c.newcomer-e.ensures in λ k new. fee-contested _ _ _ _ _ _ _ _ _ c.requires.inputs_bound.1 _ _ _ _ _ _ c.if-fee-config.false _ _ _ c.cost_of.ensures c.fee_per_factor-base.ensures x (p.leaves k (own-id _ _ _ _ _ _ (entries_of a.pool.now.entries.now a.pool.now.counts.pooled) x new))
