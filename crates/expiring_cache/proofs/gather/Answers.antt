-- `expiring_cache::gather` meets its contract. The loop's invariant: of the first i rows those held are the first w slots (`Gathers`). Assumes nothing.
use mathlib.Core.Path.{sym, ap, ◌∙◌}
use Rattle.expiring_cache.specs.Cache.{Held, young}
use Rattle.expiring_cache.specs.Layout.{held_of}
use Rattle.expiring_cache.specs.Gathering.{gathers-none, gathers-gone, gathers-kept}
use Rattle.expiring_cache.proofs.gather.Goals.{then-is_fresh, else-is_fresh}
use Rattle.expiring_cache.proofs.gather.Goals as goal

pub loop-i-init : goal.loop-i-init
loop-i-init c = gathers-none _ _ _ _ _

pub loop-i-preserved : goal.loop-i-preserved
unfolding held_of
loop-i-preserved c =
    elim c.if-is_fresh.branch [
      | then-is_fresh w ↦ rw (w.cache-is, w.w-is) (gathers-kept _ _ _ _ _ _ _ _ c.loop-i.invariant c.loop-i-test.true _ _ w.push.auto.cache c.load_row-row.ensures (sym c.is_fresh.ensures ∙ w.if-is_fresh.true) w.push.ensures)
      | else-is_fresh w ↦ rw (w.cache-is, w.w-is) (gathers-gone _ _ _ _ _ _ _ _ c.loop-i.invariant c.loop-i-test.true (ap (λ (x : Held). young c.args.ttl c.args.time x.since) (sym c.load_row-row.ensures) ∙ sym c.is_fresh.ensures ∙ w.if-is_fresh.false))
    ]
