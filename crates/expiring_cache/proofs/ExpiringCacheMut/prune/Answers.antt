-- `ExpiringCacheMut::prune` meets its contract: all stay where they are, or those that are held are moved to the front. Assumes nothing.
use Rattle.expiring_cache.specs.Adding.{pruned-same, pruned-moved}
use Rattle.expiring_cache.specs.Gathering.{fresh-all}
use Rattle.std.proofs.Common.{refl, sym, ◌∙◌, rules}
use Rattle.expiring_cache.proofs.ExpiringCacheMut.prune.Goals as goal

pub returns-then-all_fresh-clause-pruned : goal.returns-then-all_fresh-clause-pruned
returns-then-all_fresh-clause-pruned c = λ k. pruned-same _ _ _ _ _ c.args.self.now.fits refl k (fresh-all _ _ _ _ _ (sym (rw (c.cache.ensures.0, c.cache.ensures.1) at c.all_fresh.ensures) ∙ c.if-all_fresh.true))

pub returns-clause-pruned : goal.returns-clause-pruned
returns-clause-pruned c =
    pruned-moved _ _ _ _ _ c.args.self.now.fits (rw (c.cache-2.ensures.0, c.cache-2.ensures.1) at c.first_slot-first.ensures.0) _ _ _ (search rules) c.gather-self.auto.cache c.gather-self.ensures c.put_first.ensures
