-- `returns::invalidate` meets its contract: an open pass and counts that do not fit change nothing; else the transaction leaves and its id is
-- remembered. Assumes nothing.
use mathlib.Core.Bool.{not}
use mathlib.Core.Path.{sym, ap, ◌∙◌}
use Rattle.store.specs.Fits.{not-met, cache-fits, cache-holds}
use Rattle.returns.specs.Laws.{invalidate-stopped, remember-asks, invalidate-done}
use Rattle.returns.proofs.invalidate.Goals as goal

pub returns-then-mempool-clause-invalidate_promise : goal.returns-then-mempool-clause-invalidate_promise
returns-then-mempool-clause-invalidate_promise c = invalidate-stopped _ _ _ _ _ _ c.if-mempool.true

pub returns-then-not-fits_cache-clause-invalidate_promise : goal.returns-then-not-fits_cache-clause-invalidate_promise
returns-then-not-fits_cache-clause-invalidate_promise c = λ ys f. not-met c.fits_cache.ensures (ap not c.if-not-fits_cache.true) (cache-holds _ _ _ _ ys f.fits)

pub take_out-without-requires : goal.take_out-without-requires
take_out-without-requires c = (cache-fits _ _ _ _ (sym c.fits_cache.ensures ∙ c.if-not-fits_cache.false)).0.pool

pub remember-requires : goal.remember-requires
remember-requires c =
    let f = cache-fits _ _ _ _ (sym c.fits_cache.ensures ∙ c.if-not-fits_cache.false) in
    let r = remember-asks _ c.args.mempool _ c.take_out-without.ensures.value f.0.cache f.1 in
    record { cache_ok = r.0; invalidation_capacity_bound = r.1 }

pub returns-clause-invalidate_promise : goal.returns-clause-invalidate_promise
returns-clause-invalidate_promise c = invalidate-done _ _ _ _ _ _ _ c.take_out-without.ensures.value _ _ c.take_out-without.ensures.tabled c.if-mempool.false _ _ c.remember.ensures.cached
