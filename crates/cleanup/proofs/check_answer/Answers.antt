-- `cleanup::check_answer` meets its contract: the records are looked at only where the counts fit. Assumes nothing.
use mathlib.Core.Path.{sym, ◌∙◌}
use Rattle.store.specs.Fits.{cache-fits}
use Rattle.cleanup.proofs.check_answer.Goals as goal

pub new-boxes-requires : goal.new-boxes-requires
new-boxes-requires c = (cache-fits _ _ _ _ (sym c.fits_cache.ensures ∙ c.if-not-fits_cache.false)).0.pool.boxes

pub returns-clause-fits : goal.returns-clause-fits
returns-clause-fits c = λ z. cache-fits _ _ _ _ (sym c.fits_cache.ensures ∙ c.if-not-fits_cache.false)
