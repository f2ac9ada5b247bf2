-- `returns::check_return` meets its contract: where the counts pass the test they fit. Assumes nothing.
use mathlib.Core.Path.{sym, ap, ◌∙◌}
use mathlib.Core.Bool.{not}
use Rattle.pool.specs.Laws.{fits-true, fits-holds}
use Rattle.store.specs.Fits.{not-met}
use Rattle.returns.proofs.check_return.Goals as goal

pub returns-then-not-fits-clause-value : goal.returns-then-not-fits-clause-value
returns-then-not-fits-clause-value c = λ f k. not-met c.fits.ensures (ap not c.if-not-fits.true) (fits-holds _ _ _ f)

pub new-pool-requires : goal.new-pool-requires
new-pool-requires c = fits-true _ _ _ (sym c.fits.ensures ∙ c.if-not-fits.false)
