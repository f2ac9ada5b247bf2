-- `PoolMut::credit` meets its contract: the counts fit as many words. Assumes nothing.
use Rattle.std.proofs.Common.{refl, arith}
use Rattle.pool.specs.Steps.{fits_same}
use Rattle.pool.proofs.lent.PoolMut.credit.Goals as goal

pub invariant_of-self : goal.invariant_of-self
invariant_of-self c = record { fits = fits_same _ _ _ _ _ c.args.self.now.fits (omega arith) refl }
