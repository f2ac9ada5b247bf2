-- `PoolMut::evict_lowest` meets its contract, from what its calls leave (`lowered`). Assumes nothing.
use Rattle.std.proofs.Common.{refl, arith}
use Rattle.pool.specs.Steps.{fewer-fit, lowered}
use Rattle.pool.proofs.lent.PoolMut.evict_lowest.Goals as goal

pub invariant_of-self : goal.invariant_of-self
invariant_of-self c = record { fits = (fewer-fit _ _ _ _ _ _ _ c.args.self.now.fits refl (omega arith) (omega arith) c.drop_owner-self.ensures.upper_bound).fits }

pub invariant_of-self-2 : goal.invariant_of-self-2
invariant_of-self-2 c = record { fits = (fewer-fit _ _ _ _ _ _ _ c.args.self.now.fits (omega arith) (omega arith) (omega arith) c.drop_owner-self.ensures.upper_bound).fits }

pub returns-clause-left : goal.returns-clause-left
returns-clause-left c k =
    let less = fewer-fit _ _ _ _ _ _ _ c.args.self.now.fits (omega arith) (omega arith) (omega arith) c.drop_owner-self.ensures.upper_bound in
    lowered _ _ _ _ _ _ _ less.fits (rw (c.entries.ensures.0, c.entries.ensures.1) at c.lowest_id-low.ensures) (c.remove_lowest.ensures k.entries) (c.drop_owner-self.ensures.dropped k.boxes)
