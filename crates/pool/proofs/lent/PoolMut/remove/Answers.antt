-- `PoolMut::remove` meets its contract: whether the id was pooled shows in the count of entries (`removed-nothing`, `removed-both`). Assumes nothing.
use Rattle.std.proofs.Common.{refl, arith}
use Rattle.pool.specs.Steps.{fits_same, fewer-fit, removed-nothing, removed-both}
use Rattle.pool.proofs.lent.PoolMut.remove.Goals as goal

pub invariant_of-self : goal.invariant_of-self
invariant_of-self c = record { fits = fits_same _ _ _ _ _ c.args.self.now.fits (omega arith) refl }

pub returns-then-pooled-self-clause-left : goal.returns-then-pooled-self-clause-left
returns-then-pooled-self-clause-left c k =
    removed-nothing _ _ _ _ _ _ k.boxes (c.remove_entry-pooled.ensures.left k.entries) (fits_same _ _ _ _ _ c.args.self.now.fits (omega arith) refl) c.if-pooled-self.true

pub invariant_of-self-2 : goal.invariant_of-self-2
invariant_of-self-2 c = record { fits = (fewer-fit _ _ _ _ _ _ _ c.args.self.now.fits (omega arith) refl c.remove_entry-pooled.ensures.upper_bound (omega arith)).fits }

pub invariant_of-self-3 : goal.invariant_of-self-3
invariant_of-self-3 c =
    record { fits = (fewer-fit _ _ _ _ _ _ _ c.args.self.now.fits (omega arith) (omega arith) c.remove_entry-pooled.ensures.upper_bound c.drop_owner-self.ensures.upper_bound).fits }

pub returns-clause-left : goal.returns-clause-left
returns-clause-left c k =
    let less = fewer-fit _ _ _ _ _ _ _ c.args.self.now.fits (omega arith) (omega arith) c.remove_entry-pooled.ensures.upper_bound c.drop_owner-self.ensures.upper_bound in
    removed-both _ _ _ _ _ _ k.boxes (c.remove_entry-pooled.ensures.left k.entries) _ _ less.fits c.if-pooled-self.false (c.drop_owner-self.ensures.dropped k.boxes)
