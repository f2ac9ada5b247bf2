-- `ExpiringCacheMut::add` meets its contract: the oldest are behind the window's start, and the row is put behind the others (`added`). Assumes nothing.
use Rattle.std.proofs.Common.{refl}
use Rattle.expiring_cache.specs.Layout.{held_of}
use Rattle.expiring_cache.specs.Adding.{added}
use Rattle.expiring_cache.proofs.ExpiringCacheMut.add.Goals as goal

pub returns-clause-added : goal.returns-clause-added
unfolding held_of
returns-clause-added c =
    added c.args.self.now.words.now _ _ _ c.args.self.now.rows _ _ _ _ c.args.capacity _ c.args.self.now.fits c.requires c.excess-k.ensures refl c.make_room-first.auto.cache c.push.auto.cache
    (rw (c.cache.ensures.0, c.cache.ensures.1) at c.first_slot.ensures.0) c.make_room-first.ensures c.push.ensures c.put_first.ensures
