-- `ExpiringCache::first_slot` meets its contract: the word, or the last slot that leaves enough. Assumes nothing.
use Rattle.std.proofs.Common.{refl, arith}
use Rattle.expiring_cache.specs.Layout.{first-zero, first_some, ok-slots}
use Rattle.expiring_cache.proofs.ExpiringCache.first_slot.Goals as goal

pub returns-then-self-eq0 : goal.returns-then-self-eq0
returns-then-self-eq0 c = (first-zero _ _ c.if-self-eq0.true, omega (arith, c.if-self-eq0.true))

pub returns : goal.returns
returns c = (first_some _ _ _ _ _ c.if-self-eq0.false c.slot_count-slots.ensures refl c.min.ensures, omega (arith, c.min.ensures, c.slot_count-slots.ensures, ok-slots _ _ c.args.self.now.fits))
