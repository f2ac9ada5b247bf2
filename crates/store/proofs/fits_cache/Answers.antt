-- `store::fits_cache` meets its contract: each return is the chain of `cache_fits`, answered by the tests before it and its own. Assumes nothing.
use mathlib.Core.Path.{refl, sym, ap, ◌∙◌}
use mathlib.Core.Bool.{not}
use Rattle.words.specs.Lists.{yes, no}
use Rattle.store.specs.Fits.{cache_fits, lt_by, le-by, no_room_left, some-room}
use Rattle.store.proofs.fits_cache.Goals as goal

pub returns-then-not-fits : goal.returns-then-not-fits
unfolding cache_fits
returns-then-not-fits c = sym (yes _ _ _ (ap not (sym c.fits.ensures ∙ c.if-not-fits.true)))

pub returns-then-room-mempool : goal.returns-then-room-mempool
unfolding cache_fits
returns-then-room-mempool c = sym (
    no _ _ _ (ap not (sym c.fits.ensures ∙ c.if-not-fits.false)) ∙
    yes _ _ _ (lt_by _ _ c.cache_room-room.ensures refl c.if-room-mempool.true))

pub returns-then-room-eq0 : goal.returns-then-room-eq0
unfolding cache_fits
returns-then-room-eq0 c = sym (
    no _ _ _ (ap not (sym c.fits.ensures ∙ c.if-not-fits.false)) ∙
    no _ _ _ (le-by _ _ c.cache_room-room.ensures refl c.if-room-mempool.false) ∙
    no_room_left _ _ c.cache_room-room.ensures c.if-room-eq0.true)

pub returns : goal.returns
unfolding cache_fits
returns c =
    some-room _ _ c.cache_room-room.ensures c.if-room-eq0.false ∙
    sym (
    no _ _ _ (ap not (sym c.fits.ensures ∙ c.if-not-fits.false)) ∙
    no _ _ _ (le-by _ _ c.cache_room-room.ensures refl c.if-room-mempool.false))
