-- `store::fits_all` meets its contract: each return is the chain of `all_fit`, answered by the tests before it and its own. Assumes nothing.
use borrow.Author.Tests.{lt-ltb, le-ltb}
use mathlib.Core.Path.{sym, ap, ◌∙◌}
use mathlib.Core.Bool.{not}
use Rattle.words.specs.Lists.{yes, no}
use Rattle.store.specs.Fits.{all_fit}
use Rattle.store.proofs.fits_all.Goals as goal

pub returns-then-not-fits_cache : goal.returns-then-not-fits_cache
unfolding all_fit
returns-then-not-fits_cache c = sym (yes _ _ _ (ap not (sym c.fits_cache.ensures ∙ c.if-not-fits_cache.true)))

pub returns-then-records-lt-PEER_RECORDS : goal.returns-then-records-lt-PEER_RECORDS
unfolding all_fit
returns-then-records-lt-PEER_RECORDS c = sym (
    no _ _ _ (ap not (sym c.fits_cache.ensures ∙ c.if-not-fits_cache.false)) ∙
    yes _ _ _ (lt-ltb _ _ c.if-records-lt-PEER_RECORDS.true))

pub returns : goal.returns
unfolding all_fit
returns c = sym (
    no _ _ _ (ap not (sym c.fits_cache.ensures ∙ c.if-not-fits_cache.false)) ∙
    no _ _ _ (le-ltb _ _ c.if-records-lt-PEER_RECORDS.false))
