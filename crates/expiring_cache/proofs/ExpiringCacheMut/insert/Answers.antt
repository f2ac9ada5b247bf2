-- `ExpiringCacheMut::insert` meets its contract: the two arms of `remember`, by what `has` says. Assumes nothing.
use Rattle.std.proofs.Common.{sym, ◌∙◌}
use Rattle.expiring_cache.specs.Adding.{inserted-one}
use Rattle.expiring_cache.proofs.ExpiringCacheMut.insert.Goals as goal

pub returns-clause-inserted : goal.returns-clause-inserted
returns-clause-inserted c = λ k. inserted-one _ _ _ _ _ k _ _ (sym (rw (c.cache.ensures.0, c.cache.ensures.1) at c.has.ensures k) ∙ c.if-has.false) c.add.ensures.added
