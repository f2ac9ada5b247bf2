-- `rebroadcast::select_for_rebroadcast` meets its contract: counts that do not fit are refused, and what the tests refuse is the refusal of `rebroadcast`;
-- else what was selected is written. Assumes nothing.
use mathlib.Core.Bool.{not}
use Rattle.std.proofs.lemmas.Result.{err_from_is_err_and}
use mathlib.Core.Path.{refl, ap}
use Rattle.pool_types.specs.Outcomes.{listed_of}
use Rattle.pool_types.specs.Refusals.{code_of}
use Rattle.pool.specs.Laws.{fits-true, fits-holds}
use Rattle.store.specs.Fits.{met, not-met}
use Rattle.cleanup.specs.Selecting.{sent-refused, sent-placed, sent-selected, told_wrote}
use Rattle.cleanup.proofs.rebroadcast.select_for_rebroadcast.Goals as goal

pub returns-then-not-fits-clause-rebroadcast_promise : goal.returns-then-not-fits-clause-rebroadcast_promise
returns-then-not-fits-clause-rebroadcast_promise c = λ k ys f _. not-met c.fits.ensures (ap not c.if-not-fits.true) (fits-holds _ _ _ f)

pub returns-in_err-check_rebroadcast-clause-rebroadcast_promise : goal.returns-in_err-check_rebroadcast-clause-rebroadcast_promise
returns-in_err-check_rebroadcast-clause-rebroadcast_promise c =
    let p = err_from_is_err_and c.from_residual.result c.from_residual.ensures.1 in
    rw (p.1, p.2) (λ k ys _ _. sent-refused _ _ _ _ c.check_rebroadcast.ensures.value _ _ k ys _ c.in_err-check_rebroadcast.was c.check_rebroadcast.ensures.refusal_value)

pub new-pool-requires : goal.new-pool-requires
new-pool-requires c = fits-true _ _ _ (met c.fits.ensures (ap not c.if-not-fits.false))

pub returns-clause-rebroadcast_promise : goal.returns-clause-rebroadcast_promise
returns-clause-rebroadcast_promise c = λ k ys _ g. sent-selected _ _ _ _ c.check_rebroadcast.ensures.value _ _ k ys (ap code_of c.in_ok-check_rebroadcast.was) _ _ (rw c.new-pool.ensures.2 at c.select.ensures.upper_bound)
    ((rw (c.new-pool.ensures.0, c.new-pool.ensures.1, c.new-pool.ensures.2, c.new.ensures.0, c.new.ensures.1) at c.select.ensures.selected) g)

pub returns-clause-told : goal.returns-clause-told
unfolding listed_of
returns-clause-told c = told_wrote _ _ _ refl (sent-placed c.args.answer.now _ c.args.confirmed.now _ c.check_rebroadcast.ensures.value (ap code_of c.in_ok-check_rebroadcast.was) (rw c.new-pool.ensures.2 at c.select.ensures.upper_bound))
