-- `submit` meets its contract: counts that do not fit have no claim but the outcome's; the first refusal of the tests is the one of `processed`, and with none the verdict is judged. Assumes nothing.
use mathlib.Core.Bool.{not}
use mathlib.Core.Path.{sym, ap, ◌∙◌}
use Rattle.pool_types.specs.Refusals.{code_of}
use Rattle.pool_types.specs.Refusals.{numbered}
use Rattle.checks.specs.Passed.{unpooled}
use Rattle.process.specs.Numbers.{refused-ours}
use Rattle.process.specs.Post.{stopped, goes_on}
use Rattle.store.specs.Fits.{fitted}
use Rattle.process.specs.Claims.{ready, claims-refused, placed, offers-nothing, offers}
use Rattle.process.proofs.submission.submit.Goals as goal

pub returns-then-not-fits_all : goal.returns-then-not-fits_all
returns-then-not-fits_all c = λ ys l q. offers-nothing _ _ _ _ _ c.fits_all.ensures ys l (ap not c.if-not-fits_all.true) c.unfit-refusal.ensures c.uncharged.ensures _ _

pub check-tested-requires : goal.check-tested-requires
check-tested-requires c = (ready _ _ _ _ _ c.fits_all.ensures (ap not c.if-not-fits_all.false)).tests

pub returns-in-Err : goal.returns-in-Err
returns-in-Err c =
    let test = c.fits_all.ensures in
    let left = ap not c.if-not-fits_all.false in
    let first = ap code_of c.in-Err.is in
    let tested = c.check-tested.ensures in
    λ ys l q.
    offers _ _ _ _ _ test ys l left (λ k. k)
    (λ k. stopped _ _ _ _ _ _ _ (placed ys c.args.sub k.fits l q) (sym first ∙ tested.value k.indexed) (numbered _))
    (claims-refused _ _ _ _ _ _ _ (refused-ours _ 0 (rw c.in-Err.is at tested.refusals_value)) c.uncharged-in-Err.ensures)

pub judge-requires-clause-ready : goal.judge-requires-clause-ready
judge-requires-clause-ready c = let f = ready _ _ _ _ _ c.fits_all.ensures (ap not c.if-not-fits_all.false) in f

pub returns-in-Ok : goal.returns-in-Ok
returns-in-Ok c =
    let test = c.fits_all.ensures in
    let left = ap not c.if-not-fits_all.false in
    let passes = ap code_of c.in-Ok.is in
    let tested = c.check-tested.ensures in
    λ ys l q.
    offers _ _ _ _ _ test ys l left (λ k. record { kept = k; new = unpooled _ _ _ _ _ _ _ _ _ _ _ (sym (tested.value k.indexed) ∙ passes) })
    (λ k. goes_on _ _ _ _ _ _ _ (placed ys c.args.sub k.fits l q) (tested.value k.indexed) passes)
    (c.judge.ensures ys (fitted _ _ _ ys _ _ l test left) (placed ys c.args.sub (fitted _ _ _ ys _ _ l test left) l q))
