-- `cleanup::next` meets its contract: none open, a count that does not fit, a candidate that is out; else what the search found. Assumes nothing.
use native.Mathlib.Omega.{arith}
use mathlib.Core.Path.{refl}
use Rattle.pool_types.specs.Outcomes.{next_of}
use Rattle.entries.specs.Layout.{ok-room}
use Rattle.cleanup.specs.Laws.{only-state, spares-offered, spares-closed, next-closed, next-unfit, next-again}
use Rattle.cleanup.proofs.PassLaws.{next-found, next-ended}
use Rattle.cleanup.proofs.next.Goals as goal

pub returns-then-not-pass-clause-next_promise : goal.returns-then-not-pass-clause-next_promise
returns-then-not-pass-clause-next_promise c = next-closed _ c.if-not-pass.true _

pub returns-then-entries_room-n-clause-next_promise : goal.returns-then-entries_room-n-clause-next_promise
returns-then-entries_room-n-clause-next_promise c = λ b k ys f. next-unfit _ _ b k ys (omega arith) f

pub returns-then-pass-clause-next_promise : goal.returns-then-pass-clause-next_promise
unfolding next_of
returns-then-pass-clause-next_promise c = λ b k ys f. next-again _ c.if-not-pass.false c.if-pass.true _ b k ys f refl

pub new-entries-requires : goal.new-entries-requires
new-entries-requires c = ok-room _ _ (omega arith)

pub returns-in-Some-clause-next_promise : goal.returns-in-Some-clause-next_promise
returns-in-Some-clause-next_promise c = next-found _ _ c.if-not-pass.false c.if-pass.false (rw (c.new-entries.ensures.0, c.new-entries.ensures.1) at c.first_due.ensures) _ _ c.in-Some.is (rw c.new-entries.ensures.0 at c.id_at.ensures) c.offer.ensures.pass_only

pub returns-in-Some-clause-by_index : goal.returns-in-Some-clause-by_index
returns-in-Some-clause-by_index c = λ b k ys a. spares-offered _ _ _ c.offer.ensures.pass_only

pub returns-in-Some-clause-mempool_value : goal.returns-in-Some-clause-mempool_value
returns-in-Some-clause-mempool_value c = only-state c.offer.ensures.pass_only

pub returns-in-None-clause-next_promise : goal.returns-in-None-clause-next_promise
returns-in-None-clause-next_promise c = next-ended _ _ c.if-not-pass.false c.if-pass.false (rw (c.new-entries.ensures.0, c.new-entries.ensures.1) at c.first_due.ensures) c.in-None.is c.end_pass.ensures.pass_only

pub returns-in-None-clause-by_index : goal.returns-in-None-clause-by_index
returns-in-None-clause-by_index c = λ b k ys a. spares-closed _ _ c.end_pass.ensures.pass_only

pub returns-in-None-clause-mempool_value : goal.returns-in-None-clause-mempool_value
returns-in-None-clause-mempool_value c = only-state c.end_pass.ensures.pass_only
