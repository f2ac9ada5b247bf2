-- `returns::return_to_pool` meets its contract: what is refused is the refusal of `returned`, else the transaction enters. Assumes nothing.
use mathlib.Core.Path.{ap}
use Rattle.pool_types.specs.Refusals.{code_of}
use Rattle.returns.specs.Laws.{return-stopped, return-entered}
use Rattle.returns.proofs.return_to_pool.Goals as goal

pub returns-in-Err-clause-return_promise : goal.returns-in-Err-clause-return_promise
returns-in-Err-clause-return_promise c = return-stopped _ _ _ _ _ _ _ c.check_return.ensures.value _ c.in-Err.is c.check_return.ensures.refusal_value

pub returns-clause-return_promise : goal.returns-clause-return_promise
returns-clause-return_promise c = return-entered _ _ _ _ _ _ _ c.check_return.ensures.value (ap code_of c.in_default.is) _ _ _ _ c.returned_entry-e.ensures c.enter.ensures
