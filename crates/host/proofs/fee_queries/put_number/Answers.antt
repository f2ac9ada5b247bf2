-- `fee_queries::put_number` meets its contract: a number is stored, a refusal changes nothing. Assumes nothing.
use Rattle.host.specs.Fees.{figure-number, figure-refused}
use Rattle.host.proofs.fee_queries.put_number.Goals as goal

pub returns-in-Ok : goal.returns-in-Ok
returns-in-Ok c = figure-number _ _ c.in-Ok.is

pub returns-in-Err : goal.returns-in-Err
returns-in-Err c = rw c.refusal_code.ensures (figure-refused _ _ c.in-Err.is)
