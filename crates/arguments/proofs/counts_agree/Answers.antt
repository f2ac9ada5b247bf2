-- `counts_agree` meets its contract: a sum that stops is a number of inputs exactly if the exact sum is. Assumes nothing.
use Rattle.std.proofs.Common.{arith}
use Rattle.arguments.specs.Laws.{totalled, total-agrees}
use Rattle.arguments.proofs.counts_agree.Goals as goal

pub returns : goal.returns
returns c = rw (c.total_inputs.ensures, totalled c.args.transactions.now, c.count_records.ensures) (total-agrees c.args.transactions.now c.args.inputs.now (omega arith))
