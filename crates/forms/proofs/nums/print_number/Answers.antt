-- `nums::print_number` meets its contract: what `print` wrote is the one numeral of v (`shows-once`). Assumes nothing.
use Rattle.std.proofs.Common.{arith}
use Rattle.forms.specs.NumLaws as W
use Rattle.forms.proofs.nums.print_number.Goals as goal

pub returns : goal.returns
returns c = W.prints-number 10 c.args.v 20 c.args.at c.args.out.now _ _ (omega arith) c.print.ensures
