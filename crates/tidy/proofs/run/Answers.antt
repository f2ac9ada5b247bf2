-- `run` meets its contract: by the theorem of all reads (Whole).
use Rattle.std.proofs.Common.{arith}
use Rattle.tidy.specs.Whole.{tidies-input}
use Rattle.tidy.proofs.run.Goals as goal

pub returns : goal.returns
returns g c = tidies-input (omega arith) c.serve.ensures
