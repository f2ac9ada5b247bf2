-- `run` meets its contract: by the theorem of all reads (Whole).
use Rattle.std.proofs.Common.{arith}
use Rattle.console.specs.Laws.{holds-nothing}
use Rattle.poolrun.specs.Whole.{plays-input}
use Rattle.poolrun.proofs.run.Goals as goal

pub serve-requires : goal.serve-requires
serve-requires g c = holds-nothing _ _ _ _ _ (omega arith) (omega arith)

pub returns : goal.returns
returns g c = plays-input (omega arith) c.serve.ensures
