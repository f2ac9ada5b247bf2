-- `codes::refuse` meets its contract: a refusal is told. Assumes nothing.
use Rattle.host.specs.Results.{says-by, refusal-words}
use Rattle.host.proofs.codes.refuse.Goals as goal

pub returns : goal.returns
returns c = says-by c.put.ensures (refusal-words _ _ c.declined.ensures)
