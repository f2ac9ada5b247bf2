-- `put_bin` meets its contract: two words (`put_words`). Assumes nothing.
use native.Mathlib.Omega.{arith}
use Rattle.fees.proofs.Laws.{put_words}
use Rattle.fees.proofs.put_bin.Goals as goal

pub returns : goal.returns
returns c = put_words _ _ _ _ (omega arith)
