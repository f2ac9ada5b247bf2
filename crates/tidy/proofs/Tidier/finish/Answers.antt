-- `finish` meets its contract: the last line comes out without a newline.
use Rattle.tidy.specs.Loop.{finishes-is}
use Rattle.tidy.proofs.Tidier.finish.Goals as goal

pub returns : goal.returns
returns g c = finishes-is _ _ _ c.ending-len.ensures.same_state c.ending-len.ensures.outs c.hand_last.ensures
