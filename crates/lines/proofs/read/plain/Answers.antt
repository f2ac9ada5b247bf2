-- `read::plain` meets its contract: the list ends.
use Rattle.lines.specs.Fields as K
use Rattle.lines.specs.Forms as F
use Rattle.lines.specs.FormLaws as L
use Rattle.lines.proofs.read.plain.Goals as goal

pub returns : goal.returns
unfolding F.FormAt F.plain_of K.IfEnds
returns c = λ d t s h. L.or-unread _ _ _ (c.if_ends.ensures d t _ h)
