-- `read::spending` meets its contract: field by field, then the end.
use Rattle.std.proofs.Common.{◌∙◌}
use Rattle.lines.specs.declared.read.Form.TheVariants as V
use Rattle.lines.specs.Fields as K
use Rattle.lines.specs.Forms as F
use Rattle.lines.specs.FormLaws as L
use Rattle.lines.proofs.read.spending.Goals as goal

pub returns-in_err-id : goal.returns-in_err-id
unfolding F.FormAt F.spending_of K.NoField K.IfEnds
returns-in_err-id c = λ d t s h.
    L.none-unread _ c.from_residual.ensures ∙ L.unread-gone _ _ (c.in_err-id.ensures d t _ h)

pub returns : goal.returns
unfolding F.FormAt F.spending_of K.NoField K.IfEnds
returns c = λ d t s h.
    let x0 = c.in_ok-id.ensures.is d t _ h in
    L.whole-as _ _ _ _ (L.or-unread _ _ _ (c.if_ends.ensures d t _ x0.1)) (λ i. V.Spending (x0.0 i))
