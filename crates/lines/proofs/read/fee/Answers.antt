-- `read::fee` meets its contract: field by field, then the end.
use Rattle.std.proofs.Common.{◌∙◌}
use Rattle.lines.specs.declared.read.Form.TheVariants as V
use Rattle.lines.specs.Fields as K
use Rattle.lines.specs.FieldLaws as W
use Rattle.lines.specs.Forms as F
use Rattle.lines.specs.FormLaws as L
use Rattle.lines.proofs.read.fee.Goals as goal

pub returns-in_err-minutes : goal.returns-in_err-minutes
unfolding F.FormAt F.fee_of K.NoField K.IfEnds
returns-in_err-minutes c = λ d t s h.
    L.none-unread _ c.from_residual.ensures ∙ L.unread-gone _ _ (W.then-gone K.number32 _ (c.in_err-minutes.ensures d t _ h))

pub returns-in_err-size : goal.returns-in_err-size
unfolding F.FormAt F.fee_of K.NoField K.IfEnds
returns-in_err-size c = λ d t s h.
    let x0 = c.in_ok-minutes.ensures.is d t _ h in
    L.none-unread _ c.from_residual-in_err-size.ensures ∙ L.unread-gone _ _ (c.in_err-size.ensures d t _ x0.1)

pub returns : goal.returns
unfolding F.FormAt F.fee_of K.NoField K.IfEnds
returns c = λ d t s h.
    let x0 = c.in_ok-minutes.ensures.is d t _ h in
    let x1 = c.in_ok-size.ensures.is d t _ x0.1 in
    L.whole-as _ _ _ _ (L.or-unread _ _ _ (c.if_ends.ensures d t _ x1.1)) (λ i. V.Fee (x0.0 i) (x1.0 i))
