-- `read::open_pass` meets its contract: field by field, then the end.
use Rattle.std.proofs.Common.{◌∙◌}
use Rattle.lines.specs.declared.read.Form.TheVariants as V
use Rattle.lines.specs.Fields as K
use Rattle.lines.specs.FieldLaws as W
use Rattle.lines.specs.Forms as F
use Rattle.lines.specs.FormLaws as L
use Rattle.lines.proofs.read.open_pass.Goals as goal

pub returns-in_err-time : goal.returns-in_err-time
unfolding F.FormAt F.open_of K.NoField K.IfEnds
returns-in_err-time c = λ d t s h.
    L.none-unread _ c.from_residual.ensures ∙ L.unread-gone _ _ (W.then-gone K.number32 _ (W.then-gone K.number64 _ (c.in_err-time.ensures d t _ h)))

pub returns-in_err-limit : goal.returns-in_err-limit
unfolding F.FormAt F.open_of K.NoField K.IfEnds
returns-in_err-limit c = λ d t s h.
    let x0 = c.in_ok-time.ensures.is d t _ h in
    L.none-unread _ c.from_residual-in_err-limit.ensures ∙ L.unread-gone _ _ (W.then-gone K.number32 _ (c.in_err-limit.ensures d t _ x0.1))

pub returns-in_err-preheader : goal.returns-in_err-preheader
unfolding F.FormAt F.open_of K.NoField K.IfEnds
returns-in_err-preheader c = λ d t s h.
    let x0 = c.in_ok-time.ensures.is d t _ h in
    let x1 = c.in_ok-limit.ensures.is d t _ x0.1 in
    L.none-unread _ c.from_residual-in_err-preheader.ensures ∙ L.unread-gone _ _ (c.in_err-preheader.ensures d t _ x1.1)

pub returns : goal.returns
unfolding F.FormAt F.open_of K.NoField K.IfEnds
returns c = λ d t s h.
    let x0 = c.in_ok-time.ensures.is d t _ h in
    let x1 = c.in_ok-limit.ensures.is d t _ x0.1 in
    let x2 = c.in_ok-preheader.ensures.is d t _ x1.1 in
    L.whole-as _ _ _ _ (L.or-unread _ _ _ (c.if_ends.ensures d t _ x2.1)) (λ i. V.Open (x0.0 i) (x1.0 i) (x2.0 i))
