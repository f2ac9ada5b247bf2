-- `read::histogram` meets its contract: field by field, then the end.
use Rattle.std.proofs.Common.{◌∙◌}
use Rattle.lines.specs.declared.read.Form.TheVariants as V
use Rattle.lines.specs.Fields as K
use Rattle.lines.specs.FieldLaws as W
use Rattle.lines.specs.Forms as F
use Rattle.lines.specs.FormLaws as L
use Rattle.lines.proofs.read.histogram.Goals as goal

pub returns-in_err-time : goal.returns-in_err-time
unfolding F.FormAt F.histogram_of K.NoField K.IfEnds
returns-in_err-time c = λ d t s h.
    L.none-unread _ c.from_residual.ensures ∙ L.unread-gone _ _ (W.then-gone K.number64 _ (W.then-gone K.number32 _ (c.in_err-time.ensures d t _ h)))

pub returns-in_err-bins : goal.returns-in_err-bins
unfolding F.FormAt F.histogram_of K.NoField K.IfEnds
returns-in_err-bins c = λ d t s h.
    let x0 = c.in_ok-time.ensures.is d t _ h in
    L.none-unread _ c.from_residual-in_err-bins.ensures ∙ L.unread-gone _ _ (W.then-gone K.number64 _ (c.in_err-bins.ensures d t _ x0.1))

pub returns-in_err-longest : goal.returns-in_err-longest
unfolding F.FormAt F.histogram_of K.NoField K.IfEnds
returns-in_err-longest c = λ d t s h.
    let x0 = c.in_ok-time.ensures.is d t _ h in
    let x1 = c.in_ok-bins.ensures.is d t _ x0.1 in
    L.none-unread _ c.from_residual-in_err-longest.ensures ∙ L.unread-gone _ _ (c.in_err-longest.ensures d t _ x1.1)

pub returns : goal.returns
unfolding F.FormAt F.histogram_of K.NoField K.IfEnds
returns c = λ d t s h.
    let x0 = c.in_ok-time.ensures.is d t _ h in
    let x1 = c.in_ok-bins.ensures.is d t _ x0.1 in
    let x2 = c.in_ok-longest.ensures.is d t _ x1.1 in
    L.whole-as _ _ _ _ (L.or-unread _ _ _ (c.if_ends.ensures d t _ x2.1)) (λ i. V.Histogram (x0.0 i) (x1.0 i) (x2.0 i))
