-- `read::rebroadcast` meets its contract: field by field, then the end.
use Rattle.std.proofs.Common.{◌∙◌}
use Rattle.lines.specs.declared.read.Form.TheVariants as V
use Rattle.lines.specs.Fields as K
use Rattle.lines.specs.Items as I
use Rattle.lines.specs.Blocks as B
use Rattle.lines.specs.Forms as F
use Rattle.lines.specs.FormLaws as L
use Rattle.lines.proofs.read.rebroadcast.Goals as goal

pub returns-in_err-boxes : goal.returns-in_err-boxes
unfolding F.rebroadcast_of F.rebroadcast_one K.NoField K.NoVerdict K.IfEnds I.NoListed B.NoBlock
returns-in_err-boxes c = record {
  is = λ t s h.
      L.none-unread _ c.from_residual.ensures ∙ L.unread-gone _ _ (c.in_err-boxes.ensures t _ h);
  one = λ o. L.none-no _ c.from_residual.ensures o;
}

pub returns : goal.returns
unfolding F.rebroadcast_of F.rebroadcast_one K.NoField K.NoVerdict K.IfEnds I.NoListed B.NoBlock
returns c = record {
  is = λ t s h.
      let x0 = c.in_ok-boxes.ensures.is t _ h in
      L.whole-as _ _ _ _ (L.or-unread _ _ _ (c.if_ends.ensures 7 t _ x0.1)) (λ i. V.Rebroadcast (x0.0 i));
  one = λ o t s h.
      c.in_ok-boxes.ensures.wrote t _ h;
}
