-- `read::answer` meets its contract: field by field, then the end.
use Rattle.std.proofs.Common.{◌∙◌}
use Rattle.lines.specs.declared.read.Form.TheVariants as V
use Rattle.lines.specs.Fields as K
use Rattle.lines.specs.Items as I
use Rattle.lines.specs.Blocks as B
use Rattle.lines.specs.Forms as F
use Rattle.lines.specs.FormLaws as L
use Rattle.lines.proofs.read.answer.Goals as goal

pub returns-in_err-flags : goal.returns-in_err-flags
unfolding F.answer_of F.answer_one K.NoField K.NoVerdict K.IfEnds I.NoListed B.NoBlock
returns-in_err-flags c = record {
  is = λ t s h.
      L.none-unread _ c.from_residual.ensures ∙ L.unread-gone _ _ (L.verdict-then _ (c.in_err-flags.ensures t _ h));
  one = λ o. L.none-no _ c.from_residual.ensures o;
}

pub returns-in_err-verdict : goal.returns-in_err-verdict
unfolding F.answer_of F.answer_one K.NoField K.NoVerdict K.IfEnds I.NoListed B.NoBlock
returns-in_err-verdict c = record {
  is = λ t s h.
      let x0 = c.in_ok-flags.ensures.is t _ h in
      L.none-unread _ c.from_residual-in_err-verdict.ensures ∙ L.unread-gone _ _ (c.in_err-verdict.ensures t _ x0.1);
  one = λ o. L.none-no _ c.from_residual-in_err-verdict.ensures o;
}

pub returns : goal.returns
unfolding F.answer_of F.answer_one K.NoField K.NoVerdict K.IfEnds I.NoListed B.NoBlock
returns c = record {
  is = λ t s h.
      let x0 = c.in_ok-flags.ensures.is t _ h in
      let x1 = c.in_ok-verdict.ensures.is t _ x0.1 in
      L.whole-as _ _ _ _ (L.or-unread _ _ _ (c.if_ends.ensures 7 t _ x1.1)) (λ i. V.Answer (x0.0 i) (x1.0 i));
  one = λ o t s h.
      c.in_ok-flags.ensures.wrote t _ h;
}
