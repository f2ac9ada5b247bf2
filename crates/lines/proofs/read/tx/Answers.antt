-- `read::tx` meets its contract: field by field, then the end.
use Rattle.std.proofs.Common.{◌∙◌}
use Rattle.lines.specs.declared.read.Form.TheVariants as V
use Rattle.lines.specs.declared.items.Records.TheVariants as R
use Rattle.lines.specs.Fields as K
use Rattle.lines.specs.Items as I
use Rattle.lines.specs.Blocks as B
use Rattle.lines.specs.FieldLaws as W
use Rattle.lines.specs.Forms as F
use Rattle.lines.specs.FormLaws as L
use Rattle.lines.proofs.read.tx.Goals as goal

pub returns-in_err-time : goal.returns-in_err-time
unfolding F.tx_of F.tx_one F.tx_two F.tx_lists K.NoField K.NoVerdict K.IfEnds I.NoListed B.NoBlock
returns-in_err-time c = record {
  is = λ t s h.
      L.none-unread _ c.from_residual.ensures ∙ L.unread-gone _ _ (L.verdict-then _ (L.items-then (I.item_of R.Outputs) _ _ (L.items-then (I.item_of R.Inputs) _ _ (W.then-gone K.number32 _ (W.then-gone K.number64 _ (W.then-gone (K.optional F.w_local) _ (W.then-gone K.ids _ (c.in_err-time.ensures 7 t _ h))))))));
  one = λ o. L.none-no _ c.from_residual.ensures o;
  two = λ o. L.none-no _ c.from_residual.ensures o;
}

pub returns-in_err-id : goal.returns-in_err-id
unfolding F.tx_of F.tx_one F.tx_two F.tx_lists K.NoField K.NoVerdict K.IfEnds I.NoListed B.NoBlock
returns-in_err-id c = record {
  is = λ t s h.
      let x0 = c.in_ok-time.ensures.is 7 t _ h in
      L.none-unread _ c.from_residual-in_err-id.ensures ∙ L.unread-gone _ _ (L.verdict-then _ (L.items-then (I.item_of R.Outputs) _ _ (L.items-then (I.item_of R.Inputs) _ _ (W.then-gone K.number32 _ (W.then-gone K.number64 _ (W.then-gone (K.optional F.w_local) _ (c.in_err-id.ensures 7 t _ x0.1)))))));
  one = λ o. L.none-no _ c.from_residual-in_err-id.ensures o;
  two = λ o. L.none-no _ c.from_residual-in_err-id.ensures o;
}

pub returns-in_err-peer : goal.returns-in_err-peer
unfolding F.tx_of F.tx_one F.tx_two F.tx_lists K.NoField K.NoVerdict K.IfEnds I.NoListed B.NoBlock
returns-in_err-peer c = record {
  is = λ t s h.
      let x0 = c.in_ok-time.ensures.is 7 t _ h in
      let x1 = c.in_ok-id.ensures.is 7 t _ x0.1 in
      L.none-unread _ c.from_residual-in_err-peer.ensures ∙ L.unread-gone _ _ (L.verdict-then _ (L.items-then (I.item_of R.Outputs) _ _ (L.items-then (I.item_of R.Inputs) _ _ (W.then-gone K.number32 _ (W.then-gone K.number64 _ (c.in_err-peer.ensures 7 t _ x1.1))))));
  one = λ o. L.none-no _ c.from_residual-in_err-peer.ensures o;
  two = λ o. L.none-no _ c.from_residual-in_err-peer.ensures o;
}

pub returns-in_err-size : goal.returns-in_err-size
unfolding F.tx_of F.tx_one F.tx_two F.tx_lists K.NoField K.NoVerdict K.IfEnds I.NoListed B.NoBlock
returns-in_err-size c = record {
  is = λ t s h.
      let x0 = c.in_ok-time.ensures.is 7 t _ h in
      let x1 = c.in_ok-id.ensures.is 7 t _ x0.1 in
      let x2 = c.in_ok-peer.ensures.is 7 t _ x1.1 in
      L.none-unread _ c.from_residual-in_err-size.ensures ∙ L.unread-gone _ _ (L.verdict-then _ (L.items-then (I.item_of R.Outputs) _ _ (L.items-then (I.item_of R.Inputs) _ _ (W.then-gone K.number32 _ (c.in_err-size.ensures 7 t _ x2.1)))));
  one = λ o. L.none-no _ c.from_residual-in_err-size.ensures o;
  two = λ o. L.none-no _ c.from_residual-in_err-size.ensures o;
}

pub returns-in_err-preheader : goal.returns-in_err-preheader
unfolding F.tx_of F.tx_one F.tx_two F.tx_lists K.NoField K.NoVerdict K.IfEnds I.NoListed B.NoBlock
returns-in_err-preheader c = record {
  is = λ t s h.
      let x0 = c.in_ok-time.ensures.is 7 t _ h in
      let x1 = c.in_ok-id.ensures.is 7 t _ x0.1 in
      let x2 = c.in_ok-peer.ensures.is 7 t _ x1.1 in
      let x3 = c.in_ok-size.ensures.is 7 t _ x2.1 in
      L.none-unread _ c.from_residual-in_err-preheader.ensures ∙ L.unread-gone _ _ (L.verdict-then _ (L.items-then (I.item_of R.Outputs) _ _ (L.items-then (I.item_of R.Inputs) _ _ (c.in_err-preheader.ensures 7 t _ x3.1))));
  one = λ o. L.none-no _ c.from_residual-in_err-preheader.ensures o;
  two = λ o. L.none-no _ c.from_residual-in_err-preheader.ensures o;
}

pub returns-in_err-inputs : goal.returns-in_err-inputs
unfolding F.tx_of F.tx_one F.tx_two F.tx_lists K.NoField K.NoVerdict K.IfEnds I.NoListed B.NoBlock
returns-in_err-inputs c = record {
  is = λ t s h.
      let x0 = c.in_ok-time.ensures.is 7 t _ h in
      let x1 = c.in_ok-id.ensures.is 7 t _ x0.1 in
      let x2 = c.in_ok-peer.ensures.is 7 t _ x1.1 in
      let x3 = c.in_ok-size.ensures.is 7 t _ x2.1 in
      let x4 = c.in_ok-preheader.ensures.is 7 t _ x3.1 in
      L.none-unread _ c.from_residual-in_err-inputs.ensures ∙ L.unread-gone _ _ (L.verdict-then _ (L.items-then (I.item_of R.Outputs) _ _ (c.in_err-inputs.ensures t _ x4.1)));
  one = λ o. L.none-no _ c.from_residual-in_err-inputs.ensures o;
  two = λ o. L.none-no _ c.from_residual-in_err-inputs.ensures o;
}

pub returns-in_err-outputs : goal.returns-in_err-outputs
unfolding F.tx_of F.tx_one F.tx_two F.tx_lists K.NoField K.NoVerdict K.IfEnds I.NoListed B.NoBlock
returns-in_err-outputs c = record {
  is = λ t s h.
      let x0 = c.in_ok-time.ensures.is 7 t _ h in
      let x1 = c.in_ok-id.ensures.is 7 t _ x0.1 in
      let x2 = c.in_ok-peer.ensures.is 7 t _ x1.1 in
      let x3 = c.in_ok-size.ensures.is 7 t _ x2.1 in
      let x4 = c.in_ok-preheader.ensures.is 7 t _ x3.1 in
      let x5 = c.in_ok-inputs.ensures.is t _ x4.1 in
      L.none-unread _ c.from_residual-in_err-outputs.ensures ∙ L.unread-gone _ _ (L.verdict-then _ (c.in_err-outputs.ensures t _ x5.1));
  one = λ o. L.none-no _ c.from_residual-in_err-outputs.ensures o;
  two = λ o. L.none-no _ c.from_residual-in_err-outputs.ensures o;
}

pub returns-in_err-verdict : goal.returns-in_err-verdict
unfolding F.tx_of F.tx_one F.tx_two F.tx_lists K.NoField K.NoVerdict K.IfEnds I.NoListed B.NoBlock
returns-in_err-verdict c = record {
  is = λ t s h.
      let x0 = c.in_ok-time.ensures.is 7 t _ h in
      let x1 = c.in_ok-id.ensures.is 7 t _ x0.1 in
      let x2 = c.in_ok-peer.ensures.is 7 t _ x1.1 in
      let x3 = c.in_ok-size.ensures.is 7 t _ x2.1 in
      let x4 = c.in_ok-preheader.ensures.is 7 t _ x3.1 in
      let x5 = c.in_ok-inputs.ensures.is t _ x4.1 in
      let x6 = c.in_ok-outputs.ensures.is t _ x5.1 in
      L.none-unread _ c.from_residual-in_err-verdict.ensures ∙ L.unread-gone _ _ (c.in_err-verdict.ensures t _ x6.1);
  one = λ o. L.none-no _ c.from_residual-in_err-verdict.ensures o;
  two = λ o. L.none-no _ c.from_residual-in_err-verdict.ensures o;
}

pub returns : goal.returns
unfolding F.tx_of F.tx_one F.tx_two F.tx_lists K.NoField K.NoVerdict K.IfEnds I.NoListed B.NoBlock
returns c = record {
  is = λ t s h.
      let x0 = c.in_ok-time.ensures.is 7 t _ h in
      let x1 = c.in_ok-id.ensures.is 7 t _ x0.1 in
      let x2 = c.in_ok-peer.ensures.is 7 t _ x1.1 in
      let x3 = c.in_ok-size.ensures.is 7 t _ x2.1 in
      let x4 = c.in_ok-preheader.ensures.is 7 t _ x3.1 in
      let x5 = c.in_ok-inputs.ensures.is t _ x4.1 in
      let x6 = c.in_ok-outputs.ensures.is t _ x5.1 in
      let x7 = c.in_ok-verdict.ensures.is t _ x6.1 in
      L.whole-as _ _ _ _ (L.or-unread _ _ _ (c.if_ends.ensures 7 t _ x7.1)) (λ i. V.Tx (record { time = x0.0 i; id = x1.0 i; peer = x2.0 i; size = x3.0 i; preheader = x4.0 i; inputs = x5.0 i; outputs = x6.0 i; verdict = x7.0 i }));
  one = λ o t s h.
      let x0 = c.in_ok-time.ensures.is 7 t _ h in
      let x1 = c.in_ok-id.ensures.is 7 t _ x0.1 in
      let x2 = c.in_ok-peer.ensures.is 7 t _ x1.1 in
      let x3 = c.in_ok-size.ensures.is 7 t _ x2.1 in
      let x4 = c.in_ok-preheader.ensures.is 7 t _ x3.1 in
      c.in_ok-inputs.ensures.wrote t _ x4.1;
  two = λ o t s h.
      let x0 = c.in_ok-time.ensures.is 7 t _ h in
      let x1 = c.in_ok-id.ensures.is 7 t _ x0.1 in
      let x2 = c.in_ok-peer.ensures.is 7 t _ x1.1 in
      let x3 = c.in_ok-size.ensures.is 7 t _ x2.1 in
      let x4 = c.in_ok-preheader.ensures.is 7 t _ x3.1 in
      let x5 = c.in_ok-inputs.ensures.is t _ x4.1 in
      c.in_ok-outputs.ensures.wrote t _ x5.1;
}
