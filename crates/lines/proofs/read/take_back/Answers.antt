-- `read::take_back` meets its contract: field by field, then the end.
use Rattle.std.proofs.Common.{◌∙◌}
use Rattle.lines.specs.declared.read.Form.TheVariants as V
use Rattle.lines.specs.declared.items.Records.TheVariants as R
use Rattle.lines.specs.Fields as K
use Rattle.lines.specs.Items as I
use Rattle.lines.specs.Blocks as B
use Rattle.lines.specs.FieldLaws as W
use Rattle.lines.specs.Forms as F
use Rattle.lines.specs.FormLaws as L
use Rattle.lines.proofs.read.take_back.Goals as goal

pub returns-in_err-id : goal.returns-in_err-id
unfolding F.return_of F.return_one F.return_two F.return_lists K.NoField K.NoVerdict K.IfEnds I.NoListed B.NoBlock
returns-in_err-id c = record {
  is = λ t s h.
      L.none-unread _ c.from_residual.ensures ∙ L.unread-gone _ _ (L.items-then (I.item_of R.Heights) _ _ (L.items-then (I.item_of R.Boxes) _ _ (W.then-gone (K.optional F.w_local) _ (W.then-gone K.number64 _ (W.then-gone K.number64 _ (W.then-gone (K.optional K.w_none) _ (W.then-gone K.number32 _ (W.then-gone K.number64 _ (W.then-gone K.number64 _ (c.in_err-id.ensures 7 t _ h))))))))));
  one = λ o. L.none-no _ c.from_residual.ensures o;
  two = λ o. L.none-no _ c.from_residual.ensures o;
}

pub returns-in_err-fee : goal.returns-in_err-fee
unfolding F.return_of F.return_one F.return_two F.return_lists K.NoField K.NoVerdict K.IfEnds I.NoListed B.NoBlock
returns-in_err-fee c = record {
  is = λ t s h.
      let x0 = c.in_ok-id.ensures.is 7 t _ h in
      L.none-unread _ c.from_residual-in_err-fee.ensures ∙ L.unread-gone _ _ (L.items-then (I.item_of R.Heights) _ _ (L.items-then (I.item_of R.Boxes) _ _ (W.then-gone (K.optional F.w_local) _ (W.then-gone K.number64 _ (W.then-gone K.number64 _ (W.then-gone (K.optional K.w_none) _ (W.then-gone K.number32 _ (W.then-gone K.number64 _ (c.in_err-fee.ensures 7 t _ x0.1)))))))));
  one = λ o. L.none-no _ c.from_residual-in_err-fee.ensures o;
  two = λ o. L.none-no _ c.from_residual-in_err-fee.ensures o;
}

pub returns-in_err-size : goal.returns-in_err-size
unfolding F.return_of F.return_one F.return_two F.return_lists K.NoField K.NoVerdict K.IfEnds I.NoListed B.NoBlock
returns-in_err-size c = record {
  is = λ t s h.
      let x0 = c.in_ok-id.ensures.is 7 t _ h in
      let x1 = c.in_ok-fee.ensures.is 7 t _ x0.1 in
      L.none-unread _ c.from_residual-in_err-size.ensures ∙ L.unread-gone _ _ (L.items-then (I.item_of R.Heights) _ _ (L.items-then (I.item_of R.Boxes) _ _ (W.then-gone (K.optional F.w_local) _ (W.then-gone K.number64 _ (W.then-gone K.number64 _ (W.then-gone (K.optional K.w_none) _ (W.then-gone K.number32 _ (c.in_err-size.ensures 7 t _ x1.1))))))));
  one = λ o. L.none-no _ c.from_residual-in_err-size.ensures o;
  two = λ o. L.none-no _ c.from_residual-in_err-size.ensures o;
}

pub returns-in_err-cost : goal.returns-in_err-cost
unfolding F.return_of F.return_one F.return_two F.return_lists K.NoField K.NoVerdict K.IfEnds I.NoListed B.NoBlock
returns-in_err-cost c = record {
  is = λ t s h.
      let x0 = c.in_ok-id.ensures.is 7 t _ h in
      let x1 = c.in_ok-fee.ensures.is 7 t _ x0.1 in
      let x2 = c.in_ok-size.ensures.is 7 t _ x1.1 in
      L.none-unread _ c.from_residual-in_err-cost.ensures ∙ L.unread-gone _ _ (L.items-then (I.item_of R.Heights) _ _ (L.items-then (I.item_of R.Boxes) _ _ (W.then-gone (K.optional F.w_local) _ (W.then-gone K.number64 _ (W.then-gone K.number64 _ (W.then-gone (K.optional K.w_none) _ (c.in_err-cost.ensures 7 t _ x2.1)))))));
  one = λ o. L.none-no _ c.from_residual-in_err-cost.ensures o;
  two = λ o. L.none-no _ c.from_residual-in_err-cost.ensures o;
}

pub returns-in_err-measured : goal.returns-in_err-measured
unfolding F.return_of F.return_one F.return_two F.return_lists K.NoField K.NoVerdict K.IfEnds I.NoListed B.NoBlock
returns-in_err-measured c = record {
  is = λ t s h.
      let x0 = c.in_ok-id.ensures.is 7 t _ h in
      let x1 = c.in_ok-fee.ensures.is 7 t _ x0.1 in
      let x2 = c.in_ok-size.ensures.is 7 t _ x1.1 in
      let x3 = c.in_ok-cost.ensures.is 7 t _ x2.1 in
      L.none-unread _ c.from_residual-in_err-measured.ensures ∙ L.unread-gone _ _ (L.items-then (I.item_of R.Heights) _ _ (L.items-then (I.item_of R.Boxes) _ _ (W.then-gone (K.optional F.w_local) _ (W.then-gone K.number64 _ (W.then-gone K.number64 _ (c.in_err-measured.ensures 7 t _ x3.1))))));
  one = λ o. L.none-no _ c.from_residual-in_err-measured.ensures o;
  two = λ o. L.none-no _ c.from_residual-in_err-measured.ensures o;
}

pub returns-in_err-created : goal.returns-in_err-created
unfolding F.return_of F.return_one F.return_two F.return_lists K.NoField K.NoVerdict K.IfEnds I.NoListed B.NoBlock
returns-in_err-created c = record {
  is = λ t s h.
      let x0 = c.in_ok-id.ensures.is 7 t _ h in
      let x1 = c.in_ok-fee.ensures.is 7 t _ x0.1 in
      let x2 = c.in_ok-size.ensures.is 7 t _ x1.1 in
      let x3 = c.in_ok-cost.ensures.is 7 t _ x2.1 in
      let x4 = c.in_ok-measured.ensures.is 7 t _ x3.1 in
      L.none-unread _ c.from_residual-in_err-created.ensures ∙ L.unread-gone _ _ (L.items-then (I.item_of R.Heights) _ _ (L.items-then (I.item_of R.Boxes) _ _ (W.then-gone (K.optional F.w_local) _ (W.then-gone K.number64 _ (c.in_err-created.ensures 7 t _ x4.1)))));
  one = λ o. L.none-no _ c.from_residual-in_err-created.ensures o;
  two = λ o. L.none-no _ c.from_residual-in_err-created.ensures o;
}

pub returns-in_err-checked : goal.returns-in_err-checked
unfolding F.return_of F.return_one F.return_two F.return_lists K.NoField K.NoVerdict K.IfEnds I.NoListed B.NoBlock
returns-in_err-checked c = record {
  is = λ t s h.
      let x0 = c.in_ok-id.ensures.is 7 t _ h in
      let x1 = c.in_ok-fee.ensures.is 7 t _ x0.1 in
      let x2 = c.in_ok-size.ensures.is 7 t _ x1.1 in
      let x3 = c.in_ok-cost.ensures.is 7 t _ x2.1 in
      let x4 = c.in_ok-measured.ensures.is 7 t _ x3.1 in
      let x5 = c.in_ok-created.ensures.is 7 t _ x4.1 in
      L.none-unread _ c.from_residual-in_err-checked.ensures ∙ L.unread-gone _ _ (L.items-then (I.item_of R.Heights) _ _ (L.items-then (I.item_of R.Boxes) _ _ (W.then-gone (K.optional F.w_local) _ (c.in_err-checked.ensures 7 t _ x5.1))));
  one = λ o. L.none-no _ c.from_residual-in_err-checked.ensures o;
  two = λ o. L.none-no _ c.from_residual-in_err-checked.ensures o;
}

pub returns-in_err-peer : goal.returns-in_err-peer
unfolding F.return_of F.return_one F.return_two F.return_lists K.NoField K.NoVerdict K.IfEnds I.NoListed B.NoBlock
returns-in_err-peer c = record {
  is = λ t s h.
      let x0 = c.in_ok-id.ensures.is 7 t _ h in
      let x1 = c.in_ok-fee.ensures.is 7 t _ x0.1 in
      let x2 = c.in_ok-size.ensures.is 7 t _ x1.1 in
      let x3 = c.in_ok-cost.ensures.is 7 t _ x2.1 in
      let x4 = c.in_ok-measured.ensures.is 7 t _ x3.1 in
      let x5 = c.in_ok-created.ensures.is 7 t _ x4.1 in
      let x6 = c.in_ok-checked.ensures.is 7 t _ x5.1 in
      L.none-unread _ c.from_residual-in_err-peer.ensures ∙ L.unread-gone _ _ (L.items-then (I.item_of R.Heights) _ _ (L.items-then (I.item_of R.Boxes) _ _ (c.in_err-peer.ensures 7 t _ x6.1)));
  one = λ o. L.none-no _ c.from_residual-in_err-peer.ensures o;
  two = λ o. L.none-no _ c.from_residual-in_err-peer.ensures o;
}

pub returns-in_err-inputs : goal.returns-in_err-inputs
unfolding F.return_of F.return_one F.return_two F.return_lists K.NoField K.NoVerdict K.IfEnds I.NoListed B.NoBlock
returns-in_err-inputs c = record {
  is = λ t s h.
      let x0 = c.in_ok-id.ensures.is 7 t _ h in
      let x1 = c.in_ok-fee.ensures.is 7 t _ x0.1 in
      let x2 = c.in_ok-size.ensures.is 7 t _ x1.1 in
      let x3 = c.in_ok-cost.ensures.is 7 t _ x2.1 in
      let x4 = c.in_ok-measured.ensures.is 7 t _ x3.1 in
      let x5 = c.in_ok-created.ensures.is 7 t _ x4.1 in
      let x6 = c.in_ok-checked.ensures.is 7 t _ x5.1 in
      let x7 = c.in_ok-peer.ensures.is 7 t _ x6.1 in
      L.none-unread _ c.from_residual-in_err-inputs.ensures ∙ L.unread-gone _ _ (L.items-then (I.item_of R.Heights) _ _ (c.in_err-inputs.ensures t _ x7.1));
  one = λ o. L.none-no _ c.from_residual-in_err-inputs.ensures o;
  two = λ o. L.none-no _ c.from_residual-in_err-inputs.ensures o;
}

pub returns-in_err-outputs : goal.returns-in_err-outputs
unfolding F.return_of F.return_one F.return_two F.return_lists K.NoField K.NoVerdict K.IfEnds I.NoListed B.NoBlock
returns-in_err-outputs c = record {
  is = λ t s h.
      let x0 = c.in_ok-id.ensures.is 7 t _ h in
      let x1 = c.in_ok-fee.ensures.is 7 t _ x0.1 in
      let x2 = c.in_ok-size.ensures.is 7 t _ x1.1 in
      let x3 = c.in_ok-cost.ensures.is 7 t _ x2.1 in
      let x4 = c.in_ok-measured.ensures.is 7 t _ x3.1 in
      let x5 = c.in_ok-created.ensures.is 7 t _ x4.1 in
      let x6 = c.in_ok-checked.ensures.is 7 t _ x5.1 in
      let x7 = c.in_ok-peer.ensures.is 7 t _ x6.1 in
      let x8 = c.in_ok-inputs.ensures.is t _ x7.1 in
      L.none-unread _ c.from_residual-in_err-outputs.ensures ∙ L.unread-gone _ _ (c.in_err-outputs.ensures t _ x8.1);
  one = λ o. L.none-no _ c.from_residual-in_err-outputs.ensures o;
  two = λ o. L.none-no _ c.from_residual-in_err-outputs.ensures o;
}

pub returns : goal.returns
unfolding F.return_of F.return_one F.return_two F.return_lists K.NoField K.NoVerdict K.IfEnds I.NoListed B.NoBlock
returns c = record {
  is = λ t s h.
      let x0 = c.in_ok-id.ensures.is 7 t _ h in
      let x1 = c.in_ok-fee.ensures.is 7 t _ x0.1 in
      let x2 = c.in_ok-size.ensures.is 7 t _ x1.1 in
      let x3 = c.in_ok-cost.ensures.is 7 t _ x2.1 in
      let x4 = c.in_ok-measured.ensures.is 7 t _ x3.1 in
      let x5 = c.in_ok-created.ensures.is 7 t _ x4.1 in
      let x6 = c.in_ok-checked.ensures.is 7 t _ x5.1 in
      let x7 = c.in_ok-peer.ensures.is 7 t _ x6.1 in
      let x8 = c.in_ok-inputs.ensures.is t _ x7.1 in
      let x9 = c.in_ok-outputs.ensures.is t _ x8.1 in
      L.whole-as _ _ _ _ (L.or-unread _ _ _ (c.if_ends.ensures 7 t _ x9.1)) (λ i. V.Return (record { id = x0.0 i; fee = x1.0 i; size = x2.0 i; cost = x3.0 i; measured = x4.0 i; created = x5.0 i; checked = x6.0 i; peer = x7.0 i; inputs = x8.0 i; outputs = x9.0 i }));
  one = λ o t s h.
      let x0 = c.in_ok-id.ensures.is 7 t _ h in
      let x1 = c.in_ok-fee.ensures.is 7 t _ x0.1 in
      let x2 = c.in_ok-size.ensures.is 7 t _ x1.1 in
      let x3 = c.in_ok-cost.ensures.is 7 t _ x2.1 in
      let x4 = c.in_ok-measured.ensures.is 7 t _ x3.1 in
      let x5 = c.in_ok-created.ensures.is 7 t _ x4.1 in
      let x6 = c.in_ok-checked.ensures.is 7 t _ x5.1 in
      let x7 = c.in_ok-peer.ensures.is 7 t _ x6.1 in
      c.in_ok-inputs.ensures.wrote t _ x7.1;
  two = λ o t s h.
      let x0 = c.in_ok-id.ensures.is 7 t _ h in
      let x1 = c.in_ok-fee.ensures.is 7 t _ x0.1 in
      let x2 = c.in_ok-size.ensures.is 7 t _ x1.1 in
      let x3 = c.in_ok-cost.ensures.is 7 t _ x2.1 in
      let x4 = c.in_ok-measured.ensures.is 7 t _ x3.1 in
      let x5 = c.in_ok-created.ensures.is 7 t _ x4.1 in
      let x6 = c.in_ok-checked.ensures.is 7 t _ x5.1 in
      let x7 = c.in_ok-peer.ensures.is 7 t _ x6.1 in
      let x8 = c.in_ok-inputs.ensures.is t _ x7.1 in
      c.in_ok-outputs.ensures.wrote t _ x8.1;
}
