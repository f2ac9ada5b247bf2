-- `read::block` meets its contract: field by field, then the end.
use Rattle.std.proofs.Common.{◌∙◌}
use Rattle.lines.specs.declared.read.Form.TheVariants as V
use Rattle.lines.specs.Fields as K
use Rattle.lines.specs.Items as I
use Rattle.lines.specs.Blocks as B
use Rattle.lines.specs.BlockLaws as C
use Rattle.lines.specs.Forms as F
use Rattle.lines.specs.FormLaws as L
use Rattle.lines.proofs.read.block.Goals as goal

pub returns-in_err-time : goal.returns-in_err-time
unfolding F.block_of F.block_one F.block_two K.NoField K.NoVerdict K.IfEnds I.NoListed B.NoBlock
returns-in_err-time c = record {
  is = λ t s h.
      L.none-unread _ c.from_residual.ensures ∙ L.unread-gone _ _ (C.block-then _ _ _ (c.in_err-time.ensures 7 t _ h));
  one = λ o. L.none-no _ c.from_residual.ensures o;
  two = λ o. L.none-no _ c.from_residual.ensures o;
}

pub returns-in_err-transactions : goal.returns-in_err-transactions
unfolding F.block_of F.block_one F.block_two K.NoField K.NoVerdict K.IfEnds I.NoListed B.NoBlock
returns-in_err-transactions c = record {
  is = λ t s h.
      let x0 = c.in_ok-time.ensures.is 7 t _ h in
      L.none-unread _ c.from_residual-in_err-transactions.ensures ∙ L.unread-gone _ _ (c.in_err-transactions.ensures t _ x0.1);
  one = λ o. L.none-no _ c.from_residual-in_err-transactions.ensures o;
  two = λ o. L.none-no _ c.from_residual-in_err-transactions.ensures o;
}

pub returns : goal.returns
unfolding F.block_of F.block_one F.block_two K.NoField K.NoVerdict K.IfEnds I.NoListed B.NoBlock
returns c = record {
  is = λ t s h.
      let x0 = c.in_ok-time.ensures.is 7 t _ h in
      let x1 = c.in_ok-transactions.ensures.is t _ x0.1 in
      L.whole-as _ _ _ _ (L.or-unread _ _ _ (c.if_ends.ensures 7 t _ x1.2)) (λ i. V.Block (record { time = x0.0 i; transactions = x1.0 i; inputs = x1.1 i }));
  one = λ o t s h.
      let x0 = c.in_ok-time.ensures.is 7 t _ h in
      (c.in_ok-transactions.ensures.wrote t _ x0.1).0;
  two = λ o t s h.
      let x0 = c.in_ok-time.ensures.is 7 t _ h in
      (c.in_ok-transactions.ensures.wrote t _ x0.1).1;
}
