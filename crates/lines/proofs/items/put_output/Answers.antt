-- `items::put_output` meets its contract: the fields are read one behind the other, then the end, and their words are written.
use Rattle.std.proofs.Common.{refl}
use Rattle.forms.specs.TextLaws.{if-none}
use Rattle.lines.specs.Items as I
use Rattle.lines.specs.ItemLaws as L
use Rattle.lines.proofs.items.put_output.Goals as goal

pub returns-in_err-inside : goal.returns-in_err-inside
unfolding I.outputs I.output_words
returns-in_err-inside c = if-none _ _ c.from_residual.ensures (L.item-none 7 I.output_words I.is_output (λ i. refl) _ _ _ L.output-gone c.in_err-inside.ensures)

pub returns-in_err-id : goal.returns-in_err-id
unfolding I.outputs I.output_words
returns-in_err-id c = if-none _ _ c.from_residual-in_err-id.ensures (L.item-off 7 I.output_words I.is_output (λ i. refl) _ _ _ _ _ c.in_ok-inside.ensures (L.no-id-output _ c.in_err-id.ensures))

pub returns-in_err-amount : goal.returns-in_err-amount
unfolding I.outputs I.output_words
returns-in_err-amount c = if-none _ _ c.from_residual-in_err-amount.ensures (L.item-off 7 I.output_words I.is_output (λ i. refl) _ _ _ _ _ c.in_ok-inside.ensures (L.no-amount _ _ _ c.in_ok-id.ensures c.in_err-amount.ensures))

pub returns-in_err-fee : goal.returns-in_err-fee
unfolding I.outputs I.output_words
returns-in_err-fee c = if-none _ _ c.from_residual-in_err-fee.ensures (L.item-off 7 I.output_words I.is_output (λ i. refl) _ _ _ _ _ c.in_ok-inside.ensures (L.no-fee _ _ _ c.in_ok-id.ensures _ _ c.in_ok-amount.ensures c.in_err-fee.ensures))

pub returns-in_err-height : goal.returns-in_err-height
unfolding I.outputs I.output_words
returns-in_err-height c = if-none _ _ c.from_residual-in_err-height.ensures (L.item-off 7 I.output_words I.is_output (λ i. refl) _ _ _ _ _ c.in_ok-inside.ensures (L.no-output-height _ _ _ c.in_ok-id.ensures _ _ c.in_ok-amount.ensures _ _ c.in_ok-fee.ensures c.in_err-height.ensures))

pub returns-then-not-ends : goal.returns-then-not-ends
unfolding I.outputs I.output_words
returns-then-not-ends c = L.item-off 7 I.output_words I.is_output (λ i. refl) _ _ _ _ _ c.in_ok-inside.ensures (L.no-output _ _ _ c.in_ok-id.ensures _ _ c.in_ok-amount.ensures _ _ c.in_ok-fee.ensures _ _ c.in_ok-height.ensures _ c.ends.ensures c.if-not-ends.true)

pub returns : goal.returns
unfolding I.outputs I.output_words
returns c = L.item-yes 7 I.output_words I.is_output (λ i. refl) _ _ _ _ _ c.in_ok-inside.ensures 0 c.args.out.now c.requires _ refl (L.inner-output _ _ _ c.in_ok-id.ensures _ _ c.in_ok-amount.ensures _ _ c.in_ok-fee.ensures _ _ c.in_ok-height.ensures _ c.ends.ensures c.if-not-ends.false) _ c.put_words.ensures
