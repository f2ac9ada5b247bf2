-- `items::put_input` meets its contract: the fields are read one behind the other, then the end, and their words are written.
use Rattle.std.proofs.Common.{refl}
use Rattle.forms.specs.TextLaws.{if-none}
use Rattle.lines.specs.Items as I
use Rattle.lines.specs.ItemLaws as L
use Rattle.lines.proofs.items.put_input.Goals as goal

pub returns-in_err-inside : goal.returns-in_err-inside
unfolding I.inputs I.input_words
returns-in_err-inside c = if-none _ _ c.from_residual.ensures (L.item-none 5 I.input_words I.is_input (λ i. refl) _ _ _ L.input-gone c.in_err-inside.ensures)

pub returns-in_err-id : goal.returns-in_err-id
unfolding I.inputs I.input_words
returns-in_err-id c = if-none _ _ c.from_residual-in_err-id.ensures (L.item-off 5 I.input_words I.is_input (λ i. refl) _ _ _ _ _ c.in_ok-inside.ensures (L.no-id-input _ c.in_err-id.ensures))

pub returns-in_err-flag : goal.returns-in_err-flag
unfolding I.inputs I.input_words
returns-in_err-flag c = if-none _ _ c.from_residual-in_err-flag.ensures (L.item-off 5 I.input_words I.is_input (λ i. refl) _ _ _ _ _ c.in_ok-inside.ensures (L.no-flag _ _ _ c.in_ok-id.ensures c.in_err-flag.ensures))

pub returns-then-not-ends : goal.returns-then-not-ends
unfolding I.inputs I.input_words
returns-then-not-ends c = L.item-off 5 I.input_words I.is_input (λ i. refl) _ _ _ _ _ c.in_ok-inside.ensures (L.no-input _ _ _ c.in_ok-id.ensures _ _ _ c.ends.ensures c.in_ok-flag.ensures c.if-not-ends.true)

pub returns : goal.returns
unfolding I.inputs I.input_words
returns c = L.item-yes 5 I.input_words I.is_input (λ i. refl) _ _ _ _ _ c.in_ok-inside.ensures 0 c.args.out.now c.requires _ refl (L.inner-input _ _ _ c.in_ok-id.ensures _ _ _ c.ends.ensures c.in_ok-flag.ensures c.if-not-ends.false) _ c.put_words.ensures
