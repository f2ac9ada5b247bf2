-- `items::put_height` meets its contract: the fields are read one behind the other, then the end, and their words are written.
use Rattle.std.proofs.Common.{refl}
use Rattle.forms.specs.TextLaws.{if-none}
use Rattle.lines.specs.Items as I
use Rattle.lines.specs.ItemLaws as L
use Rattle.lines.proofs.items.put_height.Goals as goal

pub returns-in_err-inside : goal.returns-in_err-inside
unfolding I.heights I.height_words
returns-in_err-inside c = if-none _ _ c.from_residual.ensures (L.item-none 5 I.height_words I.is_height (λ i. refl) _ _ _ L.height-gone c.in_err-inside.ensures)

pub returns-in_err-id : goal.returns-in_err-id
unfolding I.heights I.height_words
returns-in_err-id c = if-none _ _ c.from_residual-in_err-id.ensures (L.item-off 5 I.height_words I.is_height (λ i. refl) _ _ _ _ _ c.in_ok-inside.ensures (L.no-id-height _ c.in_err-id.ensures))

pub returns-in_err-height : goal.returns-in_err-height
unfolding I.heights I.height_words
returns-in_err-height c = if-none _ _ c.from_residual-in_err-height.ensures (L.item-off 5 I.height_words I.is_height (λ i. refl) _ _ _ _ _ c.in_ok-inside.ensures (L.no-height _ _ _ c.in_ok-id.ensures c.in_err-height.ensures))

pub returns-then-not-ends : goal.returns-then-not-ends
unfolding I.heights I.height_words
returns-then-not-ends c = L.item-off 5 I.height_words I.is_height (λ i. refl) _ _ _ _ _ c.in_ok-inside.ensures (L.no-height-end _ _ _ c.in_ok-id.ensures _ _ _ c.ends.ensures c.in_ok-height.ensures c.if-not-ends.true)

pub returns : goal.returns
unfolding I.heights I.height_words
returns c = L.item-yes 5 I.height_words I.is_height (λ i. refl) _ _ _ _ _ c.in_ok-inside.ensures 0 c.args.out.now c.requires _ refl (L.inner-height _ _ _ c.in_ok-id.ensures _ _ _ c.ends.ensures c.in_ok-height.ensures c.if-not-ends.false) _ c.put_words.ensures
