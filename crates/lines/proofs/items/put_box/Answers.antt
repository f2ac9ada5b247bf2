-- `items::put_box` meets its contract: the id is read, and its words are written.
use Rattle.std.proofs.Common.{refl}
use Rattle.forms.specs.TextLaws.{if-none}
use Rattle.words.specs.Ids.{id_words}
use Rattle.lines.specs.Fields as F
use Rattle.lines.specs.Items as I
use Rattle.lines.specs.ItemLaws as L
use Rattle.lines.proofs.items.put_box.Goals as goal

pub returns-in_err-id : goal.returns-in_err-id
unfolding I.boxes
returns-in_err-id c = if-none _ _ c.from_residual.ensures (L.item-no-word F.ids 4 id_words (λ v. refl) _ _ _ L.ids-none c.in_err-id.ensures)

pub returns : goal.returns
unfolding I.boxes
returns c = L.item-word F.ids 4 id_words (λ v. refl) _ _ _ 0 c.args.out.now _ _ _ c.requires c.in_ok-id.ensures c.put_id.ensures
