-- `items::put_flag` meets its contract: the word is read, and its number is written.
use Rattle.std.proofs.Common.{refl}
use Rattle.forms.specs.TextLaws.{if-none}
use Rattle.lines.specs.Fields as F
use Rattle.lines.specs.Items as I
use Rattle.lines.specs.ItemLaws as L
use Rattle.lines.proofs.items.put_flag.Goals as goal

pub returns-in_err-flag : goal.returns-in_err-flag
unfolding I.flags
returns-in_err-flag c = if-none _ _ c.from_residual.ensures (L.item-no-word (F.choices I.w_set I.w_not) 1 I.flag_words (λ v. refl) _ _ _ L.flags-none c.in_err-flag.ensures)

pub returns : goal.returns
unfolding I.flags
returns c = L.item-word (F.choices I.w_set I.w_not) 1 I.flag_words (λ v. refl) _ _ _ 0 c.args.out.now _ _ _ c.requires c.in_ok-flag.ensures (L.one-stored _ _ _)
