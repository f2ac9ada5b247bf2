-- `records::hide_at` meets its contract. Assumes nothing.
use mathlib.Core.Path.{sym, ◌∙◌}
use Rattle.words.specs.Ids.{id_of}
use Rattle.boxes.specs.Hiding.{hid-yes, hid-no}
use Rattle.boxes.proofs.records.hide_at.Goals as goal

pub returns-then-is_entry : goal.returns-then-is_entry
returns-then-is_entry c = hid-yes c.args.s.now c.args.i c.args.out (id_of c.args.key) _ c.requires c.hide_box.ensures (sym c.is_entry.ensures ∙ c.if-is_entry.true)

pub returns-else-is_entry : goal.returns-else-is_entry
returns-else-is_entry c = hid-no c.args.s.now c.args.i c.args.out (id_of c.args.key) (sym c.is_entry.ensures ∙ c.if-is_entry.false)
