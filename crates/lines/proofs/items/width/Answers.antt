-- `items::width` meets its contract, kind by kind.
use Rattle.std.proofs.Common.{sym, ap}
use Rattle.lines.specs.Items as I
use Rattle.lines.proofs.items.width.Goals as goal

pub returns-in-Boxes : goal.returns-in-Boxes
unfolding I.item_of I.boxes
returns-in-Boxes c = sym (ap (λ (z : _). (I.item_of z).width) c.in-Boxes.is)

pub returns-in-Flags : goal.returns-in-Flags
unfolding I.item_of I.flags
returns-in-Flags c = sym (ap (λ (z : _). (I.item_of z).width) c.in-Flags.is)

pub returns-in-Inputs : goal.returns-in-Inputs
unfolding I.item_of I.inputs
returns-in-Inputs c = sym (ap (λ (z : _). (I.item_of z).width) c.in-Inputs.is)

pub returns-in-Heights : goal.returns-in-Heights
unfolding I.item_of I.heights
returns-in-Heights c = sym (ap (λ (z : _). (I.item_of z).width) c.in-Heights.is)

pub returns-in-Outputs : goal.returns-in-Outputs
unfolding I.item_of I.outputs
returns-in-Outputs c = sym (ap (λ (z : _). (I.item_of z).width) c.in-Outputs.is)
