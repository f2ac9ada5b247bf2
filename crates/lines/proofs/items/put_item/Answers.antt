-- `items::put_item` meets its contract, kind by kind.
use Rattle.lines.specs.Items as I
use Rattle.lines.specs.ItemLaws as L
use Rattle.lines.proofs.items.put_item.Goals as goal

pub put_box-requires : goal.put_box-requires
unfolding I.item_of I.boxes
put_box-requires c = L.kind-room c.args.kind _ _ c.in-Boxes.is c.requires

pub returns-in-Boxes : goal.returns-in-Boxes
unfolding I.item_of
returns-in-Boxes c = L.item-kind _ _ _ _ _ _ _ _ c.put_box.result (λ z. z.now) c.in-Boxes.is c.put_box.ensures

pub put_flag-requires : goal.put_flag-requires
unfolding I.item_of I.flags
put_flag-requires c = L.kind-room c.args.kind _ _ c.in-Flags.is c.requires

pub returns-in-Flags : goal.returns-in-Flags
unfolding I.item_of
returns-in-Flags c = L.item-kind _ _ _ _ _ _ _ _ c.put_flag.result (λ z. z.now) c.in-Flags.is c.put_flag.ensures

pub put_input-requires : goal.put_input-requires
unfolding I.item_of I.inputs
put_input-requires c = L.kind-room c.args.kind _ _ c.in-Inputs.is c.requires

pub returns-in-Inputs : goal.returns-in-Inputs
unfolding I.item_of
returns-in-Inputs c = L.item-kind _ _ _ _ _ _ _ _ c.put_input.result (λ z. z.now) c.in-Inputs.is c.put_input.ensures

pub put_height-requires : goal.put_height-requires
unfolding I.item_of I.heights
put_height-requires c = L.kind-room c.args.kind _ _ c.in-Heights.is c.requires

pub returns-in-Heights : goal.returns-in-Heights
unfolding I.item_of
returns-in-Heights c = L.item-kind _ _ _ _ _ _ _ _ c.put_height.result (λ z. z.now) c.in-Heights.is c.put_height.ensures

pub put_output-requires : goal.put_output-requires
unfolding I.item_of I.outputs
put_output-requires c = L.kind-room c.args.kind _ _ c.in-Outputs.is c.requires

pub returns-in-Outputs : goal.returns-in-Outputs
unfolding I.item_of
returns-in-Outputs c = L.item-kind _ _ _ _ _ _ _ _ c.put_output.result (λ z. z.now) c.in-Outputs.is c.put_output.ensures
