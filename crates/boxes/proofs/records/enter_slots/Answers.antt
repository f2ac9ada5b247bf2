-- `records::enter_slots` meets its contract. The loop's invariant: i records have entered, and those behind them are as they were (`Enters`). Assumes nothing.
use native.Mathlib.Omega.{arith}
use Rattle.boxes.specs.Linking.{enters_none, enters-more}
use Rattle.boxes.proofs.records.enter_slots.Goals as goal

pub loop-i-init : goal.loop-i-init
loop-i-init c = enters_none _ _

pub loop-i-preserved : goal.loop-i-preserved
loop-i-preserved c = enters-more _ _ _ _ _ c.loop-i.invariant (omega arith) c.enter_slot.auto.s c.enter_slot.ensures
