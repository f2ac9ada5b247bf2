use Rattle.boxes.specs.Linking.{Enters}
use Rattle.boxes.proofs.records.enter_slots.Given as goal

abbrev pub invariant-loop-i : goal.invariant-loop-i
invariant-loop-i l = Enters l.initial.s l.used l.s l.i
