-- `family::propagate_family_weight` meets its contract: the walk's, and as many words as before fit the same counts. Assumes nothing.
use Rattle.std.proofs.Common.{arith}
use Rattle.entries.specs.Layout.{ok-still as entries-still}
use Rattle.family.proofs.propagate_family_weight.Goals as goal

pub returns-clause-fits : goal.returns-clause-fits
returns-clause-fits c = record { entries = entries-still _ _ _ _ c.requires.entries c.walk.auto.entries (omega arith); boxes = c.requires.boxes }
