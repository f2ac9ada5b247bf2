-- `conflicts::put_once` meets its contract: the id is among the first n (`added-in`), or it is stored behind them (`added_new`). Assumes nothing.
use mathlib.Core.Path.{sym, ◌∙◌}
use Rattle.indexes.specs.Conflicts.{added_new}
use Rattle.indexes.proofs.conflicts.put_once.Goals as goal

pub returns : goal.returns
returns c = rw c.put_id.ensures (added_new _ _ _ c.requires (sym (rw (c.new.ensures.0, c.new.ensures.1) at c.among.ensures) ∙ c.if-among.false))
