-- `pool::lowest_weight` meets its contract: the lowest is the last entry (`lowest`). Assumes nothing.
use mathlib.Core.Path.{◌∙◌, sym, ap}
use Rattle.entries.specs.Entries.{Entry}
use Rattle.entries.specs.Laws.{lowest}
use Rattle.pool.proofs.lowest_weight.Goals as goal

pub returns : goal.returns
returns c = rw c.len.ensures at c.weight_at.ensures ∙ ap (λ (e : Entry). e.weight) (sym (lowest _ _ c.requires _))
