-- `pool::lowest_id` meets its contract: the lowest is the last entry (`lowest`). Assumes nothing.
use mathlib.Core.Path.{◌∙◌, sym, ap}
use Rattle.entries.specs.Entries.{Entry}
use Rattle.entries.specs.Laws.{lowest}
use Rattle.pool.proofs.lowest_id.Goals as goal

pub returns : goal.returns
returns c = rw c.len.ensures at c.id_at.ensures ∙ ap (λ (e : Entry). e.id) (sym (lowest _ _ c.requires _))
