-- `cells::id_in` meets its contract: it knows the layout. Assumes nothing.
use mathlib.Core.Path.{◌∙◌}
use Rattle.entries.specs.Cells.{id-read}
use Rattle.entries.proofs.cells.id_in.Goals as goal

pub returns : goal.returns
returns c = c.get_id.ensures.number ∙ id-read c.args.s.now c.args.i
