-- `fields::put_stamp` meets its contract: three words of a slot are written (`stamps-at`). Assumes nothing.
use Rattle.std.proofs.Common.{ap, ◌∙◌}
use Rattle.std.specs.Int.{from_bool}
use Rattle.entries.specs.Cells.{tag-written, value-written}
use Rattle.entries.specs.Crediting.{stamps-at}
use Rattle.entries.proofs.fields.put_stamp.Goals as goal

pub returns : goal.returns
returns c =
    let a = c.args in
    stamps-at a.s.now _ _ _ a.i _ _ a.time a.cost c.requires (c.from.ensures ∙ ap from_bool c.is_some.ensures ∙ tag-written a.cost) (c.unwrap_or.ensures ∙ value-written a.cost) c.put.ensures c.put-2.ensures (rw c.place.ensures.0 at c.put-3.ensures)
