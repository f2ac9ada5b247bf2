-- `fields::put_entry` meets its contract: it knows the layout and cites `entry-put`. Assumes nothing.
use Rattle.entries.specs.Storing.{entry-put}
use Rattle.entries.proofs.fields.put_entry.Goals as goal

pub returns : goal.returns
returns c = rw c.put_row.ensures (entry-put c.args.s.now c.args.i c.args.e c.requires)
