-- `records::write_list` meets its contract. The loop's invariant: i boxes are written, and the other words are as they were (`Wrote`). Assumes nothing.
use native.Mathlib.Omega.{arith}
use mathlib.Core.Path.{◌≡◌}
use Rattle.boxes.specs.Flat.{count_of}
use Rattle.boxes.specs.Writing.{wrote-more}
use Rattle.boxes.proofs.records.write_list.Goals as goal

pub loop-i-preserved : goal.loop-i-preserved
loop-i-preserved c = (omega arith, wrote-more _ _ _ _ _ _ _ _ _ _ _ c.loop-i.invariant.1 c.id_at.ensures c.live.ensures c.put_slot.ensures)

pub returns : goal.returns
returns c = let e : c.loop-i.i ≡ count_of c.args.list.now.width c.args.list.now.words.now = omega (arith, c.len-i-end.ensures) in rw e at c.loop-i.invariant.1
