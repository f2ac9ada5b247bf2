-- `rows::put_whole` meets its contract: nine words, by two calls and a store (`put-parts`). Assumes nothing.
use Rattle.boxes.specs.Stores.{put-parts}
use Rattle.boxes.proofs.rows.put_whole.Goals as goal

pub returns : goal.returns
returns c = rw (c.put_id-2.ensures, c.put_id.ensures) (put-parts c.args.s.now c.args.i c.args.key c.args.owner c.args.kind c.requires)
