-- `links::push` meets its contract: the row is written and linked in (`pushed`). Assumes nothing.
use Rattle.expiring_cache.specs.Entering.{pushed}
use Rattle.expiring_cache.proofs.links.push.Goals as goal

pub returns : goal.returns
returns c = rw (c.link_in.ensures, c.store_row.ensures) (pushed c.args.cache.now c.args.first c.args.n c.args.x c.requires)
