-- `records::drop_owner` meets its contract: the records leave, and the used slots are told (`dropped`). Assumes nothing.
use Rattle.words.specs.Ids.{id_of}
use Rattle.boxes.specs.Posts.{dropped}
use Rattle.boxes.proofs.records.drop_owner.Goals as goal

pub returns-clause-dropped : goal.returns-clause-dropped
returns-clause-dropped c = dropped c.args.s.now _ _ c.args.n _ (id_of c.args.owner) _ c.requires c.slots_used-used.ensures.value c.leave_all-r.auto.s c.leave_all-r.ensures c.put_used.ensures
