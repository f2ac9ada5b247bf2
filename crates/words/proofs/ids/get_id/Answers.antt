-- `ids::get_id` meets its contract: the number of the words that it reads. Assumes nothing.
use Rattle.std.proofs.Common.{refl}
use Rattle.words.specs.Ids.{id_of, id_at}
use Rattle.words.proofs.ids.get_id.Goals as goal

pub returns-clause-number : goal.returns-clause-number
unfolding id_of id_at
returns-clause-number c = refl
