-- `codes::plain` meets its contract: the words of no id are 0. Assumes nothing.
use mathlib.Core.Path.{refl}
use Rattle.host.specs.Results.{told_words}
use Rattle.host.proofs.codes.plain.Goals as goal

pub returns : goal.returns
unfolding told_words
returns c = refl
