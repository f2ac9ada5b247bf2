-- `Told::words` meets its contract, word by word. Assumes nothing.
use mathlib.Core.Path.{refl}
use Rattle.host.specs.Results.{told_words}
use Rattle.host.proofs.codes.Told.words.Goals as goal

pub returns : goal.returns
unfolding told_words
returns c = refl
