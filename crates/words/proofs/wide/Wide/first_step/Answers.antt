-- `wide::Wide::first_step` meets its contract: the word at bit `at` is all that the number has from there up (`part-first`). Assumes nothing.
use Rattle.words.specs.Wide.{wide_of}
use Rattle.words.specs.Divide.{part-first}
use Rattle.words.proofs.wide.Wide.first_step.Goals as goal

pub returns : goal.returns
returns c = let s = c in rw c.word_at-top.ensures (part-first (wide_of s.args.self) s.args.d s.args.at s.requires.2)
