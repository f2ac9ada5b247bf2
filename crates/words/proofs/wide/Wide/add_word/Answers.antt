-- `wide::Wide::add_word` meets its contract: the wrapped sum is below what was added exactly if the sum passed 2 ^ 64. Assumes nothing.
use Rattle.std.proofs.Common.{arith}
use Rattle.words.specs.Wide.{wide_of}
use Rattle.words.proofs.wide.Wide.add_word.Goals as goal

pub returns-then-low-x : goal.returns-then-low-x
unfolding wide_of
returns-then-low-x c = omega arith

pub returns : goal.returns
unfolding wide_of
returns c = omega arith
