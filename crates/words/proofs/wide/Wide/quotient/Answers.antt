-- `wide::Wide::quotient` meets its contract: the high word says whether the quotient fits a word (`past_word_is`, `fits_word`). Assumes nothing.
use Rattle.std.proofs.Common.{arith}
use Rattle.words.specs.Sums.{quotient-cap}
use Rattle.words.specs.Wide.{wide_of}
use Rattle.words.specs.Divide.{past_word_is}
use Rattle.words.proofs.wide.Wide.quotient.Goals as goal

pub returns-then-d-self : goal.returns-then-d-self
returns-then-d-self c =
    let a = c.args in
    quotient-cap (wide_of a.self) a.d (omega (arith, c.if-d-eq0.false)) (past_word_is a.self (omega (arith, c.if-d-eq0.false)) c.if-d-self.true)
