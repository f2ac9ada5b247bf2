-- `rows::put_words` meets its contract: the words before and behind stay (`stored-mid`). Assumes nothing.
use Rattle.std.proofs.Common.{arith, ◌≡◌, ◌+◌, ◌-◌, length}
use Rattle.words.specs.Rows.{stored-mid}
use Rattle.words.proofs.rows.put_words.Goals as goal

pub returns : goal.returns
returns c =
    let a = c.args in
    let n : a.at + length a.words.now - a.at ≡ length a.words.now = omega arith in
    rw (n, c.copy_from_slice.ensures.after) (stored-mid a.words.now a.s.now a.at c.requires)
