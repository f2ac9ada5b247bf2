-- `replies::pooled` meets its contract: a text behind a text. Assumes nothing.
use native.Mathlib.Omega.{arith}
use Rattle.std.proofs.Common.{rules}
use mathlib.Core.Path.{ap}
use lib.ListN.{length}
use Rattle.replies.specs.Replies.{pooled_text}
use Rattle.replies.specs.ReplyLaws.{prints-then, prints-to, rows_long}
use Rattle.replies.proofs.pooled.Goals as goal

pub byte-requires : goal.byte-requires
byte-requires c =
    let e = c.new-line.ensures.empty in
    omega (arith, c.text.ensures.printed.ends, c.rows.ensures.printed.ends, rows_long c.args.words.now c.args.n, e.0, ap length e.1, c.requires.1)

pub returns : goal.returns
unfolding pooled_text
returns c =
    let e = c.new-line.ensures.empty in
    let p = rw (e.0, e.1) at c.text.ensures.printed in
    let a = p.ends in
    let b = c.rows.ensures.printed.ends in
    prints-to (search rules) (prints-then (omega (arith, a, b, rows_long c.args.words.now c.args.n, c.requires.1)) (prints-then (omega (arith, a, c.requires.1)) p c.rows.ensures.printed) c.byte.ensures.printed)
