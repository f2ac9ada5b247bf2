-- `replies::with_ids` meets its contract: a text behind a text. Assumes nothing.
use native.Mathlib.Omega.{arith}
use Rattle.std.proofs.Common.{rules}
use mathlib.Core.Path.{ap}
use lib.ListN.{length}
use Rattle.replies.specs.Replies.{listed}
use Rattle.replies.specs.ReplyLaws.{prints-then, prints-to, ids-long}
use Rattle.replies.proofs.with_ids.Goals as goal

pub byte-requires : goal.byte-requires
byte-requires c =
    let e = c.new-line.ensures.empty in
    let ids = rw (c.new.ensures.0, c.new.ensures.1) at c.ids.ensures.printed in
    omega (arith, c.text.ensures.printed.ends, ids.ends, ids-long 4 c.args.list.now c.args.n 0, e.0, ap length e.1, c.requires.1)

pub returns : goal.returns
unfolding listed
returns c =
    let e = c.new-line.ensures.empty in
    let p = rw (e.0, e.1) at c.text.ensures.printed in
    let ids = rw (c.new.ensures.0, c.new.ensures.1) at c.ids.ensures.printed in
    let a = p.ends in
    let b = ids.ends in
    prints-to (search rules) (prints-then (omega (arith, a, b, ids-long 4 c.args.list.now c.args.n 0, c.requires.1)) (prints-then (omega (arith, a, c.requires.1)) p ids) c.byte.ensures.printed)
