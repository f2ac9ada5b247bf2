-- `replies::with_id` meets its contract: a text behind a text. Assumes nothing.
use native.Mathlib.Omega.{arith}
use Rattle.std.proofs.Common.{rules}
use mathlib.Core.Path.{ap}
use lib.ListN.{length}
use Rattle.replies.specs.Replies.{named}
use Rattle.replies.specs.ReplyLaws.{prints-then, prints-to, id-ends}
use Rattle.replies.proofs.with_id.Goals as goal

pub byte-requires : goal.byte-requires
byte-requires c =
    let e = c.new-line.ensures.empty in
    omega (arith, id-ends c.args.head.now _ c.id.ensures.printed, e.0, ap length e.1)

pub returns : goal.returns
unfolding named
returns c =
    let e = c.new-line.ensures.empty in
    let p = rw (e.0, e.1) at c.id.ensures.printed in
    prints-to (search rules) (prints-then (omega (arith, id-ends c.args.head.now _ p)) p c.byte.ensures.printed)
