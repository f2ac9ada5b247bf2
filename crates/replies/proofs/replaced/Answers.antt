-- `replies::replaced` meets its contract: a text behind a text. Assumes nothing.
use native.Mathlib.Omega.{arith}
use Rattle.std.proofs.Common.{rules}
use mathlib.Core.Path.{ap}
use lib.ListN.{length}
use Rattle.replies.specs.Replies.{w_replaced, replaced_text}
use Rattle.replies.specs.ReplyLaws.{prints-then, prints-to, id-ends}
use Rattle.replies.proofs.replaced.Goals as goal

pub last_ids-requires : goal.last_ids-requires
last_ids-requires c =
    let e = c.new-line.ensures.empty in
    (rw (c.new.ensures.0, c.new.ensures.1) c.requires.0, omega (arith, id-ends w_replaced _ c.id.ensures.printed, e.0, ap length e.1, c.requires.1))

pub returns : goal.returns
unfolding replaced_text
returns c =
    let e = c.new-line.ensures.empty in
    let p = rw (e.0, e.1) at c.id.ensures.printed in
    let ids = rw (c.new.ensures.0, c.new.ensures.1) at c.last_ids.ensures.printed in
    prints-to (search rules) (prints-then (omega (arith, id-ends w_replaced _ p, c.requires.1)) p ids)
