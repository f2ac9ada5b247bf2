-- `replies::charges` meets its contract: a text behind a text. Assumes nothing.
use native.Mathlib.Omega.{arith}
use Rattle.std.proofs.Common.{rules}
use mathlib.Core.Path.{ap}
use lib.ListN.{length}
use Rattle.replies.specs.Replies.{w_charges, charges_text}
use Rattle.replies.specs.ReplyLaws.{prints-then, prints-to, decimal-ends, pairs-long, peers-pairs}
use Rattle.replies.proofs.charges.Goals as goal

pub pairs-requires : goal.pairs-requires
pairs-requires c =
    let e = c.new-line.ensures.empty in
    (c.requires.0, omega (arith, decimal-ends w_charges _ c.number.ensures.printed, e.0, ap length e.1, c.requires.1))

pub byte-requires : goal.byte-requires
byte-requires c =
    let e = c.new-line.ensures.empty in
    omega (arith, decimal-ends w_charges _ c.number.ensures.printed, c.pairs.ensures.printed.ends, pairs-long c.args.peers.now c.args.n, e.0, ap length e.1, c.requires.1)

pub returns : goal.returns
unfolding charges_text
returns c =
    let e = c.new-line.ensures.empty in
    let p = rw (e.0, e.1) at c.number.ensures.printed in
    let a = decimal-ends w_charges _ p in
    let b = c.pairs.ensures.printed.ends in
    rw (peers-pairs c.args.peers.now c.args.n) (prints-to (search rules) (prints-then (omega (arith, a, b, pairs-long c.args.peers.now c.args.n, c.requires.1)) (prints-then (omega (arith, a, c.requires.1)) p c.pairs.ensures.printed) c.byte.ensures.printed))
