-- `peers::charge_peer` meets its contract: the record is stored at the place that the standing names, which is the charge by `charged-peers` and
-- `charged-rest`. Assumes nothing.
use Rattle.std.proofs.Common.{◌<◌, length, rules, arith}
use Rattle.peers.specs.Laws.{place-used, charged-peers, charged-rest}
use Rattle.peers.proofs.charge_peer.Goals as goal

pub offset_bounds-records-at : goal.offset_bounds-records-at
offset_bounds-records-at c =
    let w = place-used c.args.records.now c.args.used c.args.peer c.args.found c.requires.0 c.requires.1 in
    let h : c.place-at.result < length c.args.records.now = omega (arith, w, c.place-at.ensures, c.requires.1) in
    search rules

pub bounds-records-at : goal.bounds-records-at
bounds-records-at c =
    let w = place-used c.args.records.now c.args.used c.args.peer c.args.found c.requires.0 c.requires.1 in
    omega (arith, w, c.place-at.ensures, c.requires.1)

pub returns : goal.returns
returns c =
    rw (c.place-at.ensures, c.charged.ensures) (
      charged-peers c.args.records.now c.args.used c.args.peer c.args.cost c.args.found c.requires.0 c.requires.1,
      charged-rest c.args.records.now c.args.used c.args.peer c.args.cost c.args.found c.requires.0 c.requires.1,
    )
