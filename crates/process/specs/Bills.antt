-- What is due from a peer: "A charge adds the cost to the block sum and to the peer's record, taking a free one if it has none" (document 01,
-- "A submission"). The call by value says what is due; the records are charged with it.
use Rattle.std.specs.Prelude.{Option, None, Some}
use Rattle.peers.specs.Peers.{Standing}
use Rattle.std.specs.Prelude.{ℕ, ◌+◌, ◌≤◌, ◌≡◌, refl, true, false, List, length}
use Rattle.std.proofs.Common.{ap, arith}
use Rattle.std.proofs.lemmas.Option.{same_Some, none-some}
use Rattle.words.specs.Sums.{capped}
use Rattle.pool_types.specs.declared.Mempool.{Mempool}
use Rattle.pool_types.specs.declared.Sums.{Sums}
use Rattle.pool_types.specs.declared.Source.{Source}
use Rattle.pool_types.specs.declared.Source.TheVariants.{Local, Peer}
use Rattle.peers.specs.Peers.{peers_of, standing, charge_peer, none_free, used_after}
use Rattle.peers.specs.Laws.{room_after}
use Rattle.peers.specs.declared.PeerRecord.{PeerRecord}
use Rattle.checks.specs.Checks.{remote}
use Rattle.admit.specs.Admit.{charged_sum}
use Rattle.process.specs.Process.{standing_of, charged_peers}
use Rattle.process.specs.declared.submission.Due.{Due}
use Rattle.process.specs.declared.submission.Bill.{Bill}
use Rattle.process.specs.declared.submission.Submitted.{Submitted}
use Rattle.pool_types.specs.declared.ProcessingOutcome.{ProcessingOutcome}

-- ---- what is due

-- sums s, and a peer that stands at `at`
abbrev pub bill_of : Sums → Source → Standing → ℕ → Bill
bill_of s Local at c = record { sums = s; due = None }
bill_of s (Peer p) at c =
    record {
      sums = record { interblock_cost = capped (s.interblock_cost + c); peers = used_after s.peers at };
      due = Some (record { used = s.peers; standing = at; peer = p; cost = c });
    }

-- a submission after which nothing is due
abbrev pub uncharged : Mempool → ProcessingOutcome → Submitted
uncharged st o = record { mempool = st; outcome = o; due = None }

-- what is due, if anything, can be charged to the records ys
pub record Payable (ys : List PeerRecord) (due : Option Due) : Type 0 where
  pub stands : (d : Due) → due ≡ Some d → d.standing ≡ standing (peers_of ys d.used) d.peer
  pub place : (d : Due) → due ≡ Some d → used_after d.used d.standing ≤ length ys

-- it was charged: the records were ys and are zs
pub record Paid (ys zs : List PeerRecord) (due : Option Due) : Type 0 where
  pub size : length zs ≡ length ys
  pub charged : (d : Due) → due ≡ Some d → peers_of zs (used_after d.used d.standing) ≡ charge_peer d.peer d.cost (peers_of ys d.used)
  pub spared : due ≡ None → zs ≡ ys

-- ---- its laws

pub nothing-due : (ys : List PeerRecord) → Payable ys None
nothing-due ys = record { stands = λ d q. absurd (none-some d q); place = λ d q. absurd (none-some d q) }

-- what a bill leaves, once it was paid
pub record Billed (ys : List PeerRecord) (s : Sums) (from : Source) (cost : ℕ) (r : Bill) : Type 0 where
  pub payable : Payable ys r.due
  pub sum : r.sums.interblock_cost ≡ charged_sum from s.interblock_cost cost
  pub peers : (zs : List PeerRecord) → Paid ys zs r.due → peers_of zs r.sums.peers ≡ charged_peers from cost (peers_of ys s.peers)
  pub used : r.sums.peers ≤ 256

pub billed : (from : Source) (ys : List PeerRecord) (s : Sums) {at : Standing} (cost : ℕ) → 256 ≤ length ys → s.peers ≤ 256
    → at ≡ standing_of from (peers_of ys s.peers) → (remote from ≡ true → none_free 256 s.peers at ≡ false) → Billed ys s from cost (bill_of s from at cost)
unfolding charged_sum
billed Local ys s {at} cost room few q h =
    record { payable = nothing-due ys; sum = refl; peers = λ zs p. ap (λ (l : List PeerRecord). peers_of l s.peers) (p.spared refl); used = few }
billed (Peer p) ys s {at} cost room few q h =
    let left : used_after s.peers at ≤ 256 = room_after 256 s.peers 256 at (h refl) few (omega arith) in
    record {
      payable = record { stands = λ d o. rw (← same_Some _ d o) q; place = λ d o. rw (← same_Some _ d o) (omega (arith, left, room)) };
      sum = refl;
      peers = λ zs d. d.charged _ refl;
      used = left;
    }
