-- The pool's sums and the ledger's charges say the same (document 01, "Demand 3": "Total and peer sums add them"): the block sum is the total, the
-- peers that have a record are the payers, and each record has its peer's sum. A charge keeps that.
use Rattle.std.specs.Prelude.{ℕ, ◌+◌, ◌^◌, ◌≤◌, ◌<◌, ◌≡◌, refl, Bool, true, false, ◌||◌, List, [], ◌∷◌, ◌++◌, eqb, ltb}
use Rattle.std.proofs.Common.{ap, arith, eqb-true, ltb-false}
use Rattle.std.proofs.lemmas.Bool.{eqb-false}
use Rattle.words.specs.Lists.{pick}
use Rattle.words.specs.Sums.{cap}
use Rattle.boxes.specs.Among.{among, among-cons}
use Rattle.pool_types.specs.declared.Source.{Source}
use Rattle.pool_types.specs.declared.Source.TheVariants.{Local, Peer}
use Rattle.peers.specs.declared.PeerRecord.{PeerRecord}
use Rattle.peers.specs.Peers.{charge_peer, holders, sum_of}
use Rattle.peers.specs.Laws.{sum-own, sum-other}
use Rattle.admit.specs.Admit.{charged_sum, cost_of}
use Rattle.process.specs.Process.{charged_peers}
use Rattle.ledger.specs.Charges.{Charge, charges, total_charged, charged_to, payers, Fair}

pub record SameCharges (sum : ℕ) (peers : List PeerRecord) (cs : List Charge) : Type 0 where
  pub total : sum ≡ total_charged cs
  pub records : holders peers ≡ payers cs
  pub sums : (p : ℕ) → sum_of peers p ≡ charged_to p cs

-- ---- at the start, and after "a block not refused"

pub same_none : SameCharges 0 [] []
same_none = record { total = refl; records = refl; sums = λ p. refl }

-- ---- a charge

-- its peer keeps its record, or takes one behind the others
pub holders-charge : (p c : ℕ) (l : List PeerRecord) → holders (charge_peer p c l) ≡ pick (among p (holders l)) (holders l) (holders l ++ (p ∷ []))
holders-charge p c [] = refl
holders-charge p c (q ∷ qs) = rw (among-cons p q.peer (holders qs)) (go (eqb q.peer p) refl (among p (holders qs)) (holders-charge p c qs))
  where
    go : (t : Bool) → eqb q.peer p ≡ t → (u : Bool) → holders (charge_peer p c qs) ≡ pick u (holders qs) (holders qs ++ (p ∷ []))
        → holders (charge_peer p c (q ∷ qs)) ≡ pick (t || u) (q.peer ∷ holders qs) (q.peer ∷ (holders qs ++ (p ∷ [])))
    go true e u h = rw e
    go false e true h = rw e (ap (λ (r : List ℕ). q.peer ∷ r) h)
    go false e false h = rw e (ap (λ (r : List ℕ). q.peer ∷ r) h)

-- where neither sum meets 2^64−1
module _ (p c : ℕ) {sum : ℕ} {peers : List PeerRecord} {cs : List Charge} (same : SameCharges sum peers cs) where
  sums-after : charged_to p cs + c ≤ cap → (k : ℕ) → sum_of (charge_peer p c peers) k ≡ charged_to k (charges (Peer p) c cs)
  sums-after h k = go (eqb p k) refl
    where
      go : (t : Bool) → eqb p k ≡ t → sum_of (charge_peer p c peers) k ≡ pick t c 0 + charged_to k cs
      go true e = rw (← eqb-true p k e) (omega (arith, sum-own p c peers (omega arith), same.sums p))
      go false e = omega (arith, sum-other p c peers k (eqb-false p k e), same.sums k)

  pub same-room : total_charged cs + c ≤ cap → charged_to p cs + c ≤ cap → SameCharges (charged_sum (Peer p) sum c) (charge_peer p c peers) (charges (Peer p) c cs)
  unfolding charged_sum
  same-room h k =
      record {
        total = omega (arith, same.total);
        records = rw (← same.records) (holders-charge p c peers);
        sums = sums-after k;
      }

-- what a charge has found: a remote one, both sums below their limits
abbrev pub Below : ℕ → ℕ → Source → List Charge → Type 0
Below block peer Local cs = Unit {0}
Below block peer (Peer p) cs = (total_charged cs < block) × (charged_to p cs < peer)

-- the limits are at most 2^63 (6: "a cost limit above 2^63") and a cost has 32 bits, so nothing stops at 2^64−1: the pool's sums are the ledger's
pub same-charge : (block peer : ℕ) → block ≤ 2 ^ 63 → peer ≤ 2 ^ 63 → (from : Source) (c : ℕ) → c < 2 ^ 32 → {sum : ℕ} {peers : List PeerRecord} {cs : List Charge}
    → SameCharges sum peers cs
    → Fair block peer cs
    → Below block peer from cs
    → SameCharges (charged_sum from sum c) (charged_peers from c peers) (charges from c cs) × Fair block peer (charges from c cs)
unfolding charged_sum
same-charge block peer b l Local c small same fair below = (same, fair)
same-charge block peer b l (Peer p) c small same fair below = (same-room p c same (omega arith) (omega arith), (below.0, below.1, fair))

-- a cost that passes 3, "size above 98,304", and 5, "costs over 2^32−1", has 32 bits
pub cost-fits : (v size : ℕ) → ltb 4294967295 v ≡ false → ltb 98304 size ≡ false → cost_of v size < 2 ^ 32
cost-fits v size d e = omega (arith, ltb-false 4294967295 v d, ltb-false 98304 size e)
