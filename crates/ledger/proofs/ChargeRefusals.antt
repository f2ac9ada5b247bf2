-- Refusals 24, 25 and 26 as the ledger's charges give them (document 01, "Refusals from the state": "24 block sum at or above its limit (remote); 25 the peer
-- has a record at or above its limit; 26 it has no record and all 256 are used"), and that the pool's tests, `peer_refusal`, give the same.
use Rattle.std.specs.Prelude.{None, Some}
use Rattle.peers.specs.Peers.{account, Standing}
use Rattle.std.specs.Prelude.{ℕ, ◌+◌, ◌^◌, ◌≤◌, ◌<◌, ◌≡◌, refl, Bool, true, false, not, ◌||◌, ◌&&◌, List, [], ◌∷◌, eqb, leb, length}
use Rattle.std.proofs.Common.{sym, ◌∙◌, arith}
use Rattle.std.proofs.Math.Bool.{and-false}
use Rattle.std.proofs.lemmas.List.{length-map}
use borrow.Author.Tests.{leb-true, leb-false, le-leb, lt-leb, not-true}
use Rattle.words.specs.Lists.{pick}
use Rattle.boxes.specs.Among.{among, among-cons}
use Rattle.pool_types.specs.declared.Mempool.{Mempool}
use Rattle.pool_types.specs.declared.Source.{Source}
use Rattle.pool_types.specs.declared.Source.TheVariants.{Local, Peer}
use Rattle.peers.specs.declared.PeerRecord.{PeerRecord}
use Rattle.peers.specs.Peers.{standing_from, standing, charge_peer, holders, holds, sum_in, has_record, at_limit, none_free}
use Rattle.checks.specs.Checks.{remote, peer_refusal}
use Rattle.admit.specs.Admit.{charged_sum}
use Rattle.process.specs.Process.{standing_of}
use Rattle.ledger.specs.Charges.{Charge, charges, total_charged, charged_to, payers}
use Rattle.ledger.proofs.ChargeLaws.{paid, payers-are, unpaid-none}
use Rattle.ledger.proofs.SameCharges.{SameCharges, Below, same-room}

-- 24
abbrev pub block_full : ℕ → List Charge → Bool
block_full block cs = leb block (total_charged cs)

-- 25; the peers that have a record are those that have had a charge since the last block
abbrev pub peer_full : ℕ → ℕ → List Charge → Bool
peer_full peer p cs = among p (payers cs) && leb peer (charged_to p cs)

-- 26: its peer has had no charge since then and 256 others have
abbrev pub records_full : ℕ → List Charge → Bool
records_full p cs = not (among p (payers cs)) && leb 256 (length (payers cs))

-- the first of them, 0 where there is none
unfoldable pub charge_refusal : ℕ → ℕ → ℕ → List Charge → ℕ
charge_refusal block peer p cs = pick (block_full block cs) 24 (pick (peer_full peer p cs) 25 (pick (records_full p cs) 26 0))

-- on the edges: sums at their limits, and one below. "Peer limit 0 with no record: passes 25."
abbrev five : List Charge
five = charges (Peer 7) 5 []

edges : (charge_refusal 5 9 8 five ≡ 24) × (charge_refusal 6 5 7 five ≡ 25) × (charge_refusal 6 6 7 five ≡ 0) × (charge_refusal 6 0 8 five ≡ 0) × (charge_refusal 6 0 7 (charges (Peer 7) 0 []) ≡ 25)
unfolding charge_refusal
edges = (refl, refl, refl, refl, refl)

-- ---- two tests in one

and_left : (a b : Bool) → (a && b) ≡ true → a ≡ true
and_left true b e = refl
and_left false b e = e

and_right : (a b : Bool) → (a && b) ≡ true → b ≡ true
and_right true b e = e
and_right false b e = let z : ◌≡◌ {A = ℕ} 0 1 = cc in absurd (omega arith)

-- a peer with a sum has had a charge
charged-payer : (cs : List Charge) (p : ℕ) → 1 ≤ charged_to p cs → among p (payers cs) ≡ true
charged-payer cs p h = payers-are cs p ∙ go (paid p cs) refl
  where
    go : (t : Bool) → paid p cs ≡ t → t ≡ true
    go true e = refl
    go false e = absurd (omega (arith, unpaid-none cs p e))

-- ---- a peer's standing, by the payers and its sum

has-holder : (i : ℕ) (l : List PeerRecord) (p : ℕ) → holds (standing_from i l p) ≡ among p (holders l)
has-holder i [] p = refl
has-holder i (q ∷ qs) p = rw (among-cons p q.peer (holders qs)) (go (eqb q.peer p) (has-holder (i + 1) qs p))
  where
    go : (t : Bool) → holds (standing_from (i + 1) qs p) ≡ among p (holders qs) → holds (pick t (Some (account i q.cost)) (standing_from (i + 1) qs p)) ≡ (t || among p (holders qs))
    go true h = refl
    go false h = h

limit-read : (limit : ℕ) (at : Standing) → at_limit limit at ≡ (holds at && leb limit (sum_in at))
limit-read limit (Some here) = refl
limit-read limit None = refl

free-read : (room used : ℕ) (at : Standing) → none_free room used at ≡ (not (holds at) && leb room used)
free-read room used (Some here) = refl
free-read room used None = refl

module _ {sum : ℕ} {peers : List PeerRecord} {cs : List Charge} (same : SameCharges sum peers cs) where
  pub has-is : (p : ℕ) → has_record peers p ≡ among p (payers cs)
  has-is p = rw (← same.records) (has-holder 0 peers p)

  pub used-is : length peers ≡ length (payers cs)
  used-is = rw (← same.records) (sym (length-map peers (λ (q : PeerRecord). q.peer)))

  pub limit_is : (limit p : ℕ) → at_limit limit (standing peers p) ≡ (among p (payers cs) && leb limit (charged_to p cs))
  limit_is limit p = rw (limit-read limit (standing peers p), has-is p, same.sums p)

  pub free-is : (room p : ℕ) → none_free room (length peers) (standing peers p) ≡ (not (among p (payers cs)) && leb room (length (payers cs)))
  free-is room p = rw (free-read room (length peers) (standing peers p), has-is p, used-is)

  -- 24
  pub block-met : (block : ℕ) → leb block sum ≡ true → block ≤ total_charged cs
  block-met block e = omega (arith, leb-true block sum e, same.total)

  pub met-block : (block : ℕ) → block ≤ total_charged cs → leb block sum ≡ true
  met-block block h = le-leb block sum (omega (arith, same.total))

  -- 25, for a limit of at least 1: of a limit of 0, `limit_is`
  pub limit-met : (limit p : ℕ) → at_limit limit (standing peers p) ≡ true → limit ≤ charged_to p cs
  limit-met limit p e = leb-true limit (charged_to p cs) (and_right (among p (payers cs)) _ (sym (limit_is limit p) ∙ e))

  pub met-limit : (limit p : ℕ) → 1 ≤ limit → limit ≤ charged_to p cs → at_limit limit (standing peers p) ≡ true
  met-limit limit p some h = limit_is limit p ∙ rw (charged-payer cs p (omega arith)) (le-leb limit (charged_to p cs) h)

  -- 26
  pub none_free_is : (room p : ℕ) → none_free room (length peers) (standing peers p) ≡ true → (among p (payers cs) ≡ false) × (room ≤ length (payers cs))
  none_free_is room p e =
      let q = sym (free-is room p) ∙ e in
      (not-true _ (and_left (not (among p (payers cs))) _ q), leb-true room (length (payers cs)) (and_right (not (among p (payers cs))) _ q))

  pub free-none : (room p : ℕ) → among p (payers cs) ≡ false → room ≤ length (payers cs) → none_free room (length peers) (standing peers p) ≡ true
  free-none room p e h = free-is room p ∙ rw e (le-leb room (length (payers cs)) h)

  -- ---- joined: the number that the pool gives is the ledger's, whatever the limits

  pub refusal_is : (st : Mempool) (at : Standing) (p : ℕ) → st.sums.interblock_cost ≡ sum → st.sums.peers ≡ length peers → at ≡ standing peers p
      → peer_refusal st at ≡ charge_refusal st.config.cost_per_block st.config.cost_per_peer_per_block p cs
  unfolding peer_refusal charge_refusal
  refusal_is st at p s n a = rw (s, n, a, limit_is st.config.cost_per_peer_per_block p, free-is 256 p, same.total)

-- ---- which number it is, exactly, for a peer limit of at least 1

pub record Exactly (n block peer p : ℕ) (cs : List Charge) : Type 0 where
  pub told-24 : n ≡ 24 → block ≤ total_charged cs
  pub gives-24 : block ≤ total_charged cs → n ≡ 24
  pub told-25 : n ≡ 25 → (total_charged cs < block) × (peer ≤ charged_to p cs)
  pub gives-25 : total_charged cs < block → peer ≤ charged_to p cs → n ≡ 25
  pub told-26 : n ≡ 26 → (total_charged cs < block) × (charged_to p cs < peer) × (among p (payers cs) ≡ false) × (256 ≤ length (payers cs))
  pub gives-26 : total_charged cs < block → among p (payers cs) ≡ false → 256 ≤ length (payers cs) → n ≡ 26
  pub told-0 : n ≡ 0 → (total_charged cs < block) × (charged_to p cs < peer) × (among p (payers cs) ≡ false → length (payers cs) < 256)
  pub gives-0 : total_charged cs < block → charged_to p cs < peer → (among p (payers cs) ≡ false → length (payers cs) < 256) → n ≡ 0

-- the tests that led to a number
abbrev chain : Bool → Bool → Bool → ℕ
chain a b c = pick a 24 (pick b 25 (pick c 26 0))

chain-24 : (a b c : Bool) → chain a b c ≡ 24 → a ≡ true
chain-24 true b c e = refl
chain-24 false true c e = absurd (omega arith)
chain-24 false false true e = absurd (omega arith)
chain-24 false false false e = absurd (omega arith)

chain-25 : (a b c : Bool) → chain a b c ≡ 25 → (a ≡ false) × (b ≡ true)
chain-25 true b c e = absurd (omega arith)
chain-25 false true c e = (refl, refl)
chain-25 false false true e = absurd (omega arith)
chain-25 false false false e = absurd (omega arith)

chain-26 : (a b c : Bool) → chain a b c ≡ 26 → (a ≡ false) × (b ≡ false) × (c ≡ true)
chain-26 true b c e = absurd (omega arith)
chain-26 false true c e = absurd (omega arith)
chain-26 false false true e = (refl, refl, refl)
chain-26 false false false e = absurd (omega arith)

chain-0 : (a b c : Bool) → chain a b c ≡ 0 → (a ≡ false) × (b ≡ false) × (c ≡ false)
chain-0 true b c e = absurd (omega arith)
chain-0 false true c e = absurd (omega arith)
chain-0 false false true e = absurd (omega arith)
chain-0 false false false e = (refl, refl, refl)

module _ (block peer p : ℕ) (cs : List Charge) (some : 1 ≤ peer) where
  le-over : peer ≤ charged_to p cs → peer_full peer p cs ≡ true
  le-over h = rw (charged-payer cs p (omega arith)) (le-leb peer (charged_to p cs) h)

  lt-over : charged_to p cs < peer → peer_full peer p cs ≡ false
  lt-over h = rw (lt-leb peer (charged_to p cs) h) (and-false (among p (payers cs)))

  over-lt : peer_full peer p cs ≡ false → charged_to p cs < peer
  over-lt e = go (leb peer (charged_to p cs)) refl
    where
      go : (t : Bool) → leb peer (charged_to p cs) ≡ t → charged_to p cs < peer
      go true q = let y = le-over (leb-true peer (charged_to p cs) q) in let z : ◌≡◌ {A = ℕ} 0 1 = cc in absurd (omega arith)
      go false q = leb-false peer (charged_to p cs) q

  le-crowd : among p (payers cs) ≡ false → 256 ≤ length (payers cs) → records_full p cs ≡ true
  le-crowd e h = rw e (le-leb 256 (length (payers cs)) h)

  crowd-lt : records_full p cs ≡ false → among p (payers cs) ≡ false → length (payers cs) < 256
  crowd-lt e q = leb-false 256 (length (payers cs)) (rw q at e)

  lt-crowd : (among p (payers cs) ≡ false → length (payers cs) < 256) → records_full p cs ≡ false
  lt-crowd h = go (among p (payers cs)) refl
    where
      go : (t : Bool) → among p (payers cs) ≡ t → (not t && leb 256 (length (payers cs))) ≡ false
      go true q = refl
      go false q = lt-leb 256 (length (payers cs)) (h q)

  unpaid-lt : among p (payers cs) ≡ false → charged_to p cs < peer
  unpaid-lt e = omega (arith, unpaid-none cs p (sym (payers-are cs p) ∙ e))

  pub exactly : Exactly (charge_refusal block peer p cs) block peer p cs
  unfolding charge_refusal
  exactly =
      record {
        told-24 = λ e. leb-true block (total_charged cs) (chain-24 (block_full block cs) (peer_full peer p cs) (records_full p cs) e);
        gives-24 = λ h. rw (le-leb block (total_charged cs) h);
        told-25 = λ e. let q = chain-25 (block_full block cs) (peer_full peer p cs) (records_full p cs) e in
            (leb-false block (total_charged cs) q.0, leb-true peer (charged_to p cs) (and_right (among p (payers cs)) _ q.1));
        gives-25 = λ h k. rw (lt-leb block (total_charged cs) h, le-over k);
        told-26 = λ e. let q = chain-26 (block_full block cs) (peer_full peer p cs) (records_full p cs) e in (
          leb-false block (total_charged cs) q.0,
          over-lt q.1,
          not-true _ (and_left (not (among p (payers cs))) _ q.2),
          leb-true 256 (length (payers cs)) (and_right (not (among p (payers cs))) _ q.2),
        );
        gives-26 = λ h e k. rw (lt-leb block (total_charged cs) h, lt-over (unpaid-lt e), le-crowd e k);
        told-0 = λ e. let q = chain-0 (block_full block cs) (peer_full peer p cs) (records_full p cs) e in (leb-false block (total_charged cs) q.0, over-lt q.1, crowd-lt q.2);
        gives-0 = λ h k f. rw (lt-leb block (total_charged cs) h, lt-over k, lt-crowd f);
      }

-- and so for the pool's own tests
pub pool-exactly : {sum : ℕ} {peers : List PeerRecord} {cs : List Charge} → SameCharges sum peers cs → (st : Mempool) (at : Standing) (p : ℕ) → st.sums.interblock_cost ≡ sum → st.sums.peers ≡ length peers → at ≡ standing peers p → 1 ≤ st.config.cost_per_peer_per_block
    → Exactly (peer_refusal st at) st.config.cost_per_block st.config.cost_per_peer_per_block p cs
pool-exactly {cs} same st at p s n a some = rw (refusal_is same st at p s n a) (exactly _ _ p cs some)

-- a submission that none of them refuses may be charged (`same-charge`): its peer's sums are below their limits
pub below-limits : {sum : ℕ} {peers : List PeerRecord} {cs : List Charge} → SameCharges sum peers cs → (st : Mempool) (from : Source) → st.sums.interblock_cost ≡ sum → st.sums.peers ≡ length peers → 1 ≤ st.config.cost_per_peer_per_block
    → pick (remote from) (peer_refusal st (standing_of from peers)) 0 ≡ 0
    → Below st.config.cost_per_block st.config.cost_per_peer_per_block from cs
below-limits same st Local s n some e = tt
below-limits same st (Peer p) s n some e = let h = (pool-exactly same st _ p s n refl some).told-0 e in (h.0, h.1)

-- with a peer limit of 0 too, where a peer without a record is charged once, nothing stops at 2^64−1
pub same-unrefused : (block peer : ℕ) → block ≤ 2 ^ 63 → peer ≤ 2 ^ 63 → (p c : ℕ) → c < 2 ^ 32 → {sum : ℕ} {peers : List PeerRecord} {cs : List Charge}
    → SameCharges sum peers cs
    → charge_refusal block peer p cs ≡ 0
    → SameCharges (charged_sum (Peer p) sum c) (charge_peer p c peers) (charges (Peer p) c cs)
unfolding charge_refusal
same-unrefused block peer b l p c small {cs} same e =
    let q = chain-0 (block_full block cs) (peer_full peer p cs) (records_full p cs) e in
    let t : total_charged cs < block = leb-false block (total_charged cs) q.0 in
    let u : charged_to p cs ≤ 2 ^ 63 = go (among p (payers cs)) refl q.1 in
    same-room p c same (omega arith) (omega arith)
  where
    go : (t : Bool) → among p (payers cs) ≡ t → (t && leb peer (charged_to p cs)) ≡ false → charged_to p cs ≤ 2 ^ 63
    go true a q = omega (arith, leb-false peer (charged_to p cs) q)
    go false a q = omega (arith, unpaid-none cs p (sym (payers-are cs p) ∙ a))
