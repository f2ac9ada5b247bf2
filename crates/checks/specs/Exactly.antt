-- Refusals 8, 25 and 26, "given exactly if its check is reached and" what document 01 says of each, in its words.
use Rattle.std.specs.Prelude.{ℕ, ◌+◌, ◌≤◌, ◌<◌, ◌≡◌, refl, Bool, not, List, leb, ltb}
use Rattle.std.proofs.Common.{arith, le-ltb}
use Rattle.std.proofs.Math.Bool.{true, false}
use Rattle.std.proofs.lemmas.Bool.{lt-leb}
use Rattle.words.specs.Lists.{pick, Once}
use Rattle.pool_types.specs.declared.Mempool.{Mempool}
use Rattle.pool_types.specs.declared.Submission.{Submission}
use Rattle.arguments.specs.Arguments.{records, height_key, ahead_of}
use Rattle.arguments.specs.Heights.{SomeAbove, ahead-some, some-ahead}
use Rattle.peers.specs.Peers.{standing, holders, at_limit, none_free}
use Rattle.peers.specs.Refusals.{AtLimit, NoneFree, limit-met, met-limit, none_left, left-none}
use Rattle.peers.specs.declared.PeerRecord.{PeerRecord}
use Rattle.boxes.specs.Records.{index}
use Rattle.indexes.specs.Resolved.{all_resolved, submitted}
use Rattle.pool.specs.Pool.{Tables, no_room}
use Rattle.checks.specs.Checks.{peer_refusal, list_refusal}

-- a test that is not passed is failed
none_of : (b : Bool) → (b ≡ true → ⊥) → b ≡ false
none_of true h = absurd (h refl)
none_of false h = refl

-- which test gave a number
second : (a b c : Bool) → ◌≡◌ {A = ℕ} (pick a 24 (pick b 25 (pick c 26 0))) 25 → b ≡ true
second true b c e = absurd (omega arith)
second false true c e = refl
second false false true e = absurd (omega arith)
second false false false e = absurd (omega arith)

third : (a b c : Bool) → ◌≡◌ {A = ℕ} (pick a 24 (pick b 25 (pick c 26 0))) 26 → c ≡ true
third true b c e = absurd (omega arith)
third false true c e = absurd (omega arith)
third false false true e = refl
third false false false e = absurd (omega arith)

fourth : (a b c d : Bool) → ◌≡◌ {A = ℕ} (pick a 7 (pick b 27 (pick c 28 (pick d 8 0)))) 8 → d ≡ true
fourth true b c d e = absurd (omega arith)
fourth false true c d e = absurd (omega arith)
fourth false false true d e = absurd (omega arith)
fourth false false false true e = refl
fourth false false false false e = absurd (omega arith)

-- ---- 25 and 26, of a peer p among these records

module _ (st : Mempool) (l : List PeerRecord) (p : ℕ) where
  abbrev limit : ℕ
  limit = st.config.cost_per_peer_per_block

  abbrev full : Bool
  full = leb st.config.cost_per_block st.sums.interblock_cost

  pub given-25 : peer_refusal st (standing l p) ≡ 25 → AtLimit l p st.config.cost_per_peer_per_block
  unfolding peer_refusal
  given-25 e = limit-met l p limit (second full (at_limit limit (standing l p)) (none_free 256 st.sums.peers (standing l p)) e)

  pub given-26 : peer_refusal st (standing l p) ≡ 26 → NoneFree l st.sums.peers p
  unfolding peer_refusal
  given-26 e = none_left l st.sums.peers p (third full (at_limit limit (standing l p)) (none_free 256 st.sums.peers (standing l p)) e)

  -- both are reached where the block's sum is below its limit
  module _ (reached : st.sums.interblock_cost < st.config.cost_per_block) where
    pub gives-25 : Once (holders l) → AtLimit l p st.config.cost_per_peer_per_block → peer_refusal st (standing l p) ≡ 25
    unfolding peer_refusal
    gives-25 o a = rw (lt-leb _ _ reached, met-limit l p limit o a)

    pub gives-26 : NoneFree l st.sums.peers p → peer_refusal st (standing l p) ≡ 26
    unfolding peer_refusal
    gives-26 a =
        let below : at_limit limit (standing l p) ≡ false = none_of _ (λ k. let m = limit-met l p limit k in a.none m.record_of m.in_use m.own) in
        rw (lt-leb _ _ reached, below, left-none l st.sums.peers p a)

-- ---- 8

module _ (most E R : ℕ) (t : Tables) (a : Submission) (ins outs : List ℕ) where
  pub given-8 : list_refusal most E R t a ins outs ≡ 8 → SomeAbove 7 6 outs a.preheader
  unfolding list_refusal
  given-8 e =
      ahead-some 7 6 outs a.preheader
      (fourth (ltb most (records 5 ins)) (no_room E R t (records 5 ins + records 7 outs)) (not (all_resolved (index true t.boxes) (submitted ins))) (ahead_of (height_key 7 6 outs) a.preheader) e)

  -- it is reached where 7, 27 and 28 are not given
  pub gives-8 : records 5 ins ≤ most → no_room E R t (records 5 ins + records 7 outs) ≡ false → all_resolved (index true t.boxes) (submitted ins) ≡ true
      → SomeAbove 7 6 outs a.preheader → list_refusal most E R t a ins outs ≡ 8
  unfolding list_refusal
  gives-8 few free found s = rw (le-ltb _ _ few, free, found, some-ahead 7 6 outs a.preheader s)
