-- What a submission that passed every test is known to be: what the steps after the tests rest on.
use Rattle.peers.specs.Peers.{Standing}
use Rattle.std.specs.Prelude.{ℕ, ◌+◌, ◌≤◌, ◌<◌, ◌≡◌, refl, Bool, true, false, ◌&&◌, List, T, eqb, ltb}
use Rattle.std.proofs.Common.{sym, ap, ◌∙◌, arith, lit<}
use borrow.Author.Tests.{ltb-false, leb-false, eqb-true, eqb-false, not-false}
use Rattle.words.specs.Lists.{pick, yes}
use Rattle.words.specs.Sums.{cap}
use Rattle.words.specs.Ids.{id_of}
use Rattle.pool_types.specs.declared.Mempool.{Mempool}
use Rattle.pool_types.specs.declared.Submission.{Submission}
use Rattle.pool_types.specs.declared.Verdict.{Verdict}
use Rattle.pool_types.specs.declared.Verdict.TheVariants.{Valid}
use Rattle.arguments.specs.Arguments.{whole, records, fee_of}
use Rattle.expiring_cache.specs.Cache.{Held, held}
use Rattle.peers.specs.Peers.{at_limit, none_free}
use Rattle.entries.specs.Entries.{Entry, pooled}
use Rattle.entries.specs.Layout.{entries_of, entries_room}
use Rattle.boxes.specs.Layout.{boxes_room}
use Rattle.boxes.specs.Index.{BoxesKept}
use Rattle.pool.specs.Pool.{Tables, tables_of, PoolFits, Room}
use Rattle.pool.specs.Laws.{room-left}
use Rattle.checks.specs.Checks.{dear, remote, first, call_refusal, peer_refusal, state_refusal, list_refusal, refusal_of}

-- a remote submission is below both limits, and there is a record for its peer
pub record Welcome (st : Mempool) (at : Standing) : Type 0 where
  pub block : st.sums.interblock_cost < st.config.cost_per_block
  pub peer : at_limit st.config.cost_per_peer_per_block at ≡ false
  pub place : none_free 256 st.sums.peers at ≡ false

-- e and b are the words of both tables; `most` inputs are allowed, and the answer has room for `room` ids
pub record Passed (most : ℕ) (e b : List ℕ) (st : Mempool) (room : ℕ) (at : Standing) (a : Submission) (ins outs : List ℕ) : Type 0 where
  pub closed : st.pass.open ≡ false
  pub inputs-whole : whole 5 ins ≡ true
  pub outputs-whole : whole 7 outs ≡ true
  pub answer : st.counts.pooled + 1 ≤ room
  pub size : a.size ≤ 98304
  pub fee : fee_of outs ≤ cap
  pub cost : (c : ℕ) → a.verdict ≡ Valid c → c < 4294967296
  pub welcome : remote a.source ≡ true → Welcome st at
  pub few : records 5 ins ≤ most
  pub free : Room e b st.counts (records 5 ins + records 7 outs)

-- ---- a chain of tests that gives 0

-- what the test of refusal k says, and what the rest gives
passes : (b : Bool) (k n : ℕ) → T (ltb 0 k) → pick b k n ≡ 0 → (b ≡ false) × (n ≡ 0)
passes true k n h e = let q : 0 < k = lit< h in absurd (omega arith)
passes false k n h e = (refl, e)

-- the first number that is not 0 is 0 where both are
both_zero : (m n : ℕ) → first m n ≡ 0 → (m ≡ 0) × (n ≡ 0)
both_zero m n e = go (eqb m 0) refl e
  where
    go : (t : Bool) → eqb m 0 ≡ t → pick t n m ≡ 0 → (m ≡ 0) × (n ≡ 0)
    go true q z = (eqb-true m 0 q, z)
    go false q z = absurd (eqb-false m 0 q z)

-- two tests together
both_true : (x y : Bool) → (x && y) ≡ true → (x ≡ true) × (y ≡ true)
both_true true y e = (refl, e)
both_true false y e = let z : ◌≡◌ {A = ℕ} 0 1 = cc in absurd (omega arith)

cheap : (v : Verdict) → dear v ≡ false → (c : ℕ) → v ≡ Valid c → c < 4294967296
cheap v h c e = let q : ltb 4294967295 c ≡ false = ap dear (sym e) ∙ h in omega (arith, ltb-false 4294967295 c q)

-- ---- so all of them passed

module _ (st : Mempool) (room : ℕ) (a : Submission) (ins outs : List ℕ) where
  record Called : Type 0 where
    closed : st.pass.open ≡ false
    lists : (whole 5 ins && whole 7 outs) ≡ true
    answer : st.counts.pooled + 1 ≤ room
    size : a.size ≤ 98304
    fee : fee_of outs ≤ cap
    cost : dear a.verdict ≡ false

  called : call_refusal st room a ins outs ≡ 0 → Called
  unfolding call_refusal
  called e =
      let p = passes _ 20 _ tt e in
      let q = passes _ 1 _ tt p.1 in
      let r = passes _ 2 _ tt q.1 in
      let s = passes _ 3 _ tt r.1 in
      let t = passes _ 4 _ tt s.1 in
      let u = passes _ 5 _ tt t.1 in
      record {
        closed = p.0;
        lists = not-false _ q.0;
        answer = ltb-false _ _ r.0;
        size = ltb-false _ _ s.0;
        fee = ltb-false _ _ t.0;
        cost = u.0;
      }

pub greeted : (st : Mempool) (at : Standing) → peer_refusal st at ≡ 0 → Welcome st at
unfolding peer_refusal
greeted st at e =
    let p = passes _ 24 _ tt e in
    let q = passes _ 25 _ tt p.1 in
    let r = passes _ 26 _ tt q.1 in
    record { block = leb-false _ _ p.0; peer = q.0; place = r.0 }

module _ (st : Mempool) (rows : List Held) (es : List Entry) (at : Standing) (a : Submission) where
  unopposed : state_refusal st rows es at a ≡ 0 → (pooled (id_of a.id) es ≡ false) × (remote a.source ≡ true → Welcome st at)
  unfolding state_refusal
  unopposed e =
      let p = passes (held st.config.invalidation_ttl a.time (id_of a.id) rows) 22 _ tt e in
      let q = passes _ 23 _ tt p.1 in
      (q.0, λ r. greeted st at (sym (yes _ _ _ r) ∙ q.1))

-- by what each of the three chains gave, on any words
pub passed_by : (most : ℕ) (e b : List ℕ) (st : Mempool) (room : ℕ) (at : Standing) (a : Submission) (ins outs : List ℕ)
    → call_refusal st room a ins outs ≡ 0 → (remote a.source ≡ true → Welcome st at) → records 5 ins ≤ most → Room e b st.counts (records 5 ins + records 7 outs)
    → Passed most e b st room at a ins outs
passed_by most e b st room at a ins outs p w l f =
    let k = called st room a ins outs p in
    let h = both_true _ _ k.lists in
    record {
      closed = k.closed;
      inputs-whole = h.0;
      outputs-whole = h.1;
      answer = k.answer;
      size = k.size;
      fee = k.fee;
      cost = cheap a.verdict k.cost;
      welcome = w;
      few = l;
      free = f;
    }

-- .. and where the box records are counted right
pub passed : (most : ℕ) (e b : List ℕ) (st : Mempool) (room : ℕ) (rows : List Held) (at : Standing) (a : Submission) (ins outs : List ℕ)
    → PoolFits e b st.counts → BoxesKept b st.counts.records → refusal_of most (entries_room e) (boxes_room b) st room (tables_of e b st.counts) rows at a ins outs ≡ 0
    → Passed most e b st room at a ins outs
unfolding refusal_of list_refusal
passed most e b st room rows at a ins outs f c h =
    let p = both_zero _ _ h in
    let q = both_zero _ _ p.1 in
    let s = unopposed st rows (entries_of e st.counts.pooled) at a q.0 in
    let t = passes _ 7 _ tt q.1 in
    let u = passes _ 27 _ tt t.1 in
    passed_by most e b st room at a ins outs p.0 s.1 (ltb-false _ _ t.0) (room-left e b st.counts _ f c u.0)

-- what no test refuses is not pooled
pub unpooled : (most E R : ℕ) (st : Mempool) (room : ℕ) (t : Tables) (rows : List Held) (at : Standing) (a : Submission) (ins outs : List ℕ)
    → refusal_of most E R st room t rows at a ins outs ≡ 0 → pooled (id_of a.id) t.entries ≡ false
unfolding refusal_of
unpooled most E R st room t rows at a ins outs h =
    let p = both_zero (call_refusal st room a ins outs) (first (state_refusal st rows t.entries at a) (list_refusal most E R t a ins outs)) h in
    let q = both_zero (state_refusal st rows t.entries at a) (list_refusal most E R t a ins outs) p.1 in
    (unopposed st rows t.entries at a q.0).0
