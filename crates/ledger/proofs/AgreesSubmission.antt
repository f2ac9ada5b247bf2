-- A submission keeps the agreement, and its refusals 24 to 26 are those of the ledger's charges.
use Rattle.peers.specs.Peers.{Standing}
use Prim.Native.Nat.{ℕ, ◌+◌, ◌^◌, ◌≤◌, ◌<◌}
use Rattle.std.specs.Prelude.{◌≡◌, Bool, not, ◌&&◌, ◌||◌, List, leb, ltb}
use Rattle.std.proofs.Math.Path.{refl, ap}
use Rattle.std.proofs.Common.{sym, ◌∙◌, arith, eqb-true}
use Rattle.std.proofs.Math.Bool.{true, false}
use Rattle.std.proofs.Math.Decide.{dec_le}
use Rattle.std.proofs.Math.Dec.{eqb}
use Rattle.words.specs.Lists.{pick}
use Rattle.words.specs.Ids.{id_of}
use Rattle.words.specs.Sums.{cap}
use Rattle.pool_types.specs.declared.Mempool.{Mempool}
use Rattle.pool_types.specs.declared.MempoolConfig.{MempoolConfig}
use Rattle.pool_types.specs.declared.Submission.{Submission}
use Rattle.pool_types.specs.declared.Source.{Source}
use Rattle.pool_types.specs.declared.Source.TheVariants.{Local, Peer}
use Rattle.pool_types.specs.declared.Verdict.{Verdict}
use Rattle.pool_types.specs.declared.Verdict.TheVariants.{Valid, Invalid, Absent}
use Rattle.pool_types.specs.Outcomes.{Outcome, refused, declined, reading_of}
use Rattle.arguments.specs.Arguments.{whole, records, fee_of, height_key, ahead_of}
use Rattle.expiring_cache.specs.Cache.{Held, held}
use Rattle.peers.specs.Peers.{at_limit, none_free, standing}
use Rattle.entries.specs.Entries.{pooled}
use Rattle.entries.specs.Layout.{entries_room}
use Rattle.boxes.specs.Layout.{boxes_room}
use Rattle.boxes.specs.Records.{index}
use Rattle.indexes.specs.Resolved.{all_resolved, submitted}
use Rattle.pool.specs.Pool.{Tables, no_room}
use Rattle.store.specs.World.{World, unchanged}
use Rattle.checks.specs.Checks.{dear, remote, call_refusal, peer_refusal, state_refusal, list_refusal, refusal_of}
use Rattle.checks.specs.Passed.{Passed, Welcome, passed, unpooled}
use Rattle.admit.specs.Admit.{Admitted, cost_of, admit_spec}
use Rattle.process.specs.Process.{standing_of, admitted, judged, processed}
use Rattle.ledger.specs.Charges.{charges, total_charged, charged_to}
use Rattle.ledger.proofs.SameCharges.{Below, same-charge}
use Rattle.ledger.proofs.ChargeRefusals.{met-limit}
use Rattle.ledger.specs.Ledger.{Submit, Ledger, visit_cap, charge_for, turned_away, hears_submission}
use Rattle.ledger.proofs.Admissions.{cost-is, Settles, admission-same}
use Rattle.ledger.proofs.Limited.{submission-limits}
use Rattle.ledger.specs.Demand3.{FailsExactly}
use Rattle.ledger.specs.Run.{Moment, world_at, limits_at, pass_kept, Step}
use Rattle.ledger.proofs.Steps.{fits-pool, used-is}
use Rattle.ledger.proofs.Agrees.{Bounds, SameWorld, Agrees, became-agrees}

-- ---- the numbers that the tests give charge nobody

record Quiet (n : ℕ) : Type 0 where
  low : (eqb n 10 || eqb n 29) ≡ false
  full : eqb n 30 ≡ false

either : (t : Bool) (m n : ℕ) → Quiet m → Quiet n → Quiet (pick t m n)
either true m n p q = p
either false m n p q = q

gives : (t : Bool) (m n : ℕ) → (eqb m 10 || eqb m 29) ≡ false → eqb m 30 ≡ false → Quiet n → Quiet (pick t m n)
gives t m n p r q = either t m n (record { low = p; full = r }) q

none : Quiet 0
none = record { low = refl; full = refl }

module _ (most E R room : ℕ) (st : Mempool) (t : Tables) (rows : List Held) (at : Standing) (a : Submission) (ins outs : List ℕ) where
  call-quiet : Quiet (call_refusal st room a ins outs)
  unfolding call_refusal
  call-quiet =
      gives st.pass.open 20 _ refl refl
      (gives (not (whole 5 ins && whole 7 outs)) 1 _ refl refl
      (gives (ltb room (st.counts.pooled + 1)) 2 _ refl refl
      (gives (ltb 98304 a.size) 3 _ refl refl
      (gives (ltb cap (fee_of outs)) 4 _ refl refl
      (gives (dear a.verdict) 5 _ refl refl none)))))

  peer-quiet : Quiet (peer_refusal st at)
  unfolding peer_refusal
  peer-quiet =
      gives (leb st.config.cost_per_block st.sums.interblock_cost) 24 _ refl refl
      (gives (at_limit st.config.cost_per_peer_per_block at) 25 _ refl refl
      (gives (none_free 256 st.sums.peers at) 26 _ refl refl none))

  state-quiet : Quiet (state_refusal st rows t.entries at a)
  unfolding state_refusal
  state-quiet =
      gives (held st.config.invalidation_ttl a.time (id_of a.id) rows) 22 _ refl refl
      (gives (pooled (id_of a.id) t.entries) 23 _ refl refl
      (either (remote a.source) _ _ peer-quiet none))

  list-quiet : Quiet (list_refusal most E R t a ins outs)
  unfolding list_refusal
  list-quiet =
      gives (ltb most (records 5 ins)) 7 _ refl refl
      (gives (no_room E R t (records 5 ins + records 7 outs)) 27 _ refl refl
      (gives (not (all_resolved (index true t.boxes) (submitted ins))) 28 _ refl refl
      (gives (ahead_of (height_key 7 6 outs) a.preheader) 8 _ refl refl none)))

  refusal-quiet : Quiet (refusal_of most E R st room t rows at a ins outs)
  unfolding refusal_of
  refusal-quiet =
      either (eqb (call_refusal st room a ins outs) 0) _ _
      (either (eqb (state_refusal st rows t.entries at a) 0) _ _ list-quiet state-quiet)
      call-quiet

-- the ledger does not hear of them
quiet_same : (g : MempoolConfig) (a : Submission) (ins outs : List ℕ) (n : ℕ) (l : Ledger) → Quiet n → hears_submission g a ins outs (declined n 0) l ≡ l
unfolding hears_submission turned_away
quiet_same g a ins outs n l q = rw (q.low, q.full)

-- ---- what a submission leaves of pool and ledger

-- the ledger l became k: the world agrees with it, and what next gave last is as it was
record Keeps (g : MempoolConfig) (w : World) (l k : Ledger) : Type 0 where
  same : SameWorld g w k
  given : k.given ≡ l.given

module _ (g : MempoolConfig) (bounds : Bounds g) (m : Moment) (l : Ledger) (s : Agrees g m l) (room : ℕ) (a : Submission) (ins outs : List ℕ) where
  abbrev st : Mempool
  st = m.state

  abbrev w : World
  w = world_at m

  abbrev at : Standing
  at = standing_of a.source w.peers

  abbrev n : ℕ
  n = refusal_of 5000 (entries_room m.entries) (boxes_room m.boxes) st room w.tables w.cache at a ins outs

  -- a remote one that was welcome found both sums below their limits
  below : (from : Source) → (remote from ≡ true → Welcome st (standing_of from w.peers)) → Below g.cost_per_block g.cost_per_peer_per_block from l.charged
  below Local h = tt
  below (Peer p) h =
      let z : Welcome st (standing w.peers p) = h refl in
      let b : total_charged l.charged < g.cost_per_block = rw (← s.config, ← s.world.charges.total) z.block in
      (b, go (dec_le g.cost_per_peer_per_block (charged_to p l.charged)) z.peer)
    where
      go : Dec (g.cost_per_peer_per_block ≤ charged_to p l.charged) → at_limit st.config.cost_per_peer_per_block (standing w.peers p) ≡ false → charged_to p l.charged < g.cost_per_peer_per_block
      go (yes x) z =
          let q : true ≡ false = sym (met-limit s.world.charges g.cost_per_peer_per_block p bounds.one x) ∙ ap (λ (c : MempoolConfig). at_limit c.cost_per_peer_per_block (standing w.peers p)) (sym s.config) ∙ z in
          let y : ◌≡◌ {A = ℕ} 0 1 = cc in
          absurd (omega arith)
      go (no x) z = omega (arith, x)

  module _ (p : Passed 5000 m.entries m.boxes st room at a ins outs) (new : pooled (id_of a.id) w.tables.entries ≡ false) where
    admits : (c : ℕ) (v : a.verdict ≡ Valid c) → Keeps g (admitted (admit_spec visit_cap room g w.tables a c ins outs) w a c).world l (hears_submission g a ins outs (reading_of (admit_spec visit_cap room g w.tables a c ins outs).outcome) l)
    unfolding charge_for
    admits c v =
        let d : Admitted = admit_spec visit_cap room g w.tables a c ins outs in
        let z : Settles g a c ins outs v l d = admission-same g a c ins outs v l w.tables s.world.book new room in
        let k : ℕ = cost_of c a.size in
        let small : k < 2 ^ 32 = omega (arith, p.size, p.cost c v) in
        let q = same-charge g.cost_per_block g.cost_per_peer_per_block bounds.block bounds.peer a.source k small s.world.charges s.world.fair (below a.source p.welcome) in
        let e : (hears_submission g a ins outs (reading_of d.outcome) l).charged ≡ charges a.source k l.charged = ap (λ (x : Ledger). x.charged) z.rest ∙ ap (λ x. charges a.source x l.charged) (cost-is g a c ins outs v l) in
        record {
          same = record { book = z.book; charges = rw e q.0; fair = rw e q.1 };
          given = ap (λ (x : Ledger). x.given) z.rest;
        }

    judges : (v : Verdict) → a.verdict ≡ v → Keeps g (judged visit_cap room st w a ins outs v).world l (hears_submission g a ins outs (reading_of (judged visit_cap room st w a ins outs v).outcome) l)
    unfolding judged hears_submission turned_away
    judges Absent e = record { same = s.world; given = refl }
    judges Invalid e = record { same = record { book = s.world.book; charges = s.world.charges; fair = s.world.fair }; given = refl }
    judges (Valid c) e = rw s.config (admits c e)

  keeps : Keeps g (processed (limits_at m) st w room a ins outs).world l (hears_submission g a ins outs (reading_of (processed (limits_at m) st w room a ins outs).outcome) l)
  unfolding processed
  keeps = go (eqb n 0) refl
    where
      go : (t : Bool) → eqb n 0 ≡ t → Keeps g (pick t (judged visit_cap room st w a ins outs a.verdict) (unchanged (refused n 0) w)).world l (hears_submission g a ins outs (reading_of (pick t (judged visit_cap room st w a ins outs a.verdict) (unchanged (refused n 0) w)).outcome) l)
      go true e = judges (passed 5000 m.entries m.boxes st room w.cache at a ins outs (fits-pool m s.kept) s.kept.indexed.pool.boxes (eqb-true n 0 e)) (unpooled 5000 (entries_room m.entries) (boxes_room m.boxes) st room w.tables w.cache at a ins outs (eqb-true n 0 e)) a.verdict refl
      go false e = rw (quiet_same g a ins outs n l (refusal-quiet 5000 (entries_room m.entries) (boxes_room m.boxes) room st w.tables w.cache at a ins outs)) (record { same = s.world; given = refl })

-- ---- the call

module _ (g : MempoolConfig) (bounds : Bounds g) (m k : Moment) (l : Ledger) (a : Submission) (ins outs : List ℕ) (o : Outcome) (s : Agrees g m l) (c : Step (Submit a ins outs) o m k) where
  pub submission-agrees : Agrees g k (hears_submission g a ins outs (reading_of o) l)
  submission-agrees =
      let z = keeps g bounds m l s c.room a ins outs in
      became-agrees g m k l o (pass_kept m (processed (limits_at m) m.state (world_at m) c.room a ins outs)) (λ x. hears_submission g a ins outs x l) s c.left
      (record { world = z.same; given = λ h. z.given ∙ s.given h })

  pub submission-fails : FailsExactly g a.source (reading_of o) l.charged
  submission-fails =
      rw ((c.left s.kept).outcome, ← s.config)
      (submission-limits (limits_at m) m.state (world_at m) c.room a ins outs l.charged s.world.charges refl (used-is m s.kept) (rw s.config bounds.one))
