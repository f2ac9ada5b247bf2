-- Refusals 24, 25 and 26 of a submission, read on the ledger's charges: the chain of tests in the order of document 01.
use Rattle.std.specs.Prelude.{ℕ, ◌+◌, ◌≤◌, ◌<◌, ◌≡◌, Bool, true, false, not, ◌&&◌, ◌||◌, List, [], ◌∷◌, eqb, leb, ltb, length}
use Rattle.std.proofs.Math.Path.{refl}
use Rattle.std.proofs.Common.{sym, ◌∙◌, arith}
use Rattle.std.proofs.lemmas.Bool.{lt-leb}
use Rattle.words.specs.Lists.{pick}
use Rattle.words.specs.Ids.{id_of}
use Rattle.words.specs.Sums.{cap}
use Rattle.pool_types.specs.declared.Mempool.{Mempool}
use Rattle.pool_types.specs.declared.MempoolConfig.{MempoolConfig}
use Rattle.pool_types.specs.declared.Submission.{Submission}
use Rattle.pool_types.specs.declared.Source.{Source}
use Rattle.pool_types.specs.declared.Source.TheVariants.{Local, Peer}
use Rattle.pool_types.specs.declared.Verdict.{Verdict}
use Rattle.pool_types.specs.declared.Verdict.TheVariants.{Valid, Invalid, Absent}
use Rattle.pool_types.specs.Outcomes.{Outcome, refused, declined, reading_of}
use Rattle.arguments.specs.Arguments.{whole, records, fee_of, height_key, ahead_of}
use Rattle.expiring_cache.specs.Cache.{held}
use Rattle.entries.specs.Entries.{pooled}
use Rattle.boxes.specs.Among.{among, among-cons}
use Rattle.boxes.specs.Records.{index}
use Rattle.indexes.specs.Resolved.{all_resolved, submitted}
use Rattle.pool.specs.Pool.{Tables, no_room}
use Rattle.store.specs.World.{World, Result, unchanged}
use Rattle.checks.specs.Checks.{dear, remote, first, call_refusal, peer_refusal, state_refusal, list_refusal, refusal_of}
use Rattle.admit.specs.Admit.{Admitted, loses, crowded, settled, seated, contested, admit_spec}
use Rattle.process.specs.Process.{Limits, standing_of, judged, unless_refused, processed}
use Rattle.ledger.specs.Charges.{Charge, total_charged, charged_to, payers}
use Rattle.ledger.proofs.ChargeLaws.{payers-are, unpaid-none}
use Rattle.ledger.proofs.SameCharges.{SameCharges}
use Rattle.ledger.proofs.ChargeRefusals.{charge_refusal, refusal_is}
use Rattle.ledger.specs.Demand3.{refused_by, earlier, FailsExactly}

false-true : {A : Type 0} → false ≡ true → A
false-true q = let z : ◌≡◌ {A = ℕ} 0 1 = cc in absurd (omega arith)

-- ---- an outcome that no test of 24, 25 and 26 gave

pub record Later (o : Outcome) : Type 0 where
  pub not-24 : refused_by (24 ∷ []) (reading_of o) ≡ false
  pub not-25 : refused_by (25 ∷ []) (reading_of o) ≡ false
  pub not-26 : refused_by (26 ∷ []) (reading_of o) ≡ false

-- of a test that gives this number, or goes on
after : (t : Bool) (m n : ℕ) (o : Outcome) → eqb m 0 ≡ false → Later (refused m 0) → Later (pick (eqb n 0) o (refused n 0)) → Later (pick (eqb (pick t m n) 0) o (refused (pick t m n) 0))
after true m n o z p q = rw z p
after false m n o z p q = q

plain : Later (refused 7 0) × Later (refused 27 0) × Later (refused 28 0) × Later (refused 8 0)
plain = (
  record { not-24 = refl; not-25 = refl; not-26 = refl },
  record { not-24 = refl; not-25 = refl; not-26 = refl },
  record { not-24 = refl; not-25 = refl; not-26 = refl },
  record { not-24 = refl; not-25 = refl; not-26 = refl },
)

list-later : (most E R : ℕ) (t : Tables) (a : Submission) (ins outs : List ℕ) (o : Outcome) → Later o
    → Later (pick (eqb (list_refusal most E R t a ins outs) 0) o (refused (list_refusal most E R t a ins outs) 0))
unfolding list_refusal
list-later most E R t a ins outs o h =
    after (ltb most (records 5 ins)) 7 _ o refl plain.0
    (after (no_room E R t (records 5 ins + records 7 outs)) 27 _ o refl plain.1
    (after (not (all_resolved (index true t.boxes) (submitted ins))) 28 _ o refl plain.2
    (after (ahead_of (height_key 7 6 outs) a.preheader) 8 0 o refl plain.3 h)))

-- ---- what a verdict leads to

either : (t : Bool) (x y : Admitted) → Later x.outcome → Later y.outcome → Later (pick t x y).outcome
either true x y p q = p
either false x y p q = q

settled-later : (room capacity : ℕ) (js : List ℕ) (t : Tables) → Later (settled room capacity js t).outcome
unfolding settled
settled-later room capacity [] t = record { not-24 = refl; not-25 = refl; not-26 = refl }
settled-later room capacity (j ∷ js) t = record { not-24 = refl; not-25 = refl; not-26 = refl }

admit-later : (visits room : ℕ) (g : MempoolConfig) (t : Tables) (a : Submission) (c : ℕ) (ins outs : List ℕ) → Later (admit_spec visits room g t a c ins outs).outcome
unfolding admit_spec contested seated
admit-later visits room g t a c ins outs =
    either (ltb (fee_of outs) g.min_fee) _ _ (record { not-24 = refl; not-25 = refl; not-26 = refl })
    (either (loses _ _ t.entries) _ _ (record { not-24 = refl; not-25 = refl; not-26 = refl })
    (either (crowded g.capacity _ _) _ _ (record { not-24 = refl; not-25 = refl; not-26 = refl }) (settled-later room g.capacity _ _)))

judged-later : (visits room : ℕ) (st : Mempool) (w : World) (a : Submission) (ins outs : List ℕ) (v : Verdict) → Later (judged visits room st w a ins outs v).outcome
unfolding judged
judged-later visits room st w a ins outs Absent = record { not-24 = refl; not-25 = refl; not-26 = refl }
judged-later visits room st w a ins outs Invalid = record { not-24 = refl; not-25 = refl; not-26 = refl }
judged-later visits room st w a ins outs (Valid c) = admit-later visits room st.config w.tables a c ins outs

-- ---- the tests before 24: 0, or a number of theirs

record Early (n : ℕ) : Type 0 where
  is : (eqb n 0 || among n earlier) ≡ true

gives : (t : Bool) (m n : ℕ) → (eqb m 0 || among m earlier) ≡ true → Early n → Early (pick t m n)
gives true m n p q = record { is = p }
gives false m n p q = q

call-early : (st : Mempool) (room : ℕ) (a : Submission) (ins outs : List ℕ) → Early (call_refusal st room a ins outs)
unfolding call_refusal
call-early st room a ins outs =
    gives st.pass.open 20 _ refl
    (gives (not (whole 5 ins && whole 7 outs)) 1 _ refl
    (gives (ltb room (st.counts.pooled + 1)) 2 _ refl
    (gives (ltb 98304 a.size) 3 _ refl
    (gives (ltb cap (fee_of outs)) 4 _ refl
    (gives (dear a.verdict) 5 _ refl (record { is = refl }))))))

-- ---- 24, 25 and 26, of these charges

module _ (g : MempoolConfig) (cs : List Charge) where
  -- one of an earlier check: nothing is claimed
  early : (from : Source) (n : ℕ) → among n earlier ≡ true → FailsExactly g from (declined n 0) cs
  early from n h =
      let in24 : among n (24 ∷ earlier) ≡ true = more 24 n earlier h in
      record {
        fails-24 = λ z. false-true (sym z ∙ h);
        fails-25 = λ z. false-true (sym z ∙ in24);
        fails-26 = λ z. false-true (sym z ∙ more 25 n (24 ∷ earlier) in24);
      }
    where
      more : (x n : ℕ) (l : List ℕ) → among n l ≡ true → among n (x ∷ l) ≡ true
      more x n l h = among-cons n x l ∙ go (eqb x n) h
        where
          go : (t : Bool) {u : Bool} → u ≡ true → (t || u) ≡ true
          go true q = refl
          go false q = q

  -- a local one is asked none of them
  local : (o : Outcome) → Later o → FailsExactly g Local (reading_of o) cs
  local o h = record { fails-24 = λ z. h.not-24; fails-25 = λ z. h.not-25; fails-26 = λ z. h.not-26 }

  module _ (p : ℕ) (one : 1 ≤ g.cost_per_peer_per_block) where
    abbrev full : Bool
    full = leb g.cost_per_block (total_charged cs)

    abbrev spent : Bool
    spent = leb g.cost_per_peer_per_block (charged_to p cs)

    abbrev known : Bool
    known = among p (payers cs)

    abbrev crowd : Bool
    crowd = leb 256 (length (payers cs))

    -- one that had no charge has spent nothing
    spent-known : (t : Bool) → known ≡ t → (t && spent) ≡ spent
    spent-known true q = refl
    spent-known false q =
        let z : charged_to p cs ≡ 0 = unpaid-none cs p (sym (payers-are cs p) ∙ q) in
        let h : charged_to p cs < g.cost_per_peer_per_block = omega (arith, z, one) in
        sym (lt-leb g.cost_per_peer_per_block (charged_to p cs) h)

    abbrev ending : Bool → Bool → Bool → Outcome → ℕ → Outcome
    ending t u v o n = pick (eqb (first (pick t 24 (pick u 25 (pick v 26 0))) n) 0) o (refused (first (pick t 24 (pick u 25 (pick v 26 0))) n) 0)

    asked : (t u v : Bool) (o : Outcome) (n : ℕ) → full ≡ t → spent ≡ u → (not known && crowd) ≡ v → Later (pick (eqb n 0) o (refused n 0)) → FailsExactly g (Peer p) (reading_of (ending t u v o n)) cs
    asked true u v o n e f i h = record { fails-24 = λ z. sym e; fails-25 = λ z. false-true (sym z); fails-26 = λ z. false-true (sym z) }
    asked false true v o n e f i h = record { fails-24 = λ z. sym e; fails-25 = λ z. sym f; fails-26 = λ z. false-true (sym z) }
    asked false false true o n e f i h = record { fails-24 = λ z. sym e; fails-25 = λ z. sym f; fails-26 = λ z. sym i }
    asked false false false o n e f i h = record { fails-24 = λ z. h.not-24 ∙ sym e; fails-25 = λ z. h.not-25 ∙ sym f; fails-26 = λ z. h.not-26 ∙ sym i }

    pub remote-limits : (o : Outcome) (n : ℕ) → Later (pick (eqb n 0) o (refused n 0))
        → FailsExactly g (Peer p) (reading_of (pick (eqb (first (charge_refusal g.cost_per_block g.cost_per_peer_per_block p cs) n) 0) o (refused (first (charge_refusal g.cost_per_block g.cost_per_peer_per_block p cs) n) 0))) cs
    unfolding charge_refusal
    remote-limits o n h = rw (spent-known known refl) (asked full spent (not known && crowd) o n refl refl refl h)

-- ---- a whole submission

module _ (m : Limits) (st : Mempool) (w : World) (room : ℕ) (a : Submission) (ins outs : List ℕ) (cs : List Charge) (s : SameCharges w.sum w.peers cs)
    (sum : st.sums.interblock_cost ≡ w.sum) (used : st.sums.peers ≡ length w.peers) (one : 1 ≤ st.config.cost_per_peer_per_block) where
  abbrev J : Outcome
  J = (judged m.visits room st w a ins outs a.verdict).outcome

  abbrev L : ℕ
  L = list_refusal m.inputs m.entries m.boxes w.tables a ins outs

  last : Later (pick (eqb L 0) J (refused L 0))
  last = list-later m.inputs m.entries m.boxes w.tables a ins outs J (judged-later m.visits room st w a ins outs a.verdict)

  -- 24, 25 and 26 of a remote one, then the lists
  peers-limits : (from : Source)
      → FailsExactly st.config from (reading_of (pick (eqb (first (pick (remote from) (peer_refusal st (standing_of from w.peers)) 0) L) 0) J (refused (first (pick (remote from) (peer_refusal st (standing_of from w.peers)) 0) L) 0))) cs
  peers-limits Local = local st.config cs _ last
  peers-limits (Peer p) = rw (refusal_is s st (standing_of (Peer p) w.peers) p sum used refl) (remote-limits st.config cs p one J L last)

  -- 22 and 23 before them
  state-limits : (t u : Bool) → FailsExactly st.config a.source
      (reading_of (pick (eqb (first (pick t 22 (pick u 23 (pick (remote a.source) (peer_refusal st (standing_of a.source w.peers)) 0))) L) 0) J
      (refused (first (pick t 22 (pick u 23 (pick (remote a.source) (peer_refusal st (standing_of a.source w.peers)) 0))) L) 0))) cs
  state-limits true u = early st.config cs a.source 22 refl
  state-limits false true = early st.config cs a.source 23 refl
  state-limits false false = peers-limits a.source

  -- and those of the call before all
  call-limits : (n : ℕ) → Early n → (k : ℕ) → FailsExactly st.config a.source (reading_of (pick (eqb k 0) J (refused k 0))) cs
      → FailsExactly st.config a.source (reading_of (pick (eqb (first n k) 0) J (refused (first n k) 0))) cs
  call-limits n h k q = go (eqb n 0) refl h.is
    where
      go : (t : Bool) → eqb n 0 ≡ t → (t || among n earlier) ≡ true → FailsExactly st.config a.source (reading_of (pick (eqb (pick t k n) 0) J (refused (pick t k n) 0))) cs
      go true e i = q
      go false e i = rw e (early st.config cs a.source n i)

  pick-outcome : (n : ℕ) (r : Result) → (unless_refused n r w).outcome ≡ pick (eqb n 0) r.outcome (refused n 0)
  pick-outcome n r = go (eqb n 0)
    where
      go : (t : Bool) → (pick t r (unchanged (refused n 0) w)).outcome ≡ pick t r.outcome (refused n 0)
      go true = refl
      go false = refl

  pub submission-limits : FailsExactly st.config a.source (reading_of (processed m st w room a ins outs).outcome) cs
  unfolding processed refusal_of state_refusal
  submission-limits =
      rw (pick-outcome (refusal_of m.inputs m.entries m.boxes st room w.tables w.cache (standing_of a.source w.peers) a ins outs) (judged m.visits room st w a ins outs a.verdict))
      (call-limits (call_refusal st room a ins outs) (call-early st room a ins outs) _
      (state-limits (held st.config.invalidation_ttl a.time (id_of a.id) w.cache) (pooled (id_of a.id) w.tables.entries)))
