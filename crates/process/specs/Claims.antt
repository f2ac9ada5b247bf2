-- What the submission by value claims, way by way: its caller charges what is due to the peer records, and then all is as defined.
use Rattle.peers.specs.Peers.{Standing}
use Rattle.std.specs.Prelude.{ℕ, ◌/◌, ◌≤◌, min, max, ◌≡◌, Bool, true, false, not, List, leb, ltb, length}
use Rattle.std.proofs.Math.Path.{refl, ap}
use Rattle.std.proofs.Common.{sym, ◌∙◌, arith}
use borrow.Author.Tests.{leb-true}
use Rattle.words.specs.Lists.{pick}
use Rattle.words.specs.Ids.{id_of}
use Rattle.pool_types.specs.declared.Done.{Done}
use Rattle.pool_types.specs.declared.Mempool.{Mempool}
use Rattle.pool_types.specs.declared.Submission.{Submission}
use Rattle.pool_types.specs.declared.Verdict.{Verdict}
use Rattle.pool_types.specs.declared.Verdict.TheVariants.{Invalid, Absent}
use Rattle.pool_types.specs.declared.ProcessingOutcome.{ProcessingOutcome}
use Rattle.pool_types.specs.declared.ProcessingOutcome.TheVariants.{Declined, VerdictNeeded}
use Rattle.pool_types.specs.Refusals.{refusal_number}
use Rattle.pool_types.specs.declared.Refusal.{Refusal}
use Rattle.pool_types.specs.declared.Refusal.TheVariants.{InvalidVerdict}
use Rattle.pool_types.specs.Outcomes.{Outcome, refused, needed, processed_of, written_of}
use Rattle.expiring_cache.specs.Layout.{cache_room, CacheKept, room-still, Inserted}
use Rattle.entries.specs.Entries.{pooled}
use Rattle.entries.specs.Layout.{entries_of}
use Rattle.pool.specs.Pool.{PoolKept}
use Rattle.peers.specs.Peers.{peers_of}
use Rattle.peers.specs.declared.PeerRecord.{PeerRecord}
use Rattle.answers.specs.Answers.{wrote_nothing}
use Rattle.store.specs.World.{world_of, Result, unchanged}
use Rattle.store.specs.Fits.{Testable, Fits, Kept, all_fit, goes_on, un_not, met, was-met, cache-fits}
use Rattle.store.specs.Fits.{unfit as no-fit}
use Rattle.store.specs.Spares.{lent, Spares, spares-same, spares-refused}
use Rattle.admit.specs.Admit.{Admitted, cost_of}
use Rattle.admit.specs.Admission.{Leaves}
use Rattle.admit.specs.Spares.{SparesWords}
use Rattle.admit.specs.Placed.{of_admission}
use Rattle.pool_types.specs.declared.Counts.{Counts}
use Rattle.process.specs.Process.{standing_of, admitted, judged}
use Rattle.process.specs.Post.{Post}
use Rattle.process.specs.Numbers.{of_submission, unfit-ours, admission-ours, charging-of}
use Rattle.process.specs.Bills.{uncharged, Payable, Paid, Billed, nothing-due}
use Rattle.process.specs.declared.submission.Bill.{Bill}
use Rattle.process.specs.declared.submission.Submitted.{Submitted}

-- what is handed back of a submission by value
abbrev pub answered : Submitted → Done ProcessingOutcome
answered r = record { mempool = r.mempool; outcome = r.outcome }

-- words of entries, boxes and cache: the counts fit, the cache has room for its capacity, and no more than 256 peer records are in use
pub record Ready (e b k : List ℕ) (st : Mempool) : Type 0 where
  pub tests : Testable e b k st
  pub keeps : max st.config.invalidation_capacity 1 ≤ cache_room k
  pub used : st.sums.peers ≤ 256

-- what the definitions are met by, of a submission that passed its tests: the store is kept, and the id is not pooled
pub record Sure (e b k : List ℕ) (ys : List PeerRecord) (st : Mempool) (sub : Submission) : Type 0 where
  pub kept : Kept e b k ys st
  pub new : pooled (id_of sub.id) (entries_of e st.counts.pooled) ≡ false

-- a submission by value on words e₀, b₀ and k₀ that fit, where the peer records are ys: what is due can be charged, and once it was, all is as defined where P
pub record Claims (P : Type 0) (e₀ b₀ k₀ : List ℕ) (st : Mempool) (r : Submitted) (e b k : List ℕ) (ys : List PeerRecord) (a₀ a : List ℕ) (s : Result) : Type 0 where
  pub payable : Payable ys r.due
  pub ours : of_submission (processed_of r.outcome) ≡ true
  pub post : P → (zs : List PeerRecord) → Paid ys zs r.due → Post st (answered r) e b k zs a₀ a s
  pub spares : (zs : List PeerRecord) → Paid ys zs r.due → Spares (processed_of r.outcome) (lent e₀ b₀ k₀ ys a₀ st) (lent e b k zs a r.mempool)
  pub told : written_of (processed_of r.outcome) ≤ length a₀ / 4

-- .. on words that may not fit
pub record Offers (e₀ b₀ k₀ : List ℕ) (st : Mempool) (r : Submitted) (e b k : List ℕ) (ys : List PeerRecord) (a₀ a : List ℕ) (s : Result) : Type 0 where
  pub payable : Payable ys r.due
  pub ours : of_submission (processed_of r.outcome) ≡ true
  pub unfit : all_fit e₀ b₀ k₀ (length ys) st ≡ false → processed_of r.outcome ≡ refused (pick st.pass.open 20 1) 0
  pub post : Kept e₀ b₀ k₀ ys st → (zs : List PeerRecord) → Paid ys zs r.due → Post st (answered r) e b k zs a₀ a s
  pub spares : (zs : List PeerRecord) → Paid ys zs r.due → Spares (processed_of r.outcome) (lent e₀ b₀ k₀ ys a₀ st) (lent e b k zs a r.mempool)
  pub told : written_of (processed_of r.outcome) ≤ length a₀ / 4

-- ---- way by way

never : {A : Type 0} → ◌≡◌ {A = ℕ} 0 1 → A
never z = absurd (omega arith)

charged-not : {A : Type 0} {t : Bool} → t ≡ true → t ≡ false → A
charged-not p q = let z : true ≡ false = sym p ∙ q in never cc

pub claims-as : {P : Type 0} {e₀ b₀ k₀ : List ℕ} {st : Mempool} {r : Submitted} {e b k : List ℕ} {ys : List PeerRecord} {a₀ a : List ℕ} {s t : Result}
    → s ≡ t → Claims P e₀ b₀ k₀ st r e b k ys a₀ a t → Claims P e₀ b₀ k₀ st r e b k ys a₀ a s
claims-as q h = rw q h

-- the words that were lent are what was left in them
pub claims-left : {P : Type 0} {e₀ b₀ k₀ : List ℕ} {st : Mempool} {r : Submitted} {e b k e' b' k' : List ℕ} {ys : List PeerRecord} {a₀ a : List ℕ} {s : Result}
    → Claims P e₀ b₀ k₀ st r e b k ys a₀ a s → e' ≡ e → b' ≡ b → k' ≡ k → Claims P e₀ b₀ k₀ st r e' b' k' ys a₀ a s
claims-left h p q z = rw (p, q, z) h

-- where more is known
claims-where : {P Q : Type 0} {e₀ b₀ k₀ : List ℕ} {st : Mempool} {r : Submitted} {e b k : List ℕ} {ys : List PeerRecord} {a₀ a : List ℕ} {s : Result}
    → (Q → P) → Claims P e₀ b₀ k₀ st r e b k ys a₀ a s → Claims Q e₀ b₀ k₀ st r e b k ys a₀ a s
claims-where f h = record { payable = h.payable; ours = h.ours; post = λ x. h.post (f x); spares = h.spares; told = h.told }

module _ (e b k : List ℕ) (ys : List PeerRecord) (a : List ℕ) (st : Mempool) where
  -- nothing changed
  pub claims-unchanged : (o : ProcessingOutcome) (n : Outcome) {r : Submitted} → processed_of o ≡ n → of_submission n ≡ true → written_of n ≡ 0 → r ≡ uncharged st o
      → Claims (Kept e b k ys st) e b k st r e b k ys a a (unchanged n (world_of e b k ys st))
  claims-unchanged o n q v z w =
      rw w
      (record {
        payable = nothing-due ys;
        ours = ap of_submission q ∙ v;
        post = λ f zs p. rw (p.spared refl) (record { kept = f; config = refl; pass = refl; outcome = q; world = refl; wrote = wrote_nothing a 0 });
        spares = λ zs p. rw (p.spared refl) (spares-same (processed_of o) (lent e b k ys a st));
        told = omega (arith, ap written_of q ∙ z);
      })

  pub claims-refused : (n : Refusal) {r : Submitted} → of_submission (refused (refusal_number n) 0) ≡ true → r ≡ uncharged st (Declined n)
      → Claims (Kept e b k ys st) e b k st r e b k ys a a (unchanged (refused (refusal_number n) 0) (world_of e b k ys st))
  unfolding processed_of written_of
  claims-refused n v w = claims-unchanged (Declined n) (refused (refusal_number n) 0) refl v refl w

  module _ (visits room : ℕ) (sub : Submission) (ins outs : List ℕ) {v : Verdict} {r : Submitted} where
    pub claims-absent : v ≡ Absent → r ≡ uncharged st VerdictNeeded
        → Claims (Sure e b k ys st sub) e b k st r e b k ys a a (judged visits room st (world_of e b k ys st) sub ins outs v)
    unfolding judged processed_of written_of of_submission
    claims-absent q w = rw q (claims-where (λ s. s.kept) (claims-unchanged VerdictNeeded needed refl refl refl w))

    pub claims-invalid : (k' : List ℕ) (n : ℕ) → v ≡ Invalid → (CacheKept k st.cached → Inserted k k' st.cached n st.config.invalidation_capacity sub.time (id_of sub.id))
        → r ≡ uncharged (record { config = st.config; counts = st.counts; cached = n; sums = st.sums; pass = st.pass }) (Declined InvalidVerdict) → Claims (Sure e b k ys st sub) e b k st r e b k' ys a a
        (judged visits room st (world_of e b k ys st) sub ins outs v)
    unfolding judged processed_of written_of of_submission
    claims-invalid k' n q g w =
        rw (q, w)
        (record {
          payable = nothing-due ys;
          ours = refl;
          post = λ h zs p.
              let f = h.kept.fits in
              let x = h.kept.indexed in
              let i = g x.cache in
              rw (p.spared refl)
              (record {
                kept =
                    record {
                      fits = record { tests = record { pool = f.tests.pool; cache = i.ok }; keeps = rw (room-still k k' i.size) f.keeps; records = f.records; used = f.used };
                      indexed = record { pool = x.pool; cache = i.kept };
                    };
                config = refl;
                pass = refl;
                outcome = refl;
                world = rw i.rows;
                wrote = wrote_nothing a 0;
              });
          spares = λ zs p. rw (p.spared refl) (spares-refused _ _ refl (record { tables = λ _. (refl, refl, refl); cache = λ z. never cc; peers = λ _. (refl, refl); answer = λ _. refl; rest = (refl, refl) }));
          told = omega arith;
        })

  -- a valid one: the admission's tables, the charge beside them
  pub claims-valid : (sub : Submission) (c : ℕ) (e' b' a' : List ℕ) (d : Admitted) (m : Counts) (o : ProcessingOutcome) (g : Bill) {cost : ℕ}
      → (PoolKept e b st.counts → pooled (id_of sub.id) (entries_of e st.counts.pooled) ≡ false → Leaves e' b' m o a a' d)
      → of_admission (processed_of o) ≡ true → SparesWords e b a st.counts e' b' a' m o → written_of (processed_of o) ≤ length a / 4 → cost ≡ cost_of c sub.size → Billed ys st.sums sub.source cost g
      → Claims (Sure e b k ys st sub) e b k st (record { mempool = record { config = st.config; counts = m; cached = st.cached; sums = g.sums; pass = st.pass }; outcome = o; due = g.due }) e' b' k ys a a'
      (admitted d (world_of e b k ys st) sub c)
  claims-valid sub c e' b' a' d m o g {cost = cost} j w v t z h =
      let y = charging-of (processed_of o) w in
      record {
        payable = h.payable;
        ours = admission-ours (processed_of o) w;
        post = λ s zs p.
            let f = s.kept.fits in
            let x = s.kept.indexed in
            let l = j x.pool s.new in
            record {
              kept =
                  record {
                    fits = record { tests = record { pool = l.left.fits; cache = f.tests.cache }; keeps = f.keeps; records = omega (arith, f.records, p.size); used = h.used };
                    indexed = record { pool = l.left.kept; cache = x.cache };
                  };
              config = refl;
              pass = refl;
              outcome = l.outcome;
              world = rw (l.left.tables, h.sum, h.peers zs p, z);
              wrote = l.wrote;
            };
        spares = λ zs p.
            record {
              asked = λ q. absurd (y.given q);
              refusal = λ j i q.
                  record {
                    tables = v.tables j i q;
                    cache = λ _. (refl, refl);
                    peers = λ off. charged-not (y.charges j i q) off;
                    answer = v.answer j i q;
                    rest = (refl, refl);
                  };
            };
        told = t;
      }

-- ---- as the call claims it

-- where its peer stands, of what was found among so many records as are lent
pub placed : {e b k : List ℕ} (ys : List PeerRecord) {st : Mempool} {n : ℕ} (sub : Submission) {at : Standing} → Fits e b k ys st → length ys ≡ n
    → at ≡ standing_of sub.source (peers_of ys (min st.sums.peers n)) → at ≡ standing_of sub.source (peers_of ys st.sums.peers)
placed ys {st} {n} sub f l q = let e : min st.sums.peers n ≡ st.sums.peers = omega (arith, f.used, f.records, l) in q ∙ ap (λ (i : ℕ). standing_of sub.source (peers_of ys i)) e

-- ---- on any words, of the test that was made of them

module _ (e₀ b₀ k₀ : List ℕ) (n : ℕ) (st : Mempool) {t : Bool} (q : t ≡ all_fit e₀ b₀ k₀ n st) where
  pub ready : not t ≡ false → Ready e₀ b₀ k₀ st
  unfolding all_fit
  ready z =
      let h = goes_on _ _ (met q z) in
      let c = cache-fits e₀ b₀ k₀ st (un_not _ h.0) in
      record { tests = c.0; keeps = c.1; used = leb-true _ _ (goes_on (ltb n 256) (leb st.sums.peers 256) h.1).1 }

  module _ (ys : List PeerRecord) (l : length ys ≡ n) where
    pub offers-nothing : not t ≡ true → {m : Refusal} → refusal_number m ≡ pick st.pass.open 20 1 → {r : Submitted} → r ≡ uncharged st (Declined m) → (a : List ℕ) (s : Result)
        → Offers e₀ b₀ k₀ st r e₀ b₀ k₀ ys a a s
    unfolding processed_of written_of
    offers-nothing z p w a s =
        rw w
        (record {
          payable = nothing-due ys;
          ours = unfit-ours st.pass.open _ p;
          unfit = λ _. ap (λ (j : ℕ). refused j 0) p;
          post = λ f. absurd (no-fit e₀ b₀ k₀ ys n st l q z f.fits);
          spares = λ zs h. rw (h.spared refl) (spares-same _ (lent e₀ b₀ k₀ ys a st));
          told = omega arith;
        })

    pub offers : not t ≡ false → {P : Type 0} {r : Submitted} {e b k a₀ a : List ℕ} {s u : Result} → (Kept e₀ b₀ k₀ ys st → P) → (Kept e₀ b₀ k₀ ys st → s ≡ u)
        → Claims P e₀ b₀ k₀ st r e b k ys a₀ a u → Offers e₀ b₀ k₀ st r e b k ys a₀ a s
    offers z f g h =
        record {
          payable = h.payable;
          ours = h.ours;
          unfit = λ off. was-met q z (rw (← l) off);
          post = λ x zs p. rw (g x) (h.post (f x) zs p);
          spares = h.spares;
          told = h.told;
        }
