-- What the steps of a pass come to, way by way, as its contracts say it.
use Rattle.std.specs.Prelude.{None, Some, Result, Ok, Err, ℕ, ◌<◌, ◌≡◌, Bool, eqb, length}
use Rattle.std.proofs.Math.Path.{refl, ap, subst}
use Rattle.std.proofs.Common.{sym, ◌∙◌, arith, eq-eqb, eqb-true}
use Rattle.std.proofs.Math.Bool.{true, false, not}
use mathlib.Core.List.{List, [], ◌∷◌}
use Rattle.words.specs.Lists.{pick, yes, no}
use Rattle.words.specs.Find.{found}
use Rattle.words.specs.Ids.{id_of, join_is}
use Rattle.pool_types.specs.declared.Mempool.{Mempool}
use Rattle.pool_types.specs.declared.Refusal.{Refusal}
use Rattle.pool_types.specs.declared.Refusal.TheVariants.{NoPass}
use Rattle.pool_types.specs.declared.AnswerOutcome.TheVariants.{InputMissing, AnswerNeeded, FoundInvalid, FoundValid}
use Rattle.pool_types.specs.Refusals.{refusal_number, code_of}
use Rattle.pool_types.specs.declared.Verdict.{Verdict}
use Rattle.pool_types.specs.declared.Verdict.TheVariants.{Valid, Invalid, Absent}
use Rattle.pool_types.specs.Outcomes.{Outcome, candidate, ended, next_of, answered_of}
use Rattle.expiring_cache.specs.Layout.{CacheKept, room-still}
use Rattle.peers.specs.declared.PeerRecord.{PeerRecord}
use Rattle.entries.specs.Entries.{place_of, stamped}
use Rattle.entries.specs.Layout.{entry_at, entries_of, entries_room, entries, room-ok}
use Rattle.entries.specs.Laws.{at_place, no_place, place-fits}
use Rattle.boxes.specs.Records.{index, inputs_of}
use Rattle.boxes.specs.Layout.{BoxesOk, boxes_of}
use Rattle.boxes.specs.Index.{BoxesKept}
use Rattle.indexes.specs.Resolved.{all_resolved, flagged}
use Rattle.pool.specs.Pool.{Tables, tables_of, PoolKept, remove_tx}
use Rattle.store.specs.World.{World, world, world_of}
use Rattle.store.specs.Fits.{Kept, cache_fits, cache-holds}
use Rattle.store.specs.Spares.{Lent, Spares}
use Rattle.returns.specs.Post.{recached, Cached}
use Rattle.cleanup.specs.Passes.{PassNow, pass_of, PassResult, still, nexted, offered, measured, previous_cost, answered_with, answer_refusal, lacks_input, weighed, answered}
use Rattle.cleanup.specs.Post.{PassPost, repassed, PassOnly, none_out, answer_code, Stepped}
use Rattle.cleanup.specs.Numbers.{of_answer, answer-refuses}

-- the id of four words 0 is the number 0
pub no-id : id_of (record { a = 0; b = 0; c = 0; d = 0 }) ≡ 0
unfolding id_of
no-id = simp join_is

-- ---- what is left, as a result has it

pub post-as : {st r : Mempool} {o : Outcome} {e b k : List ℕ} {ys : List PeerRecord} {s t : PassResult} → s ≡ t → PassPost st r o e b k ys t → PassPost st r o e b k ys s
post-as q h = rw q h

post-with : {st r m : Mempool} {o : Outcome} {e b k : List ℕ} {ys : List PeerRecord} {s : PassResult} → r ≡ m → PassPost st m o e b k ys s → PassPost st r o e b k ys s
post-with {st} {r} {m} {o} {e} {b} {k} {ys} {s} q h = subst (λ (x : Mempool). PassPost st x o e b k ys s) (sym q) h

-- nothing changed
post-still : (e b k : List ℕ) (ys : List PeerRecord) (st : Mempool) (o n : Outcome) → Kept e b k ys st → o ≡ n → PassPost st st o e b k ys (still n (world_of e b k ys st) (pass_of st.pass))
post-still e b k ys st o n f q = record { kept = f; config = refl; outcome = q; world = refl; pass = refl }

-- the pass alone is new
pub only-post : {st r : Mempool} {o : Outcome} {s : PassResult} (e b k : List ℕ) (ys : List PeerRecord) → Kept e b k ys st → s.world ≡ world_of e b k ys st → PassOnly st r o s → PassPost st r o e b k ys s
only-post {st} {r} {o} {s} e b k ys f w h =
    record {
      kept =
          subst (λ (x : Mempool). Kept e b k ys x) (sym h.state)
          (record {
            fits = record { tests = record { pool = f.fits.tests.pool; cache = f.fits.tests.cache }; keeps = f.fits.keeps; records = f.fits.records; used = f.fits.used };
            indexed = record { pool = f.indexed.pool; cache = f.indexed.cache };
          });
      config = ap (λ (x : Mempool). x.config) h.state;
      outcome = h.outcome;
      world = ap (world_of e b k ys) h.state ∙ sym w;
      pass = h.pass;
    }

-- ---- next

-- a store without a transaction, where the store does not matter
abbrev nothing : World
nothing = world (record { entries = []; boxes = [] }) [] 0 []

pub only-state : {st r : Mempool} {o : Outcome} {s : World → PassResult} → ((w : World) → PassOnly st r o (s w)) → r ≡ repassed st r.pass
only-state h = (h nothing).state

-- what two constructors give
pub never : {A : Type 0} → ◌≡◌ {A = ℕ} 0 1 → A
never z = absurd (omega arith)

-- a candidate is no refusal, nor is the end
module _ {o : Outcome} (m n : Lent) where
  spares-candidate : {k : ℕ} → o ≡ candidate k → Spares o m n
  spares-candidate e = record { asked = λ q. never cc; refusal = λ j i q. never cc }

  spares-ended : {k : ℕ} → o ≡ ended k → Spares o m n
  spares-ended e = record { asked = λ q. never cc; refusal = λ j i q. never cc }

module _ {st r : Mempool} {o : Outcome} (m n : Lent) where
  pub spares-offered : (x : ℕ) → ((w : World) → PassOnly st r o (offered (x ∷ []) w (pass_of st.pass))) → Spares o m n
  unfolding offered
  spares-offered x g = spares-candidate m n (g nothing).outcome

  pub spares-closed : ((w : World) → PassOnly st r o (offered [] w (pass_of st.pass))) → Spares o m n
  unfolding offered
  spares-closed g = spares-ended m n (g nothing).outcome

module _ (st : Mempool) where
  -- none is open
  pub next-closed : not st.pass.open ≡ true → (e b k : List ℕ) (ys : List PeerRecord) → Kept e b k ys st
      → PassPost st st (next_of (Err NoPass)) e b k ys (nexted st.config (world_of e b k ys st) (pass_of st.pass))
  unfolding nexted next_of
  next-closed h e b k ys f = post-as (yes _ _ _ h) (post-still e b k ys st _ _ f refl)

  -- the count does not fit
  pub next-unfit : {A : Type 0} (e b k : List ℕ) (ys : List PeerRecord) → entries_room e < st.counts.pooled → Kept e b k ys st → A
  next-unfit e b k ys h f = absurd (omega (arith, room-ok e st.counts.pooled f.fits.tests.pool.entries))

  -- a candidate is out
  pub next-again : not st.pass.open ≡ false → st.pass.out ≡ true → (e b k : List ℕ) (ys : List PeerRecord) → Kept e b k ys st → {o : Outcome} → o ≡ candidate (id_of st.pass.candidate)
      → PassPost st st o e b k ys (nexted st.config (world_of e b k ys st) (pass_of st.pass))
  unfolding nexted
  next-again h i e b k ys f q = post-as (no _ _ _ h ∙ yes _ _ _ i) (post-still e b k ys st _ _ f q)

-- ---- answer: single steps

module _ (l : List ℕ) (n k : ℕ) where
  pub cost-there : (i : ℕ) → place_of k (entries_of l n) ≡ Some i → {c : ℕ} → c ≡ measured (entry_at l i).validation_cost → c ≡ previous_cost (found (λ x. x.id) k (entries_of l n))
  cost-there i q e = e ∙ sym (rw ((at_place k i (entries_of l n) q).one (entry_at l i), entries.get l n i (entry_at l i) (place-fits l n k i q)))

  pub cost-nowhere : place_of k (entries_of l n) ≡ None → 0 ≡ previous_cost (found (λ x. x.id) k (entries_of l n))
  cost-nowhere q = sym (rw (no_place k (entries_of l n) q).none)

-- ---- answer: what the steps come to

-- entries, boxes and the pass are new
stepped-post : {st r : Mempool} {o n : Outcome} {e b k e' b' : List ℕ} {ys : List PeerRecord} {t : Tables} {q : PassNow} → Kept e b k ys st → Stepped e' b' st r t q → o ≡ n
    → PassPost st r o e' b' k ys (record { outcome = n; world = world t (world_of e b k ys st).cache (world_of e b k ys st).sum (world_of e b k ys st).peers; pass = q })
stepped-post {st} {r} f s z =
    post-with s.state
    (record {
      kept =
          record {
            fits = record { tests = record { pool = s.left.fits; cache = f.fits.tests.cache }; keeps = f.fits.keeps; records = f.fits.records; used = f.fits.used };
            indexed = record { pool = s.left.kept; cache = f.indexed.cache };
          };
      config = refl;
      outcome = z;
      world = rw s.left.tables;
      pass = s.pass;
    })

module _ (e b k : List ℕ) (st : Mempool) where
  pub weigh-absent : (v : Verdict) → v ≡ Absent → (ys : List PeerRecord) → Kept e b k ys st
      → PassPost st st (answered_of (Ok AnswerNeeded)) e b k ys (weighed st.config (world_of e b k ys st) (pass_of st.pass) v)
  unfolding weighed answered_of
  weigh-absent v q ys f = post-as (ap (weighed st.config (world_of e b k ys st) (pass_of st.pass)) q) (post-still e b k ys st _ _ f refl)

  pub weigh-valid : (v : Verdict) (c : ℕ) → v ≡ Valid c → (e' : List ℕ) (r : Mempool)
      → ((b : List ℕ) → BoxesOk b st.counts.records → PoolKept e b st.counts → Stepped e' b st r
      (record { entries = stamped (id_of st.pass.candidate) (Some c) st.pass.time (entries_of e st.counts.pooled); boxes = boxes_of b st.counts.records })
      (answered_with c (pass_of st.pass)))
      → (ys : List PeerRecord) → Kept e b k ys st → PassPost st r (answered_of (Ok (FoundValid st.pass.candidate))) e' b k ys (weighed st.config (world_of e b k ys st) (pass_of st.pass) v)
  unfolding weighed answered_of
  weigh-valid v c q e' r s ys f = post-as (ap (weighed st.config (world_of e b k ys st) (pass_of st.pass)) q) (stepped-post f (s b f.fits.tests.pool.boxes f.indexed.pool) refl)

  module _ (m : Mempool) (w : m ≡ recached st m.cached) where
    pub weigh-invalid : (v : Verdict) → v ≡ Invalid → (k' : List ℕ) → (CacheKept k st.cached → Cached k k' st m st.pass.time (id_of st.pass.candidate)) → (e' b' : List ℕ) (r : Mempool)
        → (PoolKept e b m.counts → Stepped e' b' m r (remove_tx (id_of m.pass.candidate) (tables_of e b m.counts))
        (answered_with (previous_cost (found (λ x. x.id) (id_of m.pass.candidate) (entries_of e m.counts.pooled))) (pass_of m.pass)))
        → (ys : List PeerRecord) → Kept e b k ys st → PassPost st r (answered_of (Ok (FoundInvalid st.pass.candidate))) e' b' k' ys (weighed st.config (world_of e b k ys st) (pass_of st.pass) v)
    unfolding weighed answered_of
    weigh-invalid v q k' d e' b' r s ys f =
        post-as (ap (weighed st.config (world_of e b k ys st) (pass_of st.pass)) q)
        (let c = d f.indexed.cache in
        let p : PoolKept e b m.counts = subst (λ (x : Mempool). PoolKept e b x.counts) (sym w) f.indexed.pool in
        let z = subst (λ (x : Mempool).
        Stepped e' b' x r (remove_tx (id_of x.pass.candidate) (tables_of e b x.counts))
        (answered_with (previous_cost (found (λ x. x.id) (id_of x.pass.candidate) (entries_of e x.counts.pooled))) (pass_of x.pass))) c.state (s p) in
        post-with z.state
        (record {
          kept =
              record {
                fits = record { tests = record { pool = z.left.fits; cache = c.inserted.ok }; keeps = rw (room-still k k' c.inserted.size) f.fits.keeps; records = f.fits.records; used = f.fits.used };
                indexed = record { pool = z.left.kept; cache = c.inserted.kept };
              };
          config = refl;
          outcome = refl;
          world = rw (z.left.tables, c.inserted.rows);
          pass = z.pass;
        }))

-- ---- answer: the tests

-- with no refusal there is a flag for each input
answer-flags : (closed : Bool) (m l : ℕ) → answer_code closed m l ≡ 0 → m ≡ l
unfolding answer_code
answer-flags closed m l h = go closed (eqb m l) refl h
  where
    go : (t u : Bool) → eqb m l ≡ u → ◌≡◌ {A = ℕ} (pick t 21 (pick (not u) 1 0)) 0 → m ≡ l
    go true u y z = absurd (omega arith)
    go false true y z = eqb-true m l y
    go false false y z = absurd (omega arith)

-- v is what the tests gave, where the counts fit and the index of the boxes is right
module _ (e b k : List ℕ) (st : Mempool) (flags : List ℕ) (v : Verdict) (tested : Result Unit Refusal)
    (q : cache_fits e b k st ≡ true → BoxesKept b st.counts.records → code_of tested ≡ answer_code (none_out st.pass) (length flags) (length (inputs_of (id_of st.pass.candidate) (boxes_of b st.counts.records)))) where
  code : (ys : List PeerRecord) → Kept e b k ys st → code_of tested ≡ answer_code (none_out st.pass) (length flags) (length (inputs_of (id_of st.pass.candidate) (boxes_of b st.counts.records)))
  code ys f = q (cache-holds e b k st ys f.fits) f.indexed.pool.boxes

  pub answer-stopped : (r : Refusal) → tested ≡ Err r → of_answer tested ≡ true → (ys : List PeerRecord) → Kept e b k ys st
      → PassPost st st (answered_of (Err r)) e b k ys (answered st.config (world_of e b k ys st) (pass_of st.pass) flags v)
  unfolding answered answer_refusal answer_code answered_of
  answer-stopped r z o ys f =
      let h : eqb (refusal_number r) 0 ≡ false = answer-refuses r (subst (λ (x : Result Unit Refusal). of_answer x ≡ true) z o) in
      rw (← (sym (ap code_of z) ∙ code ys f)) (post-as (no _ _ _ h) (post-still e b k ys st _ _ f refl))

  module _ (h : code_of tested ≡ 0) {t : Bool}
      (z : BoxesKept b st.counts.records → length flags ≡ length (inputs_of (id_of st.pass.candidate) (boxes_of b st.counts.records))
      → t ≡ all_resolved (index true (boxes_of b st.counts.records)) (flagged (inputs_of (id_of st.pass.candidate) (boxes_of b st.counts.records)) flags)) where
    resolved : (ys : List PeerRecord) → Kept e b k ys st
        → t ≡ all_resolved (index true (boxes_of b st.counts.records)) (flagged (inputs_of (id_of st.pass.candidate) (boxes_of b st.counts.records)) flags)
    resolved ys f = z f.indexed.pool.boxes (answer-flags (none_out st.pass) _ _ (sym (code ys f) ∙ h))

    -- an input is found nowhere
    pub answer-missing : not t ≡ true → (e' b' : List ℕ) (r : Mempool)
        → (PoolKept e b st.counts → Stepped e' b' st r (remove_tx (id_of st.pass.candidate) (tables_of e b st.counts))
        (answered_with (previous_cost (found (λ x. x.id) (id_of st.pass.candidate) (entries_of e st.counts.pooled))) (pass_of st.pass)))
        → (ys : List PeerRecord) → Kept e b k ys st
        → PassPost st r (answered_of (Ok (InputMissing st.pass.candidate))) e' b' k ys (answered st.config (world_of e b k ys st) (pass_of st.pass) flags v)
    unfolding answered answer_refusal answer_code lacks_input answered_of
    answer-missing y e' b' r s ys f =
        rw (← code ys f) (post-as (yes _ _ _ (eq-eqb (code_of tested) 0 h) ∙ yes _ _ _ (ap not (sym (resolved ys f)) ∙ y)) (stepped-post f (s f.indexed.pool) refl))

    -- all are found
    pub answer-weighed : not t ≡ false → (e' b' k' : List ℕ) (r : Mempool) (o : Outcome)
        → ((ys : List PeerRecord) → Kept e b k ys st → PassPost st r o e' b' k' ys (weighed st.config (world_of e b k ys st) (pass_of st.pass) v))
        → (ys : List PeerRecord) → Kept e b k ys st → PassPost st r o e' b' k' ys (answered st.config (world_of e b k ys st) (pass_of st.pass) flags v)
    unfolding answered answer_refusal answer_code lacks_input
    answer-weighed y e' b' k' r o g ys f =
        rw (← code ys f) (post-as (yes _ _ _ (eq-eqb (code_of tested) 0 h) ∙ no _ _ _ (ap not (sym (resolved ys f)) ∙ y)) (g ys f))
