-- What the steps of a return and an invalidation come to, way by way, as their contracts say it.
use Rattle.std.specs.Prelude.{ℕ, ◌≤◌, ◌<◌, max, ◌≡◌, refl, Bool, true, false, not, ◌&&◌, List, T, ltb, eqb, Result, Ok, Err}
use Rattle.std.proofs.Math.Path.{sym, subst}
use Rattle.std.proofs.Common.{ap, ◌∙◌, arith, lit<, eq-eqb}
use Rattle.words.specs.Lists.{pick, yes, no}
use Rattle.words.specs.Ids.{id_of}
use Rattle.pool_types.specs.declared.Mempool.{Mempool}
use Rattle.pool_types.specs.declared.MempoolConfig.{MempoolConfig}
use Rattle.pool_types.specs.declared.Refusal.{Refusal}
use Rattle.pool_types.specs.declared.Refusal.TheVariants.{PassOpen}
use Rattle.pool_types.specs.Refusals.{refusal_number, code_of}
use Rattle.pool_types.specs.Outcomes.{Outcome, done_of}
use Rattle.arguments.specs.Arguments.{whole}
use Rattle.expiring_cache.specs.Layout.{cache_room, CacheOk, CacheKept, room-still}
use Rattle.peers.specs.declared.PeerRecord.{PeerRecord}
use Rattle.entries.specs.Entries.{Entry, pooled}
use Rattle.entries.specs.Layout.{entry_of, entries_of, entries_room}
use Rattle.entries.specs.declared.fields.PoolEntry.{PoolEntry}
use Rattle.boxes.specs.Layout.{boxes_room}
use Rattle.boxes.specs.Flat.{ids_of}
use Rattle.pool.specs.Pool.{tables_of, PoolFits, PoolKept, insert_tx, remove_tx}
use Rattle.store.specs.World.{world_of, unchanged}
use Rattle.store.specs.World.{Result as Left_by}
use Rattle.store.specs.Fits.{Kept}
use Rattle.returns.specs.Returns.{return_refusal, returned_entry, returned, invalidated}
use Rattle.returns.specs.Numbers.{of_return, return-refuses}
use Rattle.returns.specs.Post.{Meets, Tabled, Cached, recounted}
use Rattle.returns.specs.declared.UnconfirmedTx.{UnconfirmedTx}

-- ---- what is left, as a result has it

meets-as : {st r : Mempool} {o : Outcome} {e b k : List ℕ} {ys : List PeerRecord} {s t : Left_by} → s ≡ t → Meets st r o e b k ys t → Meets st r o e b k ys s
meets-as q h = rw q h

meets-with : {st r m : Mempool} {o : Outcome} {e b k : List ℕ} {ys : List PeerRecord} {s : Left_by} → r ≡ m → Meets st m o e b k ys s → Meets st r o e b k ys s
meets-with {st} {r} {m} {o} {e} {b} {k} {ys} {s} q h = subst (λ (x : Mempool). Meets st x o e b k ys s) (sym q) h

-- nothing changed
meets-unchanged : (e b k : List ℕ) (ys : List PeerRecord) (st : Mempool) (o n : Outcome) → Kept e b k ys st → o ≡ n → Meets st st o e b k ys (unchanged n (world_of e b k ys st))
meets-unchanged e b k ys st o n f q = record { kept = f; config = refl; pass = refl; outcome = q; world = refl }

-- ---- a return

-- what the test of refusal m says, and what the rest gives
goes_on : (t : Bool) (m n : ℕ) → T (ltb 0 m) → pick t m n ≡ 0 → (t ≡ false) × (n ≡ 0)
goes_on true m n h e = let q : 0 < m = lit< h in absurd (omega arith)
goes_on false m n h e = (refl, e)

same_id : (g : MempoolConfig) (u : UnconfirmedTx) (ins outs : List ℕ) (x : PoolEntry) → entry_of x ≡ returned_entry g u ins outs → id_of x.id ≡ id_of u.id
unfolding entry_of returned_entry
same_id g u ins outs x z = ap (λ (y : Entry). y.id) z

module _ (e b : List ℕ) (st : Mempool) (u : UnconfirmedTx) (ins outs : List ℕ) (v : Result Unit Refusal)
    (q : PoolFits e b st.counts → PoolKept e b st.counts → code_of v ≡ return_refusal (entries_room e) (boxes_room b) st (tables_of e b st.counts) u ins outs) where
  -- a refusal is answered
  pub return-stopped : (r : Refusal) → v ≡ Err r → of_return v ≡ true → (k : List ℕ) (ys : List PeerRecord) → Kept e b k ys st
      → Meets st st (done_of (Err r)) e b k ys (returned (entries_room e) (boxes_room b) st (world_of e b k ys st) u ins outs)
  unfolding returned done_of
  return-stopped r z o k ys f =
      let h : eqb (refusal_number r) 0 ≡ false = return-refuses r (subst (λ (x : Result Unit Refusal). of_return x ≡ true) z o) in
      let n : refusal_number r ≡ return_refusal (entries_room e) (boxes_room b) st (tables_of e b st.counts) u ins outs = sym (ap code_of z) ∙ q f.fits.tests.pool f.indexed.pool in
      rw (← n) (meets-as (no _ _ _ h) (meets-unchanged e b k ys st _ _ f refl))

  -- with none it is new ..
  return_new : PoolFits e b st.counts → PoolKept e b st.counts → code_of v ≡ 0 → pooled (id_of u.id) (entries_of e st.counts.pooled) ≡ false
  unfolding return_refusal
  return_new t f h =
      let g : return_refusal (entries_room e) (boxes_room b) st (tables_of e b st.counts) u ins outs ≡ 0 = sym (q t f) ∙ h in
      let p = goes_on st.pass.open 20 _ tt g in
      let r = goes_on (not (whole 4 ins && whole 5 outs)) 1 _ tt p.1 in
      let s = goes_on (ltb 98304 u.size) 3 _ tt r.1 in
      (goes_on (pooled (id_of u.id) (tables_of e b st.counts).entries) 23 _ tt s.1).0

  -- .. and enters, and nothing else changes
  pub return-entered : code_of v ≡ 0 → (e' b' : List ℕ) (r : Mempool) (x : PoolEntry) → entry_of x ≡ returned_entry st.config u ins outs
      → (PoolKept e b st.counts → pooled (id_of x.id) (entries_of e st.counts.pooled) ≡ false → Tabled e' b' st r (insert_tx (entry_of x) (ids_of 4 ins) (ids_of 5 outs) (tables_of e b st.counts)))
      → (k : List ℕ) (ys : List PeerRecord) → Kept e b k ys st
      → Meets st r (done_of (Ok tt)) e' b' k ys (returned (entries_room e) (boxes_room b) st (world_of e b k ys st) u ins outs)
  unfolding returned done_of
  return-entered h e' b' r x z d k ys f =
      let t = d f.indexed.pool (rw (same_id st.config u ins outs x z) (return_new f.fits.tests.pool f.indexed.pool h)) in
      rw (← q f.fits.tests.pool f.indexed.pool, ← z)
      (meets-as (yes _ _ _ (eq-eqb (code_of v) 0 h))
      (meets-with t.state
      (record {
        kept =
            record {
              fits = record { tests = record { pool = t.left.fits; cache = f.fits.tests.cache }; keeps = f.fits.keeps; records = f.fits.records; used = f.fits.used };
              indexed = record { pool = t.left.kept; cache = f.indexed.cache };
            };
        config = refl;
        pass = refl;
        outcome = refl;
        world = rw t.left.tables;
      })))

-- ---- an invalidation

-- the cache still has what an insertion asks for
pub remember-asks : (k : List ℕ) (st m : Mempool) → m ≡ recounted st m.counts → CacheOk k st.cached → max st.config.invalidation_capacity 1 ≤ cache_room k
    → CacheOk k m.cached × (max m.config.invalidation_capacity 1 ≤ cache_room k)
remember-asks k st m s h i = subst (λ (x : Mempool). CacheOk k x.cached × (max x.config.invalidation_capacity 1 ≤ cache_room k)) (sym s) (h, i)

module _ (e b k : List ℕ) (st : Mempool) (time n : ℕ) where
  pub invalidate-stopped : st.pass.open ≡ true → (ys : List PeerRecord) → Kept e b k ys st
      → Meets st st (done_of (Err PassOpen)) e b k ys (invalidated st (world_of e b k ys st) time n)
  unfolding invalidated done_of
  invalidate-stopped h ys f = meets-as (yes _ _ _ h) (meets-unchanged e b k ys st _ _ f refl)

  module _ (m : Mempool) (s : m ≡ recounted st m.counts) where
    pub invalidate-done : (e' b' : List ℕ) → (PoolKept e b st.counts → Tabled e' b' st m (remove_tx n (tables_of e b st.counts))) → st.pass.open ≡ false
        → (k' : List ℕ) (r : Mempool) → (CacheKept k m.cached → Cached k k' m r time n) → (ys : List PeerRecord) → Kept e b k ys st
        → Meets st r (done_of (Ok tt)) e' b' k' ys (invalidated st (world_of e b k ys st) time n)
    unfolding invalidated done_of
    invalidate-done e' b' d h k' r p ys f =
        let t = d f.indexed.pool in
        let g : CacheKept k m.cached = subst (λ (x : Mempool). CacheKept k x.cached) (sym s) f.indexed.cache in
        let c : Cached k k' (recounted st m.counts) r time n = subst (λ (x : Mempool). Cached k k' x r time n) s (p g) in
        meets-as (no _ _ _ h)
        (meets-with c.state
        (record {
          kept =
              record {
                fits = record { tests = record { pool = t.left.fits; cache = c.inserted.ok }; keeps = rw (room-still k k' c.inserted.size) f.fits.keeps; records = f.fits.records; used = f.fits.used };
                indexed = record { pool = t.left.kept; cache = c.inserted.kept };
              };
          config = refl;
          pass = refl;
          outcome = refl;
          world = rw (t.left.tables, c.inserted.rows);
        }))
