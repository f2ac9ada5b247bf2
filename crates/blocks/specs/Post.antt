-- What a block leaves, as its contract says it: one record, of the words, the state and the statistics at exit, against a result of the definitions.
use Rattle.std.specs.Prelude.{ℕ, ◌/◌, ◌≤◌, refl, None, Result, Err, List, length}
use Rattle.std.proofs.Math.Path.{◌≡◌, sym, ap}
use Rattle.std.proofs.Common.{◌∙◌, eq-eqb, ne_eqb}
use Rattle.std.proofs.Math.Bool.{true, false}
use native.Mathlib.Omega.{arith}
use Rattle.words.specs.Lists.{pick, yes, no}
use Rattle.pool_types.specs.declared.Done.{Done}
use Rattle.pool_types.specs.declared.Mempool.{Mempool}
use Rattle.pool_types.specs.Refusals.{refusal_number}
use Rattle.pool_types.specs.declared.Refusal.{Refusal}
use Rattle.pool_types.specs.Outcomes.{listed_of, refused, wrote}
use Rattle.expiring_cache.specs.Layout.{room-still}
use Rattle.stats.specs.declared.FeeStats.{FeeStats}
use Rattle.peers.specs.declared.PeerRecord.{PeerRecord}
use Rattle.answers.specs.Answers.{Wrote, wrote_nothing}
use Rattle.store.specs.World.{World, world_of, unchanged}
use Rattle.store.specs.Fits.{Kept, cache_fits, cache-holds}
use Rattle.store.specs.Spares.{Spares, lent, spares-same, spares-wrote}
use Rattle.blocks.specs.Blocks.{Progress, applied_txs, confirmed_of, block_refusal, BlockResult, settled, begun, applied}
use Rattle.blocks.specs.Steps.{Doing, later-all}
use Rattle.pool_types.specs.Refusals.{numbered}
use Rattle.blocks.specs.Tests.{refusal_on, code-none, code-unfit, code_fits}
use Rattle.blocks.specs.Runs.{Run, Running, finished}
use Rattle.blocks.specs.Numbers.{of_block, removed-ours, any-ours}
use Rattle.blocks.specs.declared.Applied.{Applied}

-- what is to come of a block at `time` on these words and peer records, with an answer buffer of the words a
abbrev pub result_of : List ℕ → List ℕ → List ℕ → List PeerRecord → List ℕ → Mempool → FeeStats → ℕ → List ℕ → List ℕ → BlockResult
result_of e b k ys a st s time txs ins = applied st (world_of e b k ys st) s (length a / 4) time txs ins

-- from the state st, r was handed back; the words are now those of e, b and k, the peer records are still ys, and the answer buffer's words were a₀ and
-- are a
pub record Post (st : Mempool) (r : Applied) (e b k : List ℕ) (ys : List PeerRecord) (a₀ a : List ℕ) (s : BlockResult) : Type 0 where
  pub kept : Kept e b k ys r.mempool
  pub config : r.mempool.config ≡ st.config
  pub pass : r.mempool.pass ≡ st.pass
  pub outcome : listed_of r.outcome ≡ s.result.outcome
  pub world : world_of e b k ys r.mempool ≡ s.result.world
  pub stats : r.stats ≡ s.stats
  pub wrote : Wrote a₀ a 0 s.result.written
  -- each id that is written has its place
  pub placed : length s.result.written ≤ length a₀ / 4

-- what a block promises of a store that start and calls left, whatever the peer records are: the words were e, b and k and are e', b' and k', the answer
-- buffer's were a and are a', the state was st, the statistics were s and are those of r
abbrev pub BlockPromise : List ℕ → List ℕ → List ℕ → Mempool → FeeStats → ℕ → List ℕ → List ℕ → List ℕ → List ℕ → List ℕ → List ℕ → List ℕ → Applied → Type 0
BlockPromise e b k st s time txs ins e' b' k' a a' r =
    (ys : List PeerRecord) → Kept e b k ys st → Post st r e' b' k' ys a a' (result_of e b k ys a st s time txs ins)

-- what was handed back, with the statistics as the caller finds them
abbrev pub handed : Done (Result ℕ Refusal) → FeeStats → Applied
handed r s = record { mempool = r.mempool; stats = s; outcome = r.outcome }

-- ---- the definitions' two ways: a refusal's number that is not 0 is the outcome; else the block is applied

module _ (st : Mempool) (w : World) (s : FeeStats) (room time : ℕ) (txs ins : List ℕ) {n : ℕ} (e : n ≡ block_refusal st room txs ins) where
  stopped : (n ≡ 0 → ⊥) → applied st w s room time txs ins ≡ record { result = unchanged (refused n 0) w; stats = s }
  unfolding applied
  stopped h = rw (← e) (no _ _ _ (ne_eqb n 0 h))

  goes_on : n ≡ 0 → applied st w s room time txs ins ≡ settled st w time (applied_txs time (confirmed_of txs ins) (begun w s))
  unfolding applied
  goes_on h = rw (← e) (yes _ _ _ (eq-eqb n 0 h))

-- what the call promises, all of it
pub record Promised (time : ℕ) (txs ins e b k a : List ℕ) (st : Mempool) (s : FeeStats) (e' b' k' a' : List ℕ) (r : Done (Result ℕ Refusal)) (x : FeeStats) : Type 0 where
  pub promise : BlockPromise e b k st s time txs ins e' b' k' a a' (handed r x)
  pub ours : of_block (listed_of r.outcome) ≡ true
  pub spares : (ys : List PeerRecord) → Spares (listed_of r.outcome) (lent e b k ys a st) (lent e' b' k' ys a' r.mempool)
  pub stats : (j i : ℕ) → listed_of r.outcome ≡ refused j i → x ≡ s
  pub unfit : cache_fits e b k st ≡ false → listed_of r.outcome ≡ refused (pick st.pass.open 20 1) 0
  pub placed : (n : ℕ) → listed_of r.outcome ≡ wrote n → n ≤ length a / 4

-- refused: nothing changed
module _ {time : ℕ} {txs ins e b k a : List ℕ} {st : Mempool} {s : FeeStats} {r : Refusal} (q : refusal_number r ≡ refusal_on e b k st (length a / 4) txs ins) where
  pub promised-refused : Promised time txs ins e b k a st s e b k a (record { mempool = st; outcome = Err r }) s
  unfolding listed_of
  promised-refused =
      record {
        promise = λ ys f.
            rw (stopped st (world_of e b k ys st) s (length a / 4) time txs ins (q ∙ code_fits e b k st (length a / 4) txs ins (cache-holds e b k st ys f.fits)) (numbered r))
            (record { kept = f; config = refl; pass = refl; outcome = refl; world = refl; stats = refl; wrote = wrote_nothing a 0; placed = omega arith });
        ours = any-ours e b k st (length a / 4) txs ins r q;
        spares = λ ys. spares-same (refused (refusal_number r) 0) (lent e b k ys a st);
        stats = λ _ _ _. refl;
        unfit = λ z. rw (q ∙ code-unfit e b k st (length a / 4) txs ins z);
        placed = λ n y. let o : ◌≡◌ {A = ℕ} 0 1 = cc in absurd (omega arith);
      }

-- applied, and nothing is left
module _ {time : ℕ} {txs ins e b k a : List ℕ} {st : Mempool} {s : FeeStats} {e' b' k' a' : List ℕ} {r : Run} {x : FeeStats} (p : Running time txs ins e b k a st s e' b' k' a' r x)
    (end : r.seen ≡ None) where
  applied-post : BlockPromise e b k st s time txs ins e' b' k' a a' (handed (finished st r) x)
  unfolding listed_of settled finished
  applied-post ys f =
      let c = p.come f.indexed.pool in
      let o = p.pruned f.indexed.cache in
      let u : c.here ≡ applied_txs time (confirmed_of txs ins) (begun (world_of e b k ys st) s) = sym (later-all txs ins r.at r.from (p.ended end) time c.here) ∙ c.same in
      let d : Doing e' b' a a' r.left (applied_txs time (confirmed_of txs ins) (begun (world_of e b k ys st) s)) = rw u at c.doing in
      let z : 0 ≡ block_refusal st (length a / 4) txs ins = sym p.accepted ∙ code_fits e b k st (length a / 4) txs ins (cache-holds e b k st ys f.fits) in
      rw (goes_on st (world_of e b k ys st) s (length a / 4) time txs ins z refl)
      (record {
        kept =
            record {
              fits = record { tests = record { pool = p.ready.safe.fits; cache = o.ok }; keeps = rw (room-still k k' o.size) f.fits.keeps; records = f.fits.records; used = omega arith };
              indexed = record { pool = d.kept; cache = o.kept };
            };
        config = refl;
        pass = refl;
        outcome = rw d.count;
        world = rw (d.tables, o.rows);
        stats = sym (rw end at c.stats) ∙ ap (λ (m : Progress). m.stats) u;
        wrote = d.wrote;
        placed = omega (arith, d.count, p.sum, p.room);
      })

  pub promised : Promised time txs ins e b k a st s e' b' k' a' (finished st r) x
  unfolding listed_of finished
  promised =
      record {
        promise = applied-post;
        ours = removed-ours r.left.written;
        spares = λ ys. spares-wrote (lent e b k ys a st) (lent e' b' k' ys a' (finished st r).mempool) refl;
        stats = λ j i q. let o : ◌≡◌ {A = ℕ} 0 1 = cc in absurd (omega arith);
        unfit = λ z. let y : false ≡ true = sym z ∙ (code-none e b k st (length a / 4) txs ins p.accepted).0 in let o : ◌≡◌ {A = ℕ} 0 1 = cc in absurd (omega arith);
        placed = λ n q. let o : r.left.written ≡ n = cc in omega (arith, p.sum, p.room);
      }

  -- .. of the caller's words, which are the pool's
  module _ {e'' b'' : List ℕ} {o : Done (Result ℕ Refusal)} (f : o ≡ finished st r) (u : e'' ≡ e') (v : b'' ≡ b') where
    pub promise-there : BlockPromise e b k st s time txs ins e'' b'' k' a a' (handed o x)
    promise-there = rw (f, u, v) promised.promise

    pub spares-there : ((ys : List PeerRecord) → Spares (listed_of o.outcome) (lent e b k ys a st) (lent e'' b'' k' ys a' o.mempool)) × ((j i : ℕ) → listed_of o.outcome ≡ refused j i → x ≡ s)
    spares-there = rw (f, u, v) (promised.spares, promised.stats)
