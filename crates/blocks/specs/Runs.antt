-- A block from one confirmation to the next. The code on plain words keeps no statistics: it tells what is to be recorded, and what is said of it here
-- holds for all statistics and at each time.
use Rattle.std.specs.Prelude.{Option, None, Some, Result, Ok}
use Rattle.std.specs.Prelude.{ℕ, suc, ◌+◌, ◌-◌, ◌/◌, ◌≤◌, ◌<◌, ◌≡◌, Bool, true, false, List, [], ◌∷◌, ◌++◌, eqb, length}
use Rattle.std.proofs.Math.Path.{refl}
use Rattle.std.proofs.Common.{sym, ap, ◌∙◌, arith}
use Rattle.words.specs.Lists.{pick}
use Rattle.words.specs.Find.{found}
use Rattle.words.specs.Sums.{cap}
use Rattle.pool_types.specs.declared.Counts.{Counts}
use Rattle.pool_types.specs.declared.Done.{Done}
use Rattle.pool_types.specs.declared.Mempool.{Mempool}
use Rattle.pool_types.specs.declared.Refusal.{Refusal}
use Rattle.arguments.specs.Arguments.{records}
use Rattle.expiring_cache.specs.Layout.{CacheOk, CacheKept, Pruned}
use Rattle.stats.specs.Stats.{confirmed}
use Rattle.stats.specs.declared.FeeStats.{FeeStats}
use Rattle.entries.specs.Entries.{Entry, pooled, place_of}
use Rattle.entries.specs.Laws.{at_place, no_place, place-fits}
use Rattle.entries.specs.Layout.{entry_at, entries_of, entries}
use Rattle.boxes.specs.Records.{index, lookup}
use Rattle.pool.specs.Pool.{tables_of, PoolFits, PoolKept, remove_tx}
use Rattle.pool.specs.declared.lent.PoolMut.{PoolMut}
use Rattle.answers.specs.Answers.{wrote_nothing}
use Rattle.store.specs.Fits.{Testable, cache-fits}
use Rattle.blocks.specs.Blocks.{Progress, recorded, confirm_one, drive_out, rivals, spent_one, spent, applied_txs, confirmed_of}
use Rattle.blocks.specs.Steps.{Removal, Safe, Doing, safe-none, Agreed, later, agreed-none, later-none, later-all}
use Rattle.blocks.specs.Tests.{Passed, passed, refusal_on, code-none}
use Rattle.blocks.specs.declared.Run.{Run as CodeRun}
use Rattle.entries.specs.declared.fields.Since.{Since}

-- ---- what is to be recorded of an entry that was found, and the statistics with it

unfoldable pub seen_of : List Entry → Option Since
seen_of [] = None
seen_of (e ∷ es) = Some (record { created = e.created; base = e.base })

abbrev pub tallied : ℕ → Option Since → FeeStats → FeeStats
tallied time None s = s
tallied time (Some v) s = confirmed 60000 s time v.created v.base

pub recorded-seen : (time : ℕ) (es : List Entry) (s : FeeStats) → recorded time es s ≡ tallied time (seen_of es) s
unfolding recorded seen_of
recorded-seen time [] s = refl
recorded-seen time (e ∷ es) s = refl

pub seen_there : (k : ℕ) (l : List ℕ) (n i : ℕ) {created base : ℕ} → place_of k (entries_of l n) ≡ Some i → created ≡ (entry_at l i).created → base ≡ (entry_at l i).base
    → Some (record { created = created; base = base }) ≡ seen_of (found (λ x. x.id) k (entries_of l n))
unfolding seen_of
seen_there k l n i p c b = rw ((at_place k i (entries_of l n) p).one (entry_at l i), entries.get l n i (entry_at l i) (place-fits l n k i p), c, b)

pub seen_nowhere : (k : ℕ) (es : List Entry) → place_of k es ≡ None → None ≡ seen_of (found (λ x. x.id) k es)
unfolding seen_of
seen_nowhere k es p = rw (no_place k es p).none

-- ---- the statistics of a step: only the confirmed transaction itself changes them

drive-stats : (o : ℕ) (m : Progress) → (drive_out o m).stats ≡ m.stats
unfolding drive_out
drive-stats o m = go (pooled o m.tables.entries)
  where
    go : (t : Bool) → (pick t (record { tables = remove_tx o m.tables; stats = m.stats; removed = m.removed ++ (o ∷ []) }) m).stats ≡ m.stats
    go true = refl
    go false = refl

rivals-stats : (k : ℕ) (os : List ℕ) (m : Progress) → (rivals k os m).stats ≡ m.stats
unfolding rivals
rivals-stats k [] m = refl
rivals-stats k (o ∷ os) m = go (eqb o k)
  where
    go : (t : Bool) → (pick t m (drive_out o m)).stats ≡ m.stats
    go true = refl
    go false = drive-stats o m

pub spent-stats : (k : ℕ) (bs : List ℕ) (m : Progress) → (spent k bs m).stats ≡ m.stats
unfolding spent
spent-stats k [] m = refl
spent-stats k (b ∷ bs) m = spent-stats k bs (spent_one k b m) ∙ rivals-stats k (lookup (index false m.tables.boxes) b) m

unfound : (k : ℕ) (es : List Entry) → pooled k es ≡ false → found (λ x. x.id) k es ≡ []
unfound k [] h = refl
unfound k (e ∷ es) h = go (eqb e.id k) (unfound k es) h
  where
    go : (t : Bool) → (pooled k es ≡ false → found (λ x. x.id) k es ≡ []) → pick t true (pooled k es) ≡ false → pick t (e ∷ []) (found (λ x. x.id) k es) ≡ []
    go true ih q = let z : ◌≡◌ {A = ℕ} 0 1 = cc in absurd (omega arith)
    go false ih q = ih q

pub confirm-stats : (time k : ℕ) (m : Progress) → (confirm_one time k m).stats ≡ recorded time (found (λ e. e.id) k m.tables.entries) m.stats
unfolding confirm_one recorded
confirm-stats time k m = go (pooled k m.tables.entries) refl
  where
    out : Progress
    out = record { tables = remove_tx k m.tables; stats = recorded time (found (λ e. e.id) k m.tables.entries) m.stats; removed = m.removed ++ (k ∷ []) }

    go : (t : Bool) → pooled k m.tables.entries ≡ t → (pick t out m).stats ≡ recorded time (found (λ e. e.id) k m.tables.entries) m.stats
    go true q = refl
    go false q = rw (unfound k m.tables.entries q)

-- ---- what `next` asks for, and what it does

-- what goes from one confirmation to the next: the code's `Run`, with how much of the tables is in use, which the code has in the pool
pub record Run : Type 0 where
  pub cached : ℕ
  pub at : ℕ
  pub from : ℕ
  pub left : Removal
  pub seen : Option Since

abbrev pub run_of : Counts → CodeRun → Run
run_of c r = record { cached = r.cached; at = r.at; from = r.from; left = record { counts = c; written = r.written }; seen = r.seen }

abbrev pub run_in : PoolMut → CodeRun → Run
run_in p r = run_of p.counts r

-- the tables are right, and the inputs from `from` on belong to what is left
pub record Ready (e b txs ins : List ℕ) (g : Run) : Type 0 where
  pub safe : Safe e b g.left
  pub agreed : Agreed txs ins g.at g.from

-- the code is at `here`, whose statistics are s: what is left from i and j on comes to x over it
pub record Come (txs ins : List ℕ) (i j time : ℕ) (s : FeeStats) (x : Progress) (e b a₀ a : List ℕ) (g : Removal) : Type 0 where
  pub here : Progress
  pub doing : Doing e b a₀ a g here
  pub stats : here.stats ≡ s
  pub same : later txs ins i j time here ≡ x

-- the run r follows g: what is left of r with what it says recorded comes to what was left of g
pub record Went (txs ins e b a : List ℕ) (g : Run) (e' b' a' : List ℕ) (r : Run) : Type 0 where
  pub cached : r.cached ≡ g.cached
  pub ready : Ready e' b' txs ins r
  pub on : (v : Since) → r.seen ≡ Some v → (g.at < r.at) × (r.at ≤ records 5 txs)
  pub ended : r.seen ≡ None → records 5 txs ≤ r.at
  -- what was written and what is pooled are no more than before together
  pub sum : r.left.written + r.left.counts.pooled ≤ g.left.written + g.left.counts.pooled
  pub goes : (time : ℕ) (a₀ : List ℕ) (m : Progress) → Doing e b a₀ a g.left m
      → Come txs ins r.at r.from time (tallied time r.seen m.stats) (later txs ins g.at g.from time m) e' b' a₀ a' r.left

-- ---- its loop: so far none was pooled

pub record Passing (txs ins e b a : List ℕ) (g : Run) (e' b' a' : List ℕ) (r : Removal) (i j : ℕ) : Type 0 where
  pub safe : Safe e' b' r
  pub agreed : Agreed txs ins i j
  pub since : g.at ≤ i
  pub sum : r.written + r.counts.pooled ≤ g.left.written + g.left.counts.pooled
  pub goes : (time : ℕ) (a₀ : List ℕ) (m : Progress) → Doing e b a₀ a g.left m → Come txs ins i j time m.stats (later txs ins g.at g.from time m) e' b' a₀ a' r

pub passing-none : {txs ins e b a : List ℕ} (g : Run) → Ready e b txs ins g → Passing txs ins e b a g e b a g.left g.at g.from
passing-none g f =
    record { safe = f.safe; agreed = f.agreed; since = omega arith; sum = omega arith; goes = λ time a₀ m d. record { here = m; doing = d; stats = refl; same = refl } }

-- the end: none was
pub went-end : {txs ins e b a e' b' a' : List ℕ} {g : Run} {r : Removal} {i j n : ℕ} → Passing txs ins e b a g e' b' a' r i j → records 5 txs ≤ i → n ≡ records 5 txs
    → Went txs ins e b a g e' b' a' (record { cached = g.cached; at = n; from = j; left = r; seen = None })
went-end {txs} {ins} {i = i} {j = j} {n = n} p h q =
    let w : records 5 txs - i ≡ 0 = omega arith in
    let z : records 5 txs - n ≡ 0 = omega arith in
    record {
      cached = refl;
      ready = record { safe = p.safe; agreed = record { sum = rw z (rw w at p.agreed.sum) } };
      on = λ v y. let o : ◌≡◌ {A = ℕ} 0 1 = cc in absurd (omega arith);
      ended = λ _. omega arith;
      sum = p.sum;
      goes = λ time a₀ m d.
          let c = p.goes time a₀ m d in
          record { here = c.here; doing = c.doing; stats = c.stats; same = later-all txs ins n j (omega arith) time c.here ∙ sym (later-all txs ins i j h time c.here) ∙ c.same };
    }

-- ---- a block, from its beginning to where it is

-- before its first transaction, on a cache that holds so many ids
unfoldable pub fresh : Mempool → ℕ → Run
fresh st c = record { cached = c; at = 0; from = 0; left = record { counts = st.counts; written = 0 }; seen = None }

abbrev pub begun_on : List ℕ → List ℕ → Mempool → FeeStats → Progress
begun_on e b st s = record { tables = tables_of e b st.counts; stats = s; removed = [] }

-- no test refuses it; the words were those of e, b, k and a, the statistics s; they are those of e', b', k', a' and x, and what r has seen is to be recorded next
pub record Running (time : ℕ) (txs ins e b k a : List ℕ) (st : Mempool) (s : FeeStats) (e' b' k' a' : List ℕ) (r : Run) (x : FeeStats) : Type 0 where
  pub accepted : refusal_on e b k st (length a / 4) txs ins ≡ 0
  pub ready : Ready e' b' txs ins r
  pub room : st.counts.pooled + 1 ≤ length a / 4
  pub sum : r.left.written + r.left.counts.pooled ≤ st.counts.pooled
  pub ended : r.seen ≡ None → records 5 txs ≤ r.at
  pub pruned : CacheKept k st.cached → Pruned k k' st.cached r.cached st.config.invalidation_ttl time
  pub come : PoolKept e b st.counts → Come txs ins r.at r.from time (tallied time r.seen x) (applied_txs time (confirmed_of txs ins) (begun_on e b st s)) e' b' a a' r.left

-- what is handed back, once nothing is left to be recorded
unfoldable pub finished : Mempool → Run → Done (Result ℕ Refusal)
finished st r =
    record {
      mempool = record { config = st.config; counts = r.left.counts; cached = r.cached; sums = record { interblock_cost = 0; peers = 0 }; pass = st.pass };
      outcome = Ok r.left.written;
    }

-- ---- it begins, goes on, and how much is left

-- the tests refuse nothing
module _ (txs ins e b k : List ℕ) (st : Mempool) (room : ℕ) (z : refusal_on e b k st room txs ins ≡ 0) where
  fitted : Testable e b k st
  fitted = (cache-fits e b k st (code-none e b k st room txs ins z).0).0

  tested : Passed st room txs ins
  tested = passed st room txs ins (code-none e b k st room txs ins z).1

  pub begin-cache : CacheOk k st.cached
  begin-cache = fitted.cache

  pub begin-pool : PoolFits e b st.counts
  begin-pool = fitted.pool

  pub begin-ready : (c : ℕ) (g : Run) → g ≡ fresh st c → length e ≤ cap → Ready e b txs ins g
  unfolding fresh
  begin-ready c g f h = rw f (record { safe = safe-none fitted.pool h; agreed = agreed-none txs ins tested.agree })

  pub run-begun : {time : ℕ} {a e' b' k' a' : List ℕ} {g r : Run} {c : ℕ} → room ≡ length a / 4 → g ≡ fresh st c → (CacheKept k st.cached → Pruned k k' st.cached c st.config.invalidation_ttl time)
      → Went txs ins e b a g e' b' a' r → (s : FeeStats) → Running time txs ins e b k a st s e' b' k' a' r s
  unfolding fresh
  run-begun {time} {a} {e'} {b'} {k'} {a'} {g} {r} {c} l f p v s =
      let w : Went txs ins e b a (fresh st c) e' b' a' r = rw f at v in
      record {
        accepted = rw (← l) z;
        ready = w.ready;
        room = rw (← l) tested.room;
        sum = omega (arith, w.sum);
        ended = w.ended;
        pruned = rw w.cached p;
        come = λ kept. rw (later-none txs ins time (begun_on e b st s)) at (w.goes time a (begun_on e b st s) (record { kept = kept; tables = refl; wrote = wrote_nothing a 0; count = refl }));
      }

module _ {time : ℕ} {txs ins e b k a : List ℕ} {st : Mempool} {s : FeeStats} {e' b' k' a' e'' b'' a'' : List ℕ} {g r : Run} {x x' : FeeStats} {v : Since} where
  come-on : Running time txs ins e b k a st s e' b' k' a' g x → g.seen ≡ Some v → x' ≡ confirmed 60000 x time v.created v.base → Went txs ins e' b' a' g e'' b'' a'' r → PoolKept e b st.counts
      → Come txs ins r.at r.from time (tallied time r.seen x') (applied_txs time (confirmed_of txs ins) (begun_on e b st s)) e'' b'' a a'' r.left
  come-on p z q w kept =
      let c = p.come kept in
      let d = w.goes time a c.here c.doing in
      let u : c.here.stats ≡ x' = rw z at c.stats ∙ sym q in
      record { here = d.here; doing = d.doing; stats = d.stats ∙ ap (tallied time r.seen) u; same = d.same ∙ c.same }

  -- what g has seen was recorded, and r follows
  pub run_on : Running time txs ins e b k a st s e' b' k' a' g x → g.seen ≡ Some v → x' ≡ confirmed 60000 x time v.created v.base → Went txs ins e' b' a' g e'' b'' a'' r
      → Running time txs ins e b k a st s e'' b'' k' a'' r x'
  run_on p z q w =
      record { accepted = p.accepted; ready = w.ready; room = p.room; sum = omega (arith, w.sum, p.sum); ended = w.ended; pruned = rw w.cached p.pruned; come = come-on p z q w }

-- how many turns there are at most
abbrev pub turns : List ℕ → Option Since → ℕ → ℕ
turns txs None at = 0
turns txs (Some v) at = suc (records 5 txs - at)

pub fewer-turns : {txs ins e b a e' b' a' : List ℕ} {g r : Run} {v : Since} → g.seen ≡ Some v → Went txs ins e b a g e' b' a' r → turns txs r.seen r.at < turns txs g.seen g.at
fewer-turns {txs = txs} {g = g} {r = r} z w = rw z (go r.seen w.on)
  where
    go : (o : Option Since) → ((v : Since) → o ≡ Some v → (g.at < r.at) × (r.at ≤ records 5 txs)) → turns txs o r.at < suc (records 5 txs - g.at)
    go None h = omega arith
    go (Some v) h = omega (arith, (h v refl).0, (h v refl).1)
