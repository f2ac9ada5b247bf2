-- What a return and an invalidation leave, as their contracts say it: one record, of the words and the state at exit, against a result of the
-- definitions.
use Rattle.std.specs.Prelude.{ℕ, ◌≡◌, List}
use Rattle.pool_types.specs.declared.Counts.{Counts}
use Rattle.pool_types.specs.declared.Mempool.{Mempool}
use Rattle.pool_types.specs.Outcomes.{Outcome}
use Rattle.expiring_cache.specs.Layout.{Inserted}
use Rattle.peers.specs.declared.PeerRecord.{PeerRecord}
use Rattle.pool.specs.Pool.{Tables, Left}
use Rattle.store.specs.World.{world_of, Result}
use Rattle.store.specs.Fits.{Kept}

-- from the state st, r was handed back with the outcome o; the words of entries, boxes and cache are now e, b and k, the peer records
-- ys: all as s has it
pub record Meets (st r : Mempool) (o : Outcome) (e b k : List ℕ) (ys : List PeerRecord) (s : Result) : Type 0 where
  pub kept : Kept e b k ys r
  pub config : r.config ≡ st.config
  pub pass : r.pass ≡ st.pass
  pub outcome : o ≡ s.outcome
  pub world : world_of e b k ys r ≡ s.world

-- ---- a step of a call: the state st was handed in and r handed back

abbrev pub recounted : Mempool → Counts → Mempool
recounted st c = record { config = st.config; counts = c; cached = st.cached; sums = st.sums; pass = st.pass }

abbrev pub recached : Mempool → ℕ → Mempool
recached st n = record { config = st.config; counts = st.counts; cached = n; sums = st.sums; pass = st.pass }

-- the words of entries and boxes are now e and b, and hold the tables t; of the state the counts alone are new
pub record Tabled (e b : List ℕ) (st r : Mempool) (t : Tables) : Type 0 where
  pub state : r ≡ recounted st r.counts
  pub left : Left e b r.counts t

-- the words of the cache were l and are m, and the id n entered it; of the state the number of ids alone is new
pub record Cached (l m : List ℕ) (st r : Mempool) (time n : ℕ) : Type 0 where
  pub state : r ≡ recached st r.cached
  pub inserted : Inserted l m st.cached r.cached st.config.invalidation_capacity time n
