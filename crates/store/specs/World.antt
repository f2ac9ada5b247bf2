-- The store as its tables decode, and what a call makes of it.
use Rattle.std.specs.Prelude.{ℕ, List, []}
use Rattle.pool_types.specs.declared.Mempool.{Mempool}
use Rattle.pool_types.specs.Outcomes.{Outcome}
use Rattle.expiring_cache.specs.Cache.{Held}
use Rattle.expiring_cache.specs.Layout.{cache_of}
use Rattle.peers.specs.Peers.{peers_of}
use Rattle.peers.specs.declared.PeerRecord.{PeerRecord}
use Rattle.pool.specs.Pool.{Tables, tables_of}

pub record World : Type 0 where
  pub tables : Tables
  -- ids once found invalid
  pub cache : List Held
  -- what was charged since the last block: in all, and to each peer
  pub sum : ℕ
  pub peers : List PeerRecord

abbrev pub world : Tables → List Held → ℕ → List PeerRecord → World
world t k s p = record { tables = t; cache = k; sum = s; peers = p }

-- the store that words, peer records and state hold
abbrev pub world_of : List ℕ → List ℕ → List ℕ → List PeerRecord → Mempool → World
world_of e b k p st = world (tables_of e b st.counts) (cache_of k st.cached) st.sums.interblock_cost (peers_of p st.sums.peers)

-- what a call answers, leaves, and writes into its answer buffer, from the first place on
pub record Result : Type 0 where
  pub outcome : Outcome
  pub world : World
  pub written : List ℕ

-- "nothing changes and no answer byte is written"
abbrev pub unchanged : Outcome → World → Result
unchanged o w = record { outcome = o; world = w; written = [] }
