-- What is held between lines.
use Rattle.std.specs.Prelude.{ℕ, Bool}
use Rattle.pool_types.specs.declared.Mempool.{Mempool}
use Rattle.stats.specs.declared.FeeStats.{FeeStats}

-- whether there is a pool, its state and statistics, and how many ids the last changing call wrote into the answer buffer
pub record Kept : Type 0 where
  pub ready : Bool
  pub mempool : Mempool
  pub stats : FeeStats
  pub written : ℕ
