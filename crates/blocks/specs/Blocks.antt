-- A block (document 01, "Blocks, returns, passes": "`apply_block_at` .. as written. A block lists ids, each with its inputs"; lib.rs): what it answers
-- and all that it leaves. `txs` are its transactions, 5 words each, the number of inputs at 4; `ins` are all their inputs, 4 words each, in order.
use Rattle.std.specs.Prelude.{ℕ, zero, suc, ◌+◌, ◌*◌, Bool, false, not, ◌&&◌, List, [], ◌∷◌, ◌++◌, eqb, ltb, length, take, drop}
use Rattle.words.specs.Lists.{pick}
use Rattle.words.specs.Find.{found}
use Rattle.words.specs.Ids.{id_at}
use Rattle.pool_types.specs.declared.Mempool.{Mempool}
use Rattle.pool_types.specs.Outcomes.{refused, wrote}
use Rattle.arguments.specs.Arguments.{whole, records, field, counts_agree}
use Rattle.expiring_cache.specs.Cache.{prune}
use Rattle.stats.specs.Stats.{confirmed}
use Rattle.stats.specs.declared.FeeStats.{FeeStats}
use Rattle.entries.specs.Entries.{Entry, pooled}
use Rattle.boxes.specs.Records.{index, lookup}
use Rattle.boxes.specs.Flat.{ids_of}
use Rattle.pool.specs.Pool.{Tables, remove_tx}
use Rattle.store.specs.World.{World, world, Result, unchanged}

-- a transaction of a block: its id, and the boxes that it spends
pub record Confirmed : Type 0 where
  pub id : ℕ
  pub inputs : List ℕ

-- what a block has come to so far: the tables, the statistics, the ids removed, in order
pub record Progress : Type 0 where
  pub tables : Tables
  pub stats : FeeStats
  pub removed : List ℕ

-- ---- one transaction, as the Rust has it: one that is pooled is confirmed in the statistics, removed and written; then for each of its inputs a
-- spender that is another transaction is removed and written

-- the confirming step of the entry that was found (60,000 ms: the statistics' interval)
unfoldable pub recorded : ℕ → List Entry → FeeStats → FeeStats
recorded time [] s = s
recorded time (e ∷ es) s = confirmed 60000 s time e.created e.base

unfoldable pub confirm_one : ℕ → ℕ → Progress → Progress
confirm_one time k p =
    pick (pooled k p.tables.entries)
    (record {
      tables = remove_tx k p.tables;
      stats = recorded time (found (λ e. e.id) k p.tables.entries) p.stats;
      removed = p.removed ++ (k ∷ []);
    })
    p

-- a transaction that leaves because another's input is its own: it is written, and no statistics are kept of it
unfoldable pub drive_out : ℕ → Progress → Progress
drive_out o p =
    pick (pooled o p.tables.entries) (record { tables = remove_tx o p.tables; stats = p.stats; removed = p.removed ++ (o ∷ []) }) p

-- the spender that the index names, if it is another than k
unfoldable pub rivals : ℕ → List ℕ → Progress → Progress
rivals k [] p = p
rivals k (o ∷ os) p = pick (eqb o k) p (drive_out o p)

-- one input of k
abbrev pub spent_one : ℕ → ℕ → Progress → Progress
spent_one k b p = rivals k (lookup (index false p.tables.boxes) b) p

unfoldable pub spent : ℕ → List ℕ → Progress → Progress
spent k [] p = p
spent k (b ∷ bs) p = spent k bs (spent_one k b p)

-- the transaction k with these inputs, and one after the other
abbrev pub applied_tx : ℕ → ℕ → List ℕ → Progress → Progress
applied_tx time k bs p = spent k bs (confirm_one time k p)

unfoldable pub applied_txs : ℕ → List Confirmed → Progress → Progress
applied_txs time [] p = p
applied_txs time (t ∷ ts) p = applied_txs time ts (applied_tx time t.id t.inputs p)

-- ---- what the two lists say: n transactions from i on, whose inputs begin at j

-- so many inputs from j on
unfoldable pub inputs_at : List ℕ → ℕ → ℕ → List ℕ
inputs_at ins j n = take n (drop j (ids_of 4 ins))

unfoldable pub confirmed_from : List ℕ → List ℕ → ℕ → ℕ → ℕ → List Confirmed
confirmed_from txs ins i j zero = []
confirmed_from txs ins i j (suc n) =
    record { id = id_at txs (i * 5); inputs = inputs_at ins j (field 5 4 txs i) } ∷ confirmed_from txs ins (suc i) (j + field 5 4 txs i) n

unfoldable pub confirmed_of : List ℕ → List ℕ → List Confirmed
confirmed_of txs ins = confirmed_from txs ins 0 0 (records 5 txs)

-- ---- the whole

-- "a list is no whole number of records, or its counts disagree", turned round
unfoldable pub readable : List ℕ → List ℕ → Bool
readable txs ins = (whole 5 txs && whole 4 ins) && counts_agree txs ins

-- "any other call its own in rising order, 20 or 21 first": 20 "a pass is open"; 1; 2 "answer buffer below pooled + 1 ids", of which it holds `room`
unfoldable pub block_refusal : Mempool → ℕ → List ℕ → List ℕ → ℕ
block_refusal st room txs ins =
    pick st.pass.open 20
    (pick (not (readable txs ins)) 1
    (pick (ltb room (st.counts.pooled + 1)) 2 0))

-- what a block comes to: as other calls, and the statistics
pub record BlockResult : Type 0 where
  pub result : Result
  pub stats : FeeStats

-- "a block not refused sets the sum to 0 and frees every record", and the cache is pruned at the block's time
unfoldable pub settled : Mempool → World → ℕ → Progress → BlockResult
settled st w time p =
    record {
      result =
          record {
            outcome = wrote (length p.removed);
            world = world p.tables (prune st.config.invalidation_ttl time w.cache) 0 [];
            written = p.removed;
          };
      stats = p.stats;
    }

abbrev pub begun : World → FeeStats → Progress
begun w s = record { tables = w.tables; stats = s; removed = [] }

unfoldable pub applied : Mempool → World → FeeStats → ℕ → ℕ → List ℕ → List ℕ → BlockResult
applied st w s room time txs ins =
    pick (eqb (block_refusal st room txs ins) 0)
    (settled st w time (applied_txs time (confirmed_of txs ins) (begun w s)))
    (record { result = unchanged (refused (block_refusal st room txs ins) 0) w; stats = s })
