-- A return and an invalidation (document 01, "Blocks, returns, passes"; lib.rs): what each answers and all that it leaves, as a function of the
-- decoded store, the state and the arguments. A return `u` brings two lists of words beside it: `ins`, 4 words an input, and `outs`, 5 words an
-- output, its height at 4.
use Rattle.std.specs.Prelude.{ℕ, ◌+◌, not, ◌&&◌, List, [], eqb, ltb}
use Rattle.words.specs.Lists.{pick}
use Rattle.words.specs.Ids.{id_of}
use Rattle.pool_types.specs.declared.Mempool.{Mempool}
use Rattle.pool_types.specs.declared.MempoolConfig.{MempoolConfig}
use Rattle.pool_types.specs.Outcomes.{refused, done}
use Rattle.weight.specs.Weight.{fee_per_factor}
use Rattle.arguments.specs.Arguments.{whole, records, height_key}
use Rattle.expiring_cache.specs.Cache.{remember}
use Rattle.entries.specs.Entries.{Entry, pooled}
use Rattle.boxes.specs.Flat.{ids_of}
use Rattle.pool.specs.Pool.{Tables, no_room, insert_tx, remove_tx}
use Rattle.store.specs.World.{World, world, Result, unchanged}
use Rattle.returns.specs.declared.UnconfirmedTx.{UnconfirmedTx}

-- ---- a return

-- "A return tests 20, 1, 3, 23, 27": 20 "a pass is open"; 1 "a list is no whole number of records"; 3 "size above 98,304"; 23 "already pooled (also
-- for a return, where the Rust skips)"; 27 "no free entry, or fewer free box records than inputs plus outputs", of E entries and R records
unfoldable pub return_refusal : ℕ → ℕ → Mempool → Tables → UnconfirmedTx → List ℕ → List ℕ → ℕ
return_refusal E R st t u ins outs =
    pick st.pass.open 20
    (pick (not (whole 4 ins && whole 5 outs)) 1
    (pick (ltb 98304 u.size) 3
    (pick (pooled (id_of u.id) t.entries) 23
    (pick (no_room E R t (records 4 ins + records 5 outs)) 27 0))))

-- "`return_to_pool` takes one transaction a call, with the fields of `UnconfirmedTx`": its cost and its times as they are given (docs/DECISIONS.md,
-- D20). "Entry weight is the base."
unfoldable pub returned_entry : MempoolConfig → UnconfirmedTx → List ℕ → List ℕ → Entry
returned_entry g u ins outs =
    record {
      id = id_of u.id;
      weight = fee_per_factor g.fee_strategy u.fee u.size u.cost;
      base = fee_per_factor g.fee_strategy u.fee u.size u.cost;
      size = u.size;
      cost = u.cost;
      validation_cost = u.validation_cost;
      created = u.created;
      last_checked = u.last_checked;
      height_key = height_key 5 4 outs;
      inputs = records 4 ins;
    }

-- "a return not refused enters one, without credits"; nothing is charged or evicted, and the cache is not asked (docs/DECISIONS.md, D20)
unfoldable pub returned : ℕ → ℕ → Mempool → World → UnconfirmedTx → List ℕ → List ℕ → Result
returned E R st w u ins outs =
    pick (eqb (return_refusal E R st w.tables u ins outs) 0)
    (record {
      outcome = done;
      world = world (insert_tx (returned_entry st.config u ins outs) (ids_of 4 ins) (ids_of 5 outs) w.tables) w.cache w.sum w.peers;
      written = [];
    })
    (unchanged (refused (return_refusal E R st w.tables u ins outs) 0) w)

-- ---- an invalidation

-- test 20; then it leaves the pool where it is there, and its id enters the cache, where it is not renewed if present
unfoldable pub invalidated : Mempool → World → ℕ → ℕ → Result
invalidated st w time k =
    pick st.pass.open (unchanged (refused 20 0) w)
    (record {
      outcome = done;
      world = world (remove_tx k w.tables) (remember st.config.invalidation_capacity time k w.cache) w.sum w.peers;
      written = [];
    })
