-- Rebroadcast (document 01: "`select_for_rebroadcast` gets a list of confirmed box ids"; cleanup.rs): the first so many pooled transactions in priority
-- order all of whose inputs are confirmed. A transaction without inputs qualifies; pooled outputs do not count as confirmed (docs/DECISIONS.md, D28).
use Rattle.std.specs.Prelude.{ℕ, ◌+◌, Bool, not, List, map, eqb, ltb, length, take}
use Rattle.words.specs.Lists.{pick, keep}
use Rattle.pool_types.specs.declared.Mempool.{Mempool}
use Rattle.pool_types.specs.Outcomes.{refused, wrote}
use Rattle.arguments.specs.Arguments.{whole}
use Rattle.entries.specs.Entries.{Entry}
use Rattle.boxes.specs.Records.{BoxRec, inputs_of}
use Rattle.boxes.specs.Flat.{ids_of}
use Rattle.indexes.specs.Inputs.{all_among}
use Rattle.pool.specs.Pool.{Tables}
use Rattle.store.specs.World.{World, Result, unchanged}

-- all inputs of this entry are confirmed
abbrev pub sendable : List ℕ → List BoxRec → Entry → Bool
sendable confirmed rs e = all_among confirmed (inputs_of e.id rs)

-- the first so many in priority order
unfoldable pub chosen : ℕ → List ℕ → Tables → List ℕ
chosen most confirmed t = take most (map (λ e. e.id) (keep (sendable confirmed t.boxes) t.entries))

-- a query: 1 "a list is no whole number of records", 2 "answer buffer below pooled + 1 ids"
unfoldable pub rebroadcast_refusal : Mempool → ℕ → List ℕ → ℕ
rebroadcast_refusal st room confirmed = pick (not (whole 4 confirmed)) 1 (pick (ltb room (st.counts.pooled + 1)) 2 0)

unfoldable pub rebroadcast : Mempool → World → ℕ → List ℕ → Result
rebroadcast st w room confirmed =
    pick (eqb (rebroadcast_refusal st room confirmed) 0)
    (record {
      outcome = wrote (length (chosen st.config.rebroadcast_count (ids_of 4 confirmed) w.tables));
      world = w;
      written = chosen st.config.rebroadcast_count (ids_of 4 confirmed) w.tables;
    })
    (unchanged (refused (rebroadcast_refusal st room confirmed) 0) w)
