-- The queries that need no statistics, as functions of what the store holds (document 01, "Fee and wait": "`all_prioritized` and `top` write id,
-- weight and base of each entry; `len`, `contains` and `spending_tx` are as written"). Counts that do not fit the lent slices are refusal 1
-- (docs/DECISIONS.md, D2).
use Rattle.std.specs.Prelude.{Option, None, Some, Result, Ok, Err}
use Rattle.std.specs.Prelude.{ℕ, ◌<◌, ◌≡◌, Bool, true, false, List, [], ◌∷◌, leb}
use Rattle.words.specs.Lists.{pick}
use Rattle.words.specs.Find.{found}
use Rattle.words.specs.Ids.{id_of}
use Rattle.pool_types.specs.declared.Mempool.{Mempool}
use Rattle.pool_types.specs.declared.PooledTx.{PooledTx}
use Rattle.pool_types.specs.declared.Refusal.{Refusal}
use Rattle.pool_types.specs.Outcomes.{Outcome, refused, said, entry, none}
use Rattle.entries.specs.Entries.{Entry, pooled, place_of}
use Rattle.entries.specs.Laws.{at_place, no_place}
use Rattle.entries.specs.Layout.{entry_at, entries_of, entries_room, entries}
use Rattle.boxes.specs.Records.{index, lookup}
use Rattle.boxes.specs.Layout.{boxes_of, boxes_room}
use Rattle.expiring_cache.specs.Cache.{held}
use Rattle.expiring_cache.specs.Layout.{cache_of, cache_room}

-- refusal 1 where a count does not fit its table
abbrev pub fitted : Bool → Outcome → Outcome
fitted t o = pick t o (refused 1 0)

-- `contains`: pooled, or held in the cache at the time given (docs/DECISIONS.md, D26)
unfoldable pub contains_of : List ℕ → List ℕ → Mempool → ℕ → ℕ → Outcome
contains_of e k st time id =
    fitted (leb st.counts.pooled (entries_room e))
    (fitted (leb st.cached (cache_room k))
    (said (pick (pooled id (entries_of e st.counts.pooled)) true (held st.config.invalidation_ttl time id (cache_of k st.cached)))))

-- `spending_tx`: id, weight and base of the transaction that the spender index names for a box
abbrev pub entry_outcome : List Entry → Outcome
entry_outcome [] = none
entry_outcome (x ∷ xs) = entry x.id x.weight x.base

abbrev pub spender_in : List Entry → List ℕ → Outcome
spender_in es [] = none
spender_in es (k ∷ ks) = entry_outcome (found (λ x. x.id) k es)

unfoldable pub spending_of : List ℕ → List ℕ → Mempool → ℕ → Outcome
spending_of e b st box =
    fitted (leb st.counts.pooled (entries_room e))
    (fitted (leb st.counts.records (boxes_room b))
    (spender_in (entries_of e st.counts.pooled) (lookup (index false (boxes_of b st.counts.records)) box)))

-- ---- on any words: refusal 1 where a count does not fit, and what was looked up else

unfoldable pub contains_with : List ℕ → List ℕ → Mempool → Outcome → Outcome
contains_with e k st o = fitted (leb st.counts.pooled (entries_room e)) (fitted (leb st.cached (cache_room k)) o)

unfoldable pub spending_with : List ℕ → List ℕ → Mempool → Outcome → Outcome
spending_with e b st o = fitted (leb st.counts.pooled (entries_room e)) (fitted (leb st.counts.records (boxes_room b)) o)

-- what an answer says, where it is no refusal
abbrev pub test_said : Result Bool Refusal → Outcome
test_said (Ok b) = said b
test_said (Err r) = said false

abbrev pub entry_seen : Result (Option PooledTx) Refusal → Outcome
entry_seen (Ok (Some t)) = entry (id_of t.id) t.weight t.base
entry_seen (Ok None) = none
entry_seen (Err r) = none

-- ---- an entry by its place

pub entry_here : (l : List ℕ) (n i k x w b : ℕ) → i < n → place_of k (entries_of l n) ≡ Some i → x ≡ (entry_at l i).id → w ≡ (entry_at l i).weight → b ≡ (entry_at l i).base
    → entry x w b ≡ entry_outcome (found (λ x. x.id) k (entries_of l n))
entry_here l n i k x w b h p y v u = rw ((at_place k i (entries_of l n) p).one (entry_at l i), entries.get l n i (entry_at l i) h, y, v, u)

pub entry_absent : (l : List ℕ) (n k : ℕ) → place_of k (entries_of l n) ≡ None → none ≡ entry_outcome (found (λ x. x.id) k (entries_of l n))
entry_absent l n k p = rw (no_place k (entries_of l n) p).none
