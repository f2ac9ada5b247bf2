-- The ordered pool: the entries and the box records together (document 01, "The ordered pool").
use Rattle.std.specs.Prelude.{None}
use Rattle.std.specs.Prelude.{ℕ, zero, suc, ◌+◌, ◌≤◌, ◌≡◌, refl, Bool, true, false, ◌&&◌, ◌||◌, List, [], ◌∷◌, leb, ltb, length}
use Rattle.words.specs.Lists.{pick}
use Rattle.words.specs.Find.{without, last, drop_last}
use Rattle.pool_types.specs.declared.Counts.{Counts}
use Rattle.entries.specs.Entries.{Entry, ahead, insert_by, pooled, credit}
use Rattle.entries.specs.Layout.{entries_of, entries_room, EntriesOk, EntriesKept}
use Rattle.entries.specs.Layout.{ok-one as entries-one}
use Rattle.boxes.specs.Records.{BoxRec, enter_tx, drop_owner}
use Rattle.boxes.specs.Layout.{boxes_of, boxes_room, BoxesOk}
use Rattle.boxes.specs.Layout.{ok-one as boxes-one}
use Rattle.boxes.specs.Index.{BoxesKept}

pub record Tables : Type 0 where
  pub entries : List Entry
  pub boxes : List BoxRec

-- ---- the tables in the lent words

abbrev pub tables_of : List ℕ → List ℕ → Counts → Tables
tables_of e b c = record { entries = entries_of e c.pooled; boxes = boxes_of b c.records }

-- the counts fit the words
pub record PoolFits (e b : List ℕ) (c : Counts) : Type 0 where
  pub entries : EntriesOk e c.pooled
  pub boxes : BoxesOk b c.records

-- there is one proof at most: a struct keeps it
pub fits-one : (e b : List ℕ) (c : Counts) → IsProp (PoolFits e b c)
fits-one e b c x y = λ i. record { entries = entries-one e c.pooled x.entries y.entries i; boxes = boxes-one b c.records x.boxes y.boxes i }

-- .. as a call tests it, on counts and words that nothing is known of
abbrev pub fits_test : List ℕ → List ℕ → Counts → Bool
fits_test e b c = leb c.pooled (entries_room e) && leb c.records (boxes_room b)

-- both indexes are right: an accepted start makes it, every call keeps it, and no test can tell it
pub record PoolKept (e b : List ℕ) (c : Counts) : Type 0 where
  pub entries : EntriesKept e c.pooled
  pub boxes : BoxesKept b c.records

-- the words have room for one more entry and so many more records
pub record Room (e b : List ℕ) (c : Counts) (needed : ℕ) : Type 0 where
  pub entries : EntriesOk e (c.pooled + 1)
  pub boxes : BoxesOk b c.records
  pub free : c.records + needed ≤ boxes_room b

-- what a removal leaves on any words: no more than there was
pub record Fewer (e b : List ℕ) (c d : Counts) : Type 0 where
  pub fits : PoolFits e b d
  pub entries : d.pooled ≤ c.pooled
  pub records : d.records ≤ c.records

-- what a call leaves: words and counts that fit, right indexes, and these tables
pub record Left (e b : List ℕ) (c : Counts) (t : Tables) : Type 0 where
  pub fits : PoolFits e b c
  pub kept : PoolKept e b c
  pub tables : tables_of e b c ≡ t

-- refusal 27: "no free entry, or fewer free box records than inputs plus outputs", of E entries and R records
abbrev pub no_room : ℕ → ℕ → Tables → ℕ → Bool
no_room E R t needed = leb E (length t.entries) || ltb R (length t.boxes + needed)

-- ---- a transaction enters and leaves

-- the entry goes where the order has it; the records of these inputs and outputs enter
abbrev pub insert_tx : Entry → List ℕ → List ℕ → Tables → Tables
insert_tx e ins outs t = record { entries = insert_by e t.entries; boxes = enter_tx e.id ins outs t.boxes }

-- "Removing a transaction drops the index entries that name it": its entry and its records go. One that is not pooled changes nothing.
abbrev pub remove_tx : ℕ → Tables → Tables
remove_tx k t = pick (pooled k t.entries) (record { entries = without (λ e. e.id) k t.entries; boxes = drop_owner k t.boxes }) t

-- one after the other
abbrev pub remove_all : List ℕ → Tables → Tables
remove_all [] t = t
remove_all (k ∷ ks) t = remove_all ks (remove_tx k t)

-- ---- "eviction of the lowest until the capacity is met"

-- where there is no lowest
abbrev pub nobody : Entry
nobody = record { id = 0; weight = 0; base = 0; size = 0; cost = 0; validation_cost = None; created = 0; last_checked = 0; height_key = 0; inputs = 0 }

-- the last in priority order
abbrev pub lowest : Tables → Entry
lowest t = last nobody t.entries

abbrev pub drop_low : Tables → Tables
drop_low t = record { entries = drop_last t.entries; boxes = drop_owner (lowest t).id t.boxes }

-- as often as the first number says at most, until at most n are left; and the ids that go, in order
abbrev pub trim : ℕ → ℕ → Tables → Tables
trim zero n t = t
trim (suc f) n t = pick (leb (length t.entries) n) t (trim f n (drop_low t))

abbrev pub trimmed : ℕ → ℕ → Tables → List ℕ
trimmed zero n t = []
trimmed (suc f) n t = pick (leb (length t.entries) n) [] ((lowest t).id ∷ trimmed f n (drop_low t))

abbrev pub evict : ℕ → Tables → Tables
evict n t = trim (length t.entries) n t

abbrev pub evicted : ℕ → Tables → List ℕ
evicted n t = trimmed (length t.entries) n t

-- ---- credits of a walk: each of these is credited c, in order

abbrev pub credits : ℕ → List ℕ → List Entry → List Entry
credits c [] es = es
credits c (k ∷ ks) es = credits c ks (credit c k es)

-- ---- on the edges: transaction 1 of weight 30 makes box 8; transaction 2 of weight 20 spends it and makes 9

abbrev sample : ℕ → ℕ → Entry
sample k w = record { id = k; weight = w; base = w; size = 0; cost = 0; validation_cost = None; created = 0; last_checked = 0; height_key = 0; inputs = 0 }

abbrev none : Tables
none = record { entries = []; boxes = [] }

abbrev one : Tables
one = insert_tx (sample 1 30) (7 ∷ []) (8 ∷ []) none

abbrev two : Tables
two = insert_tx (sample 2 20) (8 ∷ []) (9 ∷ []) one

-- one that leaves takes its records with it; one that is not there takes none; the lowest goes first
edges : (remove_tx 2 two ≡ one) × (remove_tx 3 two ≡ two) × (evict 1 two ≡ one) × (evicted 0 two ≡ 2 ∷ 1 ∷ []) × (evict 0 two ≡ none) × (evicted 2 two ≡ [])
unfolding ahead
edges = (refl, refl, refl, refl, refl, refl)

-- 27 counts repeats, and E and R themselves are free only while they are not reached
full : (no_room 2 9 two 1 ≡ true) × (no_room 3 6 two 2 ≡ false) × (no_room 3 6 two 3 ≡ true)
unfolding ahead
full = (refl, refl, refl)
