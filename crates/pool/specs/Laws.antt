-- Laws of the pool's definitions: what the tests say, what a removal's count says, and what eviction does, a step at a time.
use Rattle.std.specs.Prelude.{ℕ, zero, suc, ◌+◌, ◌-◌, ◌*◌, ◌≤◌, ◌<◌, ◌≡◌, refl, Bool, true, false, not, ◌&&◌, ◌||◌, List, [], ◌∷◌, eqb, leb, ltb, length, drop}
use Rattle.std.proofs.Common.{ap, not-suc-le-zero, arith, leb-true, leb-false, ltb-false, le-leb, lt-ltb, le-ltb}
use Rattle.std.proofs.Math.Decide.{dec_le}
use Rattle.std.proofs.lemmas.Bool.{lt-leb}
use Rattle.words.specs.Lists.{pick}
use Rattle.words.specs.Find.{without, but_last, drop_last}
use Rattle.words.specs.Tables.{drop_of, drop_past}
use Rattle.words.specs.Ids.{id_at}
use Rattle.pool_types.specs.declared.Counts.{Counts}
use Rattle.entries.specs.Entries.{Entry, pooled}
use Rattle.entries.specs.Layout.{entries_of, entries_room, entries}
use Rattle.entries.specs.Layout.{ok-room as room-entries, room-ok as entries-room}
use Rattle.boxes.specs.Layout.{boxes_of, boxes_room}
use Rattle.boxes.specs.Index.{BoxesKept, kept-count}
use Rattle.boxes.specs.Layout.{room-ok as room-boxes, ok-room as boxes-room}
use Rattle.boxes.specs.Flat.{ids_to, ids}
use Rattle.pool.specs.Pool.{Tables, tables_of, PoolFits, PoolKept, fits_test, Room, no_room, remove_tx, remove_all, lowest, drop_low, trim, trimmed, evict, evicted}

-- ---- counts and room

module _ (e b : List ℕ) (c : Counts) where
  -- counts that pass the test fit, and those that fit pass it
  pub fits-true : fits_test e b c ≡ true → PoolFits e b c
  fits-true h = go (leb c.pooled (entries_room e)) refl h
    where
      go : (t : Bool) → leb c.pooled (entries_room e) ≡ t → (t && leb c.records (boxes_room b)) ≡ true → PoolFits e b c
      go true p q = record { entries = room-entries e c.pooled (leb-true _ _ p); boxes = room-boxes b c.records (leb-true _ _ q) }
      go false p q = let z : ◌≡◌ {A = ℕ} 0 1 = cc in absurd (omega arith)

  pub fits-holds : PoolFits e b c → fits_test e b c ≡ true
  fits-holds f = rw (le-leb _ _ (entries-room e c.pooled f.entries)) (le-leb _ _ (boxes-room b c.records f.boxes))

  -- the code's test of 27: where it is passed there is room, and where the indexes are right it is document 01's
  module _ (needed : ℕ) {m r : ℕ} (p : m ≡ entries_room e) (q : r ≡ boxes_room b) (f : PoolFits e b c) where
    pub room-none : m ≤ c.pooled → BoxesKept b c.records → false ≡ not (no_room (entries_room e) (boxes_room b) (tables_of e b c) needed)
    room-none h k = let h' : entries_room e ≤ length (entries_of e c.pooled) = omega (arith, entries.len e c.pooled) in rw (le-leb _ _ h')

    pub room-some : c.pooled < m → leb needed (r - c.records) ≡ true → Room e b c needed
    room-some h t =
        record {
          entries = room-entries e (c.pooled + 1) (omega arith);
          boxes = f.boxes;
          free = omega (arith, leb-true needed (r - c.records) t, boxes-room b c.records f.boxes);
        }

    pub room-told : c.pooled < m → BoxesKept b c.records → leb needed (r - c.records) ≡ not (no_room (entries_room e) (boxes_room b) (tables_of e b c) needed)
    room-told h k =
        let h' : length (entries_of e c.pooled) < entries_room e = omega (arith, entries.len e c.pooled) in
        rw (lt-leb _ _ h', kept-count b c.records k, ← q) (same (dec_le needed (r - c.records)))
      where
        low : c.records ≤ r
        low = omega (arith, boxes-room b c.records f.boxes)

        same : Dec (needed ≤ r - c.records) → leb needed (r - c.records) ≡ not (ltb r (c.records + needed))
        same (yes k) = rw (le-leb _ _ k, le-ltb r (c.records + needed) (omega (arith, low)))
        same (no k) = rw (lt-leb needed (r - c.records) (omega (arith, k)), lt-ltb r (c.records + needed) (omega (arith, k, low)))

  -- where refusal 27 is not given there is room
  pub room-left : (needed : ℕ) → PoolFits e b c → BoxesKept b c.records → no_room (entries_room e) (boxes_room b) (tables_of e b c) needed ≡ false → Room e b c needed
  room-left needed f k h = go (leb (entries_room e) (length (entries_of e c.pooled))) refl h
    where
      go : (t : Bool) → leb (entries_room e) (length (entries_of e c.pooled)) ≡ t → (t || ltb (boxes_room b) (length (boxes_of b c.records) + needed)) ≡ false → Room e b c needed
      go true p q = let z : ◌≡◌ {A = ℕ} 0 1 = cc in absurd (omega arith)
      go false p q =
          let a = leb-false (entries_room e) (length (entries_of e c.pooled)) p in
          record {
            entries = room-entries e (c.pooled + 1) (omega (arith, entries.len e c.pooled));
            boxes = f.boxes;
            free = omega (arith, ltb-false (boxes_room b) (length (boxes_of b c.records) + needed) q, kept-count b c.records k);
          }

  -- the state's count of box records is their number
  pub records-counted : PoolKept e b c → length (tables_of e b c).boxes ≡ c.records
  records-counted k = kept-count b c.records k.boxes

-- ---- a removal: whether one was there shows in how many are left

abbrev away : ℕ → List Entry → List Entry
away k es = without (λ e. e.id) k es

pub away-none : (k : ℕ) (es : List Entry) → pooled k es ≡ false → away k es ≡ es
away-none k [] h = refl
away-none k (e ∷ es) h = go (eqb e.id k) (away-none k es) h
  where
    go : (t : Bool) → (pooled k es ≡ false → away k es ≡ es) → pick t true (pooled k es) ≡ false → pick t es (e ∷ away k es) ≡ e ∷ es
    go true ih q = let z : ◌≡◌ {A = ℕ} 0 1 = cc in absurd (omega arith)
    go false ih q = ap (λ (r : List Entry). e ∷ r) (ih q)

module _ (t : Bool) (s n : ℕ) (e : s + pick t 1 0 ≡ n) where
  pub as_many : s ≡ n → t ≡ false
  as_many h = go t e
    where
      go : (t : Bool) → s + pick t 1 0 ≡ n → t ≡ false
      go true q = absurd (omega arith)
      go false q = refl

  pub fewer : (s ≡ n → ⊥) → t ≡ true
  fewer h = go t e
    where
      go : (t : Bool) → s + pick t 1 0 ≡ n → t ≡ true
      go true q = refl
      go false q = absurd (h (omega arith))

-- ---- removals by a list of ids: what is left to do, over where we are

module _ (W : ℕ) (l : List ℕ) (n i : ℕ) (t : Tables) where
  pub remove-turn : i < n → (k : ℕ) → k ≡ id_at l (i * W) → {u x : Tables} → u ≡ remove_tx k t → remove_all (drop i (ids_to W l n)) t ≡ x → remove_all (drop (i + 1) (ids_to W l n)) u ≡ x
  remove-turn h k e q r = rw (q, e) (rw (drop_of (ids W) l n i h) at r)

  pub remove-end : n ≤ i → remove_all (drop i (ids_to W l n)) t ≡ t
  remove-end h = rw (drop_past (ids W) l n i h)

-- ---- eviction, a step at a time

module _ {A : Type 0} where
  length-but : (x : A) (xs : List A) → length (but_last x xs) ≡ length xs
  length-but x [] = refl
  length-but x (y ∷ ys) = ap suc (length-but y ys)

module _ (n : ℕ) where
  pub evict-done : (t : Tables) → length t.entries ≤ n → evict n t ≡ t
  evict-done t h = go (length t.entries) refl
    where
      go : (f : ℕ) → length t.entries ≡ f → trim f n t ≡ t
      go zero e = refl
      go (suc f) e = rw (le-leb _ _ h)

  pub evicted-done : (t : Tables) → length t.entries ≤ n → evicted n t ≡ []
  evicted-done t h = go (length t.entries) refl
    where
      go : (f : ℕ) → length t.entries ≡ f → trimmed f n t ≡ []
      go zero e = refl
      go (suc f) e = rw (le-leb _ _ h)

  -- one entry fewer
  pub length-low : (t : Tables) → 0 < length t.entries → suc (length (drop_low t).entries) ≡ length t.entries
  length-low t h = go t.entries h
    where
      go : (es : List Entry) → 0 < length es → suc (length (drop_last es)) ≡ length es
      go [] h = absurd (not-suc-le-zero h)
      go (e ∷ es) h = ap suc (length-but e es)

  pub evict-more : (t : Tables) → n < length t.entries → evict n t ≡ evict n (drop_low t)
  evict-more t h = rw (← length-low t (omega arith)) (rw (lt-leb (length t.entries) n h))

  pub evicted-more : (t : Tables) → n < length t.entries → evicted n t ≡ (lowest t).id ∷ evicted n (drop_low t)
  evicted-more t h = rw (← length-low t (omega arith)) (rw (lt-leb (length t.entries) n h))
