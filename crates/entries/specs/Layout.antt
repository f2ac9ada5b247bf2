-- The table of entries as callers know it: what it is as a list (`entries_of`), how many fit (`EntriesOk`), when its words are a table (`EntriesKept`), what a
-- call leaves (`Left`), and the laws of these. Any words are a table of no entries.
use Rattle.std.specs.Prelude.{ℕ, zero, suc, ◌≤◌, ◌<◌, ◌≡◌, refl, List, length}
use Rattle.std.specs.Coded.{le_prop}
use Rattle.std.proofs.Common.{sym, ◌∙◌, arith}
use Rattle.entries.specs.Entries.{Entry}
use Rattle.entries.specs.InOrder.{EntriesInOrder}
use Rattle.entries.specs.Cells.{slot_count, raw_at, known_of, known-none, known-word}
use Rattle.entries.specs.Ranks.{in_order_at}
use Rattle.entries.specs.Held.{Held, held_none}
unfoldable pub use Rattle.entries.specs.Cells.{entry_of, cost_of, tag_of, value_of, entry_at, entries_of}
pub use Rattle.entries.specs.Cells.{entries}

-- how many entries there is room for, and words that have room for n
unfoldable pub entries_room : List ℕ → ℕ
entries_room l = slot_count l

unfoldable pub EntriesOk : List ℕ → ℕ → Type 0
EntriesOk l n = n ≤ slot_count l

-- THE INVARIANT: the word of the known slots says how many are, and of these n are in use, in order and in the index (`Held`)
pub record EntriesKept (l : List ℕ) (n : ℕ) : Type 0 where
  pub word : 0 < n → raw_at l (slot_count l) ≡ known_of l n
  pub held : Held l (known_of l n) n

-- what a call leaves: n entries, in as many words as there were
pub record Left (l m : List ℕ) (n : ℕ) (es : List Entry) : Type 0 where
  pub rows : entries_of m n ≡ es
  pub kept : EntriesKept m n
  pub ok : EntriesOk m n
  pub words : length m ≡ length l

-- ---- the laws

-- any words are a table of no entries: a start clears nothing
pub kept-none : (l : List ℕ) → EntriesKept l 0
kept-none l = record { word = λ h. absurd (omega arith); held = rw (← known-none l 0 refl) (held_none l) }

-- the entries are in order, each id once
pub kept-order : (l : List ℕ) (n : ℕ) → EntriesKept l n → EntriesInOrder (entries_of l n)
kept-order l n k = in_order_at l n k.held.sorted k.held.distinct

-- a table of u known slots whose word says so
pub kept-as : (l : List ℕ) (u n : ℕ) → n ≤ u → u ≤ slot_count l → (0 < n → raw_at l (slot_count l) ≡ u) → Held l u n → EntriesKept l n
kept-as l u zero h g e s = kept-none l
kept-as l u (suc n) h g e s =
    let z : u ≡ known_of l (suc n) = known-word l (suc n) u (λ y. omega arith) (sym (e (omega arith))) (omega arith) h g in
    record { word = λ p. e p ∙ z; held = rw z at s }

-- room for n is room for fewer, and words that are as many have as much room
pub ok-still : (l m : List ℕ) (k n : ℕ) → EntriesOk l n → length m ≡ length l → k ≤ n → EntriesOk m k
unfolding EntriesOk
ok-still l m k n h e b = omega arith

pub ok-fewer : (l : List ℕ) (k n : ℕ) → EntriesOk l n → k ≤ n → EntriesOk l k
ok-fewer l k n h b = ok-still l l k n h refl b

-- there is one proof at most: a struct keeps it
pub ok-one : (l : List ℕ) (n : ℕ) → IsProp (EntriesOk l n)
unfolding EntriesOk
ok-one l n = le_prop

-- a count of entries is an index
pub ok-bound : (l : List ℕ) (n : ℕ) → EntriesOk l n → n ≤ length l
unfolding EntriesOk
ok-bound l n h = omega arith

-- what fits is what there is room for
pub ok-room : (l : List ℕ) (n : ℕ) → n ≤ entries_room l → EntriesOk l n
unfolding EntriesOk entries_room
ok-room l n h = h

pub room-ok : (l : List ℕ) (n : ℕ) → EntriesOk l n → n ≤ entries_room l
unfolding EntriesOk entries_room
room-ok l n h = h

pub room-still : (l m : List ℕ) → length m ≡ length l → entries_room m ≡ entries_room l
unfolding entries_room
room-still l m e = rw e
