-- A pool that was lent to be changed: its tables, and what its calls leave (`Pool`), said of the struct.
use Rattle.std.specs.Prelude.{ℕ, ◌≡◌, length}
use Rattle.pool.specs.Pool.{Tables, tables_of, PoolKept, Room, Fewer, Left}
use Rattle.pool.specs.declared.lent.PoolMut.{PoolMut}

-- it stands in the same words as before, and in as many: by this a caller knows what the words that it lent become
abbrev pub Same : PoolMut → PoolMut → Type 0
Same p q =
    (q.entries.ghost_name ≡ p.entries.ghost_name) × (q.boxes.ghost_name ≡ p.boxes.ghost_name) × (length q.entries.now ≡ length p.entries.now)
    × (length q.boxes.now ≡ length p.boxes.now)

abbrev pub tables_in : PoolMut → Tables
tables_in p = tables_of p.entries.now p.boxes.now p.counts

abbrev pub KeptIn : PoolMut → Type 0
KeptIn p = PoolKept p.entries.now p.boxes.now p.counts

abbrev pub RoomIn : PoolMut → ℕ → Type 0
RoomIn p needed = Room p.entries.now p.boxes.now p.counts needed

abbrev pub LeftIn : PoolMut → Tables → Type 0
LeftIn p t = Left p.entries.now p.boxes.now p.counts t

abbrev pub FewerIn : PoolMut → PoolMut → Type 0
FewerIn p q = Fewer q.entries.now q.boxes.now p.counts q.counts
