use Rattle.std.proofs.Common.{◌≡◌}
use lib.ListN.{drop}
use Rattle.boxes.specs.Flat.{ids_of}
use Rattle.pool.specs.Pool.{remove_all}
use Rattle.pool.specs.Lent.{Same, KeptIn, FewerIn, tables_in}
use Rattle.pool.proofs.lent.PoolMut.remove_all.Given as goal

abbrev pub invariant-loop-i : goal.invariant-loop-i
invariant-loop-i l =
    Same l.initial.self l.self × FewerIn l.initial.self l.self
    × (KeptIn l.initial.self → KeptIn l.self × (remove_all (drop l.i (ids_of l.list.width l.list.words.now)) (tables_in l.self) ≡ remove_all (ids_of l.list.width l.list.words.now) (tables_in l.initial.self)))
    × (l.i ≡ 0 → (l.self.entries.now ≡ l.initial.self.entries.now) × (l.self.boxes.now ≡ l.initial.self.boxes.now) × (l.self.counts ≡ l.initial.self.counts))
