-- A block on its edges: in which order it writes, by computation.
use Rattle.std.specs.Prelude.{◌≡◌, refl, [], ◌∷◌}
use Rattle.stats.specs.Stats.{fresh, counted, binned, confirmed}
use Rattle.entries.specs.Entries.{ahead}
use Rattle.blocks.specs.Blocks.{recorded, confirm_one, drive_out, rivals, spent, applied_txs}
use Rattle.blocks.specs.Edges.{none, two, three, tx, of, left, after}

-- the confirmed one stands before those that it drives out, which are no confirmations: one count and its base in bin 1; and the inputs are those
-- that the block lists, not those of the pooled one
order : (of (tx 2 (7 ∷ []) ∷ []) two ≡ left none (after 20) (2 ∷ 1 ∷ []))
    × ((of (tx 2 (7 ∷ []) ∷ []) two).stats.taken ≡ 1)
    × ((of (tx 1 (8 ∷ 9 ∷ []) ∷ []) three).removed ≡ 1 ∷ 3 ∷ 2 ∷ [])
    × ((of (tx 1 [] ∷ tx 2 (7 ∷ 8 ∷ []) ∷ []) three).removed ≡ 1 ∷ 2 ∷ 3 ∷ [])
unfolding applied_txs confirm_one drive_out rivals spent recorded confirmed counted binned fresh ahead
order = (refl, refl, refl, refl)
