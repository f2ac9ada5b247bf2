-- What the pool's functions leave, from what their calls leave in each table.
use Rattle.std.specs.Prelude.{ℕ, ◌+◌, ◌-◌, ◌≤◌, ◌≡◌, refl, false, List, length}
use Rattle.std.proofs.Common.{ap, ◌∙◌, arith}
use Rattle.words.specs.Lists.{pick}
use Rattle.words.specs.Find.{without, drop_last}
use Rattle.pool_types.specs.declared.Counts.{Counts}
use Rattle.entries.specs.Entries.{Entry, insert_by, pooled}
use Rattle.entries.specs.Layout.{entries_of}
use Rattle.entries.specs.Layout.{Left as Rows, ok-still as entries-still}
use Rattle.entries.specs.Laws.{removed-count}
use Rattle.boxes.specs.Records.{BoxRec, drop_owner}
use Rattle.boxes.specs.Layout.{BoxesOk, boxes_of}
use Rattle.boxes.specs.Layout.{ok-still as boxes-still}
use Rattle.boxes.specs.Index.{BoxesKept}
use Rattle.boxes.specs.Posts.{Entered, Dropped}
use Rattle.pool.specs.Pool.{Tables, tables_of, PoolFits, Fewer, Left, insert_tx, remove_tx, lowest, drop_low}
use Rattle.pool.specs.Laws.{away-none, as_many, fewer}

abbrev counts : ℕ → ℕ → Counts
counts n r = record { pooled = n; records = r }

-- two tables that agree in both parts
both : {x y : List Entry} {u v : List BoxRec} → x ≡ y → u ≡ v → ◌≡◌ {A = Tables} (record { entries = x; boxes = u }) (record { entries = y; boxes = v })
both p q = λ i. record { entries = p i; boxes = q i }

-- the same counts in as many words as there were
pub fits_same : (e b m n : List ℕ) (c : Counts) → PoolFits e b c → length m ≡ length e → length n ≡ length b → PoolFits m n c
fits_same e b m n c f p q =
    record { entries = entries-still e m c.pooled c.pooled f.entries p (omega arith); boxes = boxes-still b n c.records c.records f.boxes q (omega arith) }

-- none left
pub fewer-none : (e b : List ℕ) (c : Counts) → PoolFits e b c → Fewer e b c c
fewer-none e b c f = record { fits = f; entries = omega arith; records = omega arith }

-- fewer entries and records in as many words as there were
pub fewer-fit : (e b m n : List ℕ) (c : Counts) (k r : ℕ) → PoolFits e b c → length m ≡ length e → length n ≡ length b → k ≤ c.pooled → r ≤ c.records → Fewer m n c (counts k r)
fewer-fit e b m n c k r f p q h g =
    record { fits = record { entries = entries-still e m k c.pooled f.entries p h; boxes = boxes-still b n r c.records f.boxes q g }; entries = h; records = g }

module _ (e b : List ℕ) (c : Counts) where
  -- one came in
  pub inserted : (m n : List ℕ) (r : ℕ) (x : Entry) (ins outs : List ℕ) → BoxesOk n r → Rows e m (c.pooled + 1) (insert_by x (entries_of e c.pooled))
      → Entered b n c.records r x.id ins outs → Left m n (counts (c.pooled + 1) r) (insert_tx x ins outs (tables_of e b c))
  inserted m n r x ins outs f p q =
      record {
        fits = record { entries = p.ok; boxes = f };
        kept = record { entries = p.kept; boxes = q.kept };
        tables = both p.rows q.rows;
      }

  -- the lowest went
  pub lowered : (m n : List ℕ) (k r : ℕ) → PoolFits m n (counts (c.pooled - 1) r) → k ≡ (lowest (tables_of e b c)).id → Rows e m (c.pooled - 1) (drop_last (entries_of e c.pooled))
      → Dropped b n c.records r k → Left m n (counts (c.pooled - 1) r) (drop_low (tables_of e b c))
  lowered m n k r f p q d =
      record {
        fits = f;
        kept = record { entries = q.kept; boxes = d.kept };
        tables = both q.rows (d.rows ∙ ap (λ (j : ℕ). drop_owner j (boxes_of b c.records)) p);
      }

  -- a removal has left s entries: as many as there were, or fewer
  module _ (m : List ℕ) (k s : ℕ) (kept : BoxesKept b c.records) (p : Rows e m s (without (λ e. e.id) k (entries_of e c.pooled))) where
    said : s + pick (pooled k (entries_of e c.pooled)) 1 0 ≡ c.pooled
    said = removed-count e m c.pooled s k p

    pub removed-nothing : PoolFits m b c → s ≡ c.pooled → Left m b c (remove_tx k (tables_of e b c))
    removed-nothing f h =
        record {
          fits = f;
          kept = record { entries = rw h at p.kept; boxes = kept };
          tables = rw none (both (rw h at p.rows ∙ away-none k (entries_of e c.pooled) none) refl);
        }
      where
        none : pooled k (entries_of e c.pooled) ≡ false
        none = as_many _ s c.pooled said h

    pub removed-both : (n : List ℕ) (r : ℕ) → PoolFits m n (counts s r) → (s ≡ c.pooled → ⊥) → Dropped b n c.records r k → Left m n (counts s r) (remove_tx k (tables_of e b c))
    removed-both n r f h q =
        record {
          fits = f;
          kept = record { entries = p.kept; boxes = q.kept };
          tables = rw (fewer (pooled k (entries_of e c.pooled)) s c.pooled said h) (both p.rows q.rows);
        }
