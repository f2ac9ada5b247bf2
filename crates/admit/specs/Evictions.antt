-- What the test of 30 and the eviction go by, one entry at a time.
use Rattle.std.specs.Prelude.{ℕ, ◌+◌, ◌≤◌, ◌<◌, ◌≡◌, Bool, true, false, List, [], ◌∷◌, leb, length}
use Rattle.std.proofs.Common.{sym, ap, ◌∙◌, add_assoc, arith}
use borrow.Author.Tests.{le-leb, lt-leb, eq-eqb, ne_eqb}
use Rattle.words.specs.Lists.{pick}
use Rattle.words.specs.Find.{last}
use Rattle.words.specs.Sums.{cap}
use Rattle.pool_types.specs.declared.Counts.{Counts}
use Rattle.entries.specs.Layout.{EntriesOk, entries_of, entries}
use Rattle.entries.specs.Cells.{slot_count}
use Rattle.pool.specs.Pool.{Tables, tables_of, PoolFits, PoolKept, Left, nobody, lowest, drop_low, evict, evicted}
use Rattle.pool.specs.Laws.{evict-done, evicted-done, evict-more, evicted-more}
use Rattle.answers.specs.Answers.{Wrote, Writing, writing_more, writing-all}
use Rattle.admit.specs.Admit.{crowded}

-- ---- 30

module _ (capacity base : ℕ) (l : List ℕ) (n : ℕ) where
  pub roomy : n < capacity → false ≡ crowded capacity base (entries_of l n)
  unfolding crowded
  roomy h = rw (entries.len l n, lt-leb capacity n h)

  pub crowded_none : capacity ≤ n → n ≡ 0 → false ≡ crowded capacity base (entries_of l n)
  unfolding crowded
  crowded_none h e = rw (entries.len l n, le-leb capacity n h, eq-eqb n 0 e)

  pub crowded_by : (w : ℕ) → capacity ≤ n → (n ≡ 0 → ⊥) → w ≡ (last nobody (entries_of l n)).weight → leb base w ≡ crowded capacity base (entries_of l n)
  unfolding crowded
  crowded_by w h e q = rw (q, entries.len l n, le-leb capacity n h, ne_eqb n 0 e)

-- ---- what an eviction of n from the tables t leaves: words e and b with the counts c, and an answer buffer a that was a₀

pub record Evicts (capacity at : ℕ) (w : Bool) (t : Tables) (e b : List ℕ) (c : Counts) (n : ℕ) (a₀ a : List ℕ) : Type 0 where
  pub left : Left e b c (evict capacity t)
  pub count : n ≡ length (evicted capacity t)
  pub wrote : Wrote a₀ a at (pick w (evicted capacity t) [])

-- ---- one after the other: of n that went, what is left to evict gives what all gave at the beginning

pub record Evicting (capacity at : ℕ) (w : Bool) (t₀ t : Tables) (a₀ a : List ℕ) (n : ℕ) : Type 0 where
  pub tables : evict capacity t ≡ evict capacity t₀
  pub count : n + length (evicted capacity t) ≡ length (evicted capacity t₀)
  pub writing : Writing a₀ a at (at + n) (pick w (evicted capacity t₀) []) (pick w (evicted capacity t) [])

module _ (capacity at : ℕ) (w : Bool) (t₀ : Tables) (e b : List ℕ) (c : Counts) (a₀ a : List ℕ) (n : ℕ) (v : Evicting capacity at w t₀ (tables_of e b c) a₀ a n) where
  abbrev t : Tables
  t = tables_of e b c

  pub evicting-more : (u : Tables) (m : List ℕ) (k : ℕ) → capacity < c.pooled → u ≡ drop_low t → k ≡ (lowest t).id → Wrote a m (at + n) (pick w (k ∷ []) []) → Evicting capacity at w t₀ u a₀ m (n + 1)
  evicting-more u m k g q p o =
      rw q
      (record {
        tables = sym (evict-more capacity t h) ∙ v.tables;
        count = omega (arith, v.count, ap length (evicted-more capacity t h));
        writing = rw (← add_assoc at n 1) (go w (rw (evicted-more capacity t h) at v.writing) (rw p at o));
      })
    where
      h : capacity < length (entries_of e c.pooled)
      h = rw (entries.len e c.pooled) g

      go : (x : Bool) {ks : List ℕ} → Writing a₀ a at (at + n) ks (pick x ((lowest t).id ∷ evicted capacity (drop_low t)) []) → Wrote a m (at + n) (pick x ((lowest t).id ∷ []) [])
          → Writing a₀ m at (at + n + 1) ks (pick x (evicted capacity (drop_low t)) [])
      go true p r = writing_more p r
      go false p r = record { kept = r.kept ∙ p.kept; ids = r.ids ∙ p.ids; rest = r.rest ∙ p.rest }

  pub evicting-all : (gone : ℕ) → gone ≡ n → PoolFits e b c → PoolKept e b c → c.pooled ≤ capacity → Evicts capacity at w t₀ e b c gone a₀ a
  evicting-all gone p f k g =
      record {
        left = record { fits = f; kept = k; tables = sym (evict-done capacity t h) ∙ v.tables };
        count = omega (arith, p, v.count, ap length (evicted-done capacity t h));
        wrote = writing-all (go w (rw (evicted-done capacity t h) at v.writing));
      }
    where
      h : length (entries_of e c.pooled) ≤ capacity
      h = rw (entries.len e c.pooled) g

      go : (x : Bool) {p : ℕ} {ks : List ℕ} → Writing a₀ a at p ks (pick x [] []) → Writing a₀ a at p ks []
      go true z = z
      go false z = z

-- so many more than entries are still a number of 64 bits
pub few : (l : List ℕ) (n : ℕ) → EntriesOk l n → length l ≤ cap → 5001 + n ≤ cap
unfolding EntriesOk
few l n h b = let q : n ≤ slot_count l = h in omega arith
