-- What the test of 29 goes by: one weight, the sum of weights id by id, and the test as the code makes it.
use Rattle.std.specs.Prelude.{None, Some}
use Rattle.std.specs.Prelude.{ℕ, ◌+◌, ◌*◌, ◌^◌, ◌≤◌, ◌<◌, ◌≡◌, false, List, leb, drop}
use Rattle.std.proofs.Common.{sym, ap, ◌∙◌, add_assoc, add-zero}
use native.Mathlib.Omega.{arith}
use borrow.Author.Tests.{eq-eqb, ne_eqb}
use Rattle.words.specs.Tables.{drop_of, drop_past}
use Rattle.words.specs.Ids.{id_at}
use Rattle.words.specs.Sums.{cap, quotient_of}
use Rattle.words.specs.Wide.{wide_of, sum_more, sum_room}
use Rattle.words.specs.declared.wide.Wide.{Wide}
use Rattle.entries.specs.Entries.{Entry, place_of}
use Rattle.entries.specs.Layout.{entry_at, entries_of, entries}
use Rattle.entries.specs.Laws.{at_place, no_place, place-fits}
use Rattle.boxes.specs.Flat.{ids_to, ids}
use Rattle.admit.specs.Admit.{weight_of, weights_of, loses}

-- ---- one weight

module _ (l : List ℕ) (n k : ℕ) where
  pub weight_there : (i : ℕ) → place_of k (entries_of l n) ≡ Some i → (entry_at l i).weight ≡ weight_of k (entries_of l n)
  weight_there i p = rw ((at_place k i (entries_of l n) p).one (entry_at l i), entries.get l n i (entry_at l i) (place-fits l n k i p))

  pub weight_nowhere : place_of k (entries_of l n) ≡ None → 0 ≡ weight_of k (entries_of l n)
  weight_nowhere p = rw (no_place k (entries_of l n) p).none

-- ---- their sum: of i ids of a list done, what is left to add gives what all of them give

-- shut, as `omega` stops at products of this size
pub Few : ℕ → Wide → Type 0
Few i sum = wide_of sum ≤ i * cap

-- on any words: no id weighs more than 2^64−1
pub record Weighty (n i : ℕ) (sum : Wide) : Type 0 where
  pub done : i ≤ n
  pub few : Few i sum

pub record Weighing (es : List Entry) (W : ℕ) (l : List ℕ) (n i : ℕ) (sum : Wide) : Type 0 where
  pub left : wide_of sum + weights_of (drop i (ids_to W l n)) es ≡ weights_of (ids_to W l n) es

module _ (n : ℕ) where
  pub weighty-none : Weighty n 0 (record { high = 0; low = 0 })
  unfolding wide_of Few
  weighty-none = record { done = omega arith; few = omega arith }

  pub weighty-room : (i : ℕ) (sum : Wide) → i < n → n ≤ 5000 → Weighty n i sum → sum.high + 1 < 2 ^ 64
  unfolding Few
  weighty-room i sum h b w = sum_room sum i w.few (omega arith)

  pub weighty-more : (i x : ℕ) (sum to : Wide) → i < n → Weighty n i sum → x < 2 ^ 64 → wide_of to ≡ wide_of sum + x → Weighty n (i + 1) to
  unfolding Few
  weighty-more i x sum to h w b q = record { done = omega arith; few = rw q (sum_more sum i w.few x b) }

module _ (es : List Entry) (W : ℕ) (l : List ℕ) (n : ℕ) where
  pub weighing-none : Weighing es W l n 0 (record { high = 0; low = 0 })
  unfolding wide_of
  weighing-none = record { left = omega arith }

  pub weighing-more : (i k x : ℕ) (sum to : Wide) → i < n → Weighing es W l n i sum → k ≡ id_at l (i * W) → x ≡ weight_of k es → wide_of to ≡ wide_of sum + x → Weighing es W l n (i + 1) to
  weighing-more i k x sum to h w p e q =
      record { left = rw (q, e, p) (add_assoc (wide_of sum) _ _ ∙ ap (λ (ks : List ℕ). wide_of sum + weights_of ks es) (sym (drop_of (ids W) l n i h)) ∙ w.left) }

  pub weighing-all : (i : ℕ) (sum : Wide) → n ≤ i → Weighing es W l n i sum → wide_of sum ≡ weights_of (ids_to W l n) es
  weighing-all i sum h w = sym (add-zero (wide_of sum)) ∙ rw (drop_past (ids W) l n i h) at w.left

-- ---- 29

module _ (base : ℕ) (es : List Entry) (W : ℕ) (l : List ℕ) (n : ℕ) where
  pub loses_not : n ≡ 0 → false ≡ loses base (ids_to W l n) es
  unfolding loses
  loses_not h = rw ((ids W).len l n, eq-eqb n 0 h)

  pub loses_by : (sum : Wide) (v : ℕ) → (n ≡ 0 → ⊥) → wide_of sum ≡ weights_of (ids_to W l n) es → v ≡ quotient_of (wide_of sum) n → leb base v ≡ loses base (ids_to W l n) es
  unfolding loses
  loses_by sum v h e q = rw (q, e, (ids W).len l n, ne_eqb n 0 h)
