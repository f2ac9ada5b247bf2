-- A transaction's inputs, found one after the other from the last on: what `last_input` leaves to be found is what stands before its answer.
use Rattle.std.specs.Prelude.{None, Option, Some}
use Rattle.std.specs.Prelude.{ℕ, zero, suc, ◌+◌, ◌≤◌, ◌<◌, min, ◌≡◌, true, false, List, [], ◌∷◌, ◌++◌}
use Rattle.std.proofs.Common.{sym, ap, ◌∙◌, append-nil, add-one, arith}
use Rattle.std.proofs.Math.Decide.{dec_le}
use Rattle.words.specs.Tables.{of_none, of-suc}
use Rattle.boxes.specs.Records.{is_input, inputs_of}
use Rattle.boxes.specs.IndexLaws.{inputs-split}
use Rattle.boxes.specs.Layout.{box_at, rows_of, rows, slots_used}
use Rattle.boxes.specs.Searching.{InputAt, LastInput}

module _ (l : List ℕ) (k : ℕ) where
  -- one slot more
  inputs-one : (i : ℕ) → inputs_of k (rows_of l (i + 1)) ≡ inputs_of k (rows_of l i) ++ inputs_of k (box_at l i ∷ [])
  inputs-one i = ap (inputs_of k) (of-suc rows l i) ∙ inputs-split k (rows_of l i) (box_at l i ∷ [])

  pub inputs-yes : (i : ℕ) → is_input k (box_at l i) ≡ true → inputs_of k (rows_of l (i + 1)) ≡ inputs_of k (rows_of l i) ++ ((box_at l i).box ∷ [])
  inputs-yes i t = inputs-one i ∙ rw t

  pub inputs-no : (i : ℕ) → is_input k (box_at l i) ≡ false → inputs_of k (rows_of l (i + 1)) ≡ inputs_of k (rows_of l i)
  inputs-no i t = inputs-one i ∙ rw t (append-nil (inputs_of k (rows_of l i)))

  -- slots that hold none
  pub inputs-skip : (a b : ℕ) → a ≤ b → ((j : ℕ) → a ≤ j → j < b → is_input k (box_at l j) ≡ false) → inputs_of k (rows_of l b) ≡ inputs_of k (rows_of l a)
  inputs-skip a zero h f = let e : a ≡ zero = omega arith in rw e
  inputs-skip a (suc b) h f = go (λ q. inputs-skip a b q (λ j x y. f j x (omega arith))) (dec_le a b)
    where
      go : (a ≤ b → inputs_of k (rows_of l b) ≡ inputs_of k (rows_of l a)) → Dec (a ≤ b) → inputs_of k (rows_of l (suc b)) ≡ inputs_of k (rows_of l a)
      go ih (yes q) = ap (λ (n : ℕ). inputs_of k (rows_of l n)) (sym (add-one b)) ∙ inputs-no b (f b q (omega arith)) ∙ ih q
      go ih (no q) = let e : a ≡ suc b = omega (arith, q) in rw e

-- ---- what the search answers

module _ (l : List ℕ) (n k below : ℕ) (r : Option ℕ) (a : LastInput l n k below r) where
  pub last_none : r ≡ None → inputs_of k (rows_of l (min below (slots_used l n))) ≡ []
  last_none e =
      inputs-skip l k 0 (min below (slots_used l n)) (omega arith) (λ j x y. a.none e j (omega arith) (omega arith))
      ∙ ap (inputs_of k) (of_none rows l)

  pub last_some : (i : ℕ) → r ≡ Some i → InputAt l k below r → inputs_of k (rows_of l (min below (slots_used l n))) ≡ inputs_of k (rows_of l i) ++ ((box_at l i).box ∷ [])
  last_some i e b =
      inputs-skip l k (i + 1) (min below (slots_used l n)) (omega (arith, (a.some i e).0, (b.some i e).0)) (λ j x y. (a.some i e).1 j (omega arith) (omega arith) (omega arith))
      ∙ inputs-yes l k i (b.some i e).2
