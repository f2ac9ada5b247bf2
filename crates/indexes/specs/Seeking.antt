-- The search of the last parent as the code does it: input by input, from the last of the first slots down.
use Rattle.std.specs.Prelude.{None, Option, Some}
use Rattle.std.specs.Prelude.{ℕ, suc, ◌+◌, ◌<◌, ◌≡◌, true, false, List, [], ◌∷◌, ◌++◌, length, take}
use Rattle.std.proofs.Common.{sym, ap, ◌∙◌, add-zero, add-suc, suc-add, zero-add, arith, length-take}
use Rattle.words.specs.declared.ids.Id.{Id}
use Rattle.boxes.specs.Records.{BoxRec, Pair, index, lookup, is_input}
use Rattle.boxes.specs.Layout.{slots_used, box_at, boxes_of, rows_of, rows, all_rows, index-rows}
use Rattle.boxes.specs.Index.{BoxesKept}
use Rattle.boxes.specs.Searching.{InputAt, LastInput}
use Rattle.indexes.specs.Owners.{owner_ids}
use Rattle.indexes.specs.Inputs.{up_to, up-to-none}
use Rattle.indexes.specs.Parents.{Link, or_else, last_from, of_input, last_parent, links_of}

-- ---- one record more at the end

last_snoc : (g : BoxRec → List ℕ) (n : ℕ) (l : List BoxRec) (b : BoxRec) (best : List Link) → last_from g n (l ++ (b ∷ [])) best ≡ or_else (g b) (n + length l) (last_from g n l best)
last_snoc g n [] b best = rw (add-zero n)
last_snoc g n (c ∷ l) b best =
    last_snoc g (suc n) l b (or_else (g c) n best)
    ∙ ap (λ (m : ℕ). or_else (g b) m (last_from g (suc n) l (or_else (g c) n best))) (suc-add n (length l) ∙ sym (add-suc n (length l)))

abbrev last_in : (ℕ → List ℕ) → ℕ → List BoxRec → List Link
last_in f k rs = last_from (of_input f k) 0 rs []

last-skip : (f : ℕ → List ℕ) (k : ℕ) (rs : List BoxRec) (r : BoxRec) → is_input k r ≡ false → last_in f k (rs ++ (r ∷ [])) ≡ last_in f k rs
last-skip f k rs r t = last_snoc (of_input f k) 0 rs r [] ∙ rw t

last-here : (f : ℕ → List ℕ) (k : ℕ) (rs : List BoxRec) (r : BoxRec) → is_input k r ≡ true → last_in f k (rs ++ (r ∷ [])) ≡ or_else (f r.box) (length rs) (last_in f k rs)
last-here f k rs r t = last_snoc (of_input f k) 0 rs r [] ∙ rw (t, zero-add (length rs))

-- ---- the code's loop: the slots before `at` give the answer that those before `bound` give

-- the producer of a box
abbrev pub producer_in : List ℕ → ℕ → ℕ → List ℕ
producer_in l n b = lookup (index true (all_rows l n)) b

pub record Seeking (l : List ℕ) (n k bound at : ℕ) : Type 0 where
  pub same : BoxesKept l n → last_parent (producer_in l n) k (all_rows l n) at ≡ last_parent (producer_in l n) k (all_rows l n) bound

before : (l : List ℕ) (n i : ℕ) → i < slots_used l n → length (take i (all_rows l n)) ≡ i
unfolding all_rows
before l n i h = omega (arith, length-take i (rows_of l (slots_used l n)), rows.len l (slots_used l n))

module _ (l : List ℕ) (n k bound : ℕ) where
  module _ (at : ℕ) (s : Seeking l n k bound at) (r : Option ℕ) (some : InputAt l k at r) (last : BoxesKept l n → LastInput l n k at r) where
    pub seek-none : r ≡ None → BoxesKept l n → [] ≡ last_parent (producer_in l n) k (all_rows l n) bound
    seek-none e x = sym (up-to-none (last_in (producer_in l n) k) k (last-skip (producer_in l n) k) l n at r some last e x) ∙ s.same x

    module _ (i y : ℕ) (e : r ≡ Some i) (h : y ≡ (box_at l i).box) (o : Option Id) (f : BoxesKept l n → owner_ids o ≡ lookup (index true (boxes_of l n)) y) where
      -- the producer of the last input decides, else those before it
      here : BoxesKept l n → or_else (owner_ids o) i (last_parent (producer_in l n) k (all_rows l n) i) ≡ last_parent (producer_in l n) k (all_rows l n) bound
      here x =
          (λ t. or_else (((f x ∙ ap (λ (ps : List Pair). lookup ps y) (sym (index-rows true l n))) ∙ ap (producer_in l n) h) t) (sym (before l n i ((last x).some i e).0) t) (last_in (producer_in l n) k (take i (all_rows l n))))
          ∙ sym (last-here (producer_in l n) k (take i (all_rows l n)) (box_at l i) (some.some i e).2)
          ∙ sym (up_to (last_in (producer_in l n) k) k (last-skip (producer_in l n) k) l n at r some last i e x)
          ∙ s.same x

      pub seek_hit : (p : Id) → o ≡ Some p → BoxesKept l n → links_of (Some (record { id = p; slot = i })) ≡ last_parent (producer_in l n) k (all_rows l n) bound
      seek_hit p q x = ap (λ (ks : List ℕ). or_else ks i (last_parent (producer_in l n) k (all_rows l n) i)) (sym (ap owner_ids q)) ∙ here x

      pub seek-miss : o ≡ None → Seeking l n k bound i
      seek-miss q = record { same = λ x. ap (λ (ks : List ℕ). or_else ks i (last_parent (producer_in l n) k (all_rows l n) i)) (sym (ap owner_ids q)) ∙ here x }
