-- The inputs of a transaction, from the last down: `inputs_of k (take at (all_rows l n))` are those before slot `at`.
use Rattle.std.specs.Prelude.{None, Option, Some}
use Rattle.std.specs.Prelude.{ℕ, zero, suc, ◌+◌, ◌≤◌, ◌<◌, ◌≡◌, refl, Bool, true, false, ◌&&◌, List, [], ◌∷◌, ◌++◌, length, take}
use Rattle.std.proofs.Common.{sym, ◌∙◌, append-nil, arith, length-append, take_all, take-suc}
use Rattle.std.proofs.Math.Path.{ap}
use Rattle.std.proofs.Math.Decide.{dec_le, dec_lt}
use Rattle.boxes.specs.Among.{among}
use Rattle.boxes.specs.Records.{BoxRec, is_input, inputs_of}
use Rattle.boxes.specs.IndexLaws.{inputs-split}
use Rattle.boxes.specs.Layout.{BoxesOk, slots_used, box_at, boxes_of, rows_of, rows, all_rows, inputs-rows, slots-low}
use Rattle.boxes.specs.Index.{BoxesKept}
use Rattle.boxes.specs.Searching.{InputAt, LastInput}

-- ---- what is read of rows, where one that is no input of the transaction changes nothing, is read of those up to its last input

module _ {A : Type 0} (F : List BoxRec → A) (k : ℕ) (skip : (rs : List BoxRec) (r : BoxRec) → is_input k r ≡ false → F (rs ++ (r ∷ [])) ≡ F rs) where
  module _ (l : List ℕ) (used : ℕ) where
    more : (i : ℕ) → i < used → take (suc i) (rows_of l used) ≡ take i (rows_of l used) ++ (box_at l i ∷ [])
    more i h = take-suc (rows_of l used) i (box_at l i) (omega (arith, rows.len l used)) ∙ rw (rows.get l used i (box_at l i) h)

    gap : (w i : ℕ) → w ≤ i → ((j : ℕ) → w ≤ j → j < i → j < used → is_input k (box_at l j) ≡ false) → F (take i (rows_of l used)) ≡ F (take w (rows_of l used))
    gap w zero b h = let e : w ≡ zero = omega arith in rw e
    gap w (suc i) b h = go (λ q. gap w i q (λ j x y z. h j x (omega arith) z)) (dec_le w i) (dec_lt i used)
      where
        go : (w ≤ i → F (take i (rows_of l used)) ≡ F (take w (rows_of l used))) → Dec (w ≤ i) → Dec (i < used) → F (take (suc i) (rows_of l used)) ≡ F (take w (rows_of l used))
        go ih (yes q) (yes u) = ap F (more i u) ∙ skip (take i (rows_of l used)) (box_at l i) (h i q (omega arith) u) ∙ ih q
        go ih (yes q) (no u) =
            ap F
            (take_all (suc i) (rows_of l used) (omega (arith, rows.len l used, u)) ∙ sym (take_all i (rows_of l used) (omega (arith, rows.len l used, u))))
            ∙ ih q
        go ih (no q) u = let e : w ≡ suc i = omega (arith, q) in rw e

  module _ (l : List ℕ) (n at : ℕ) (r : Option ℕ) (some : InputAt l k at r) (last : BoxesKept l n → LastInput l n k at r) where
    pub up_to : (i : ℕ) → r ≡ Some i → BoxesKept l n → F (take at (all_rows l n)) ≡ F (take i (all_rows l n) ++ (box_at l i ∷ []))
    unfolding all_rows
    up_to i e x =
        let low : i < at = (some.some i e).0 in
        let this = (last x).some i e in
        gap l (slots_used l n) (suc i) at (omega arith) (λ j a b c. this.1 j (omega arith) b c) ∙ ap F (more l (slots_used l n) i this.0)

    pub up-to-none : r ≡ None → BoxesKept l n → F (take at (all_rows l n)) ≡ F []
    unfolding all_rows
    up-to-none e x = gap l (slots_used l n) 0 at (omega arith) (λ j a b c. (last x).none e j b c)

-- all slots are before one that is behind the used ones
pub take-used : (l : List ℕ) (n at : ℕ) → BoxesOk l n → length l ≤ at → take at (all_rows l n) ≡ all_rows l n
unfolding all_rows
take-used l n at ok h = take_all at (rows_of l (slots_used l n)) (omega (arith, rows.len l (slots_used l n), slots-low l n ok))

-- ---- the inputs

inputs-skip : (k : ℕ) (rs : List BoxRec) (r : BoxRec) → is_input k r ≡ false → inputs_of k (rs ++ (r ∷ [])) ≡ inputs_of k rs
inputs-skip k rs r t = inputs-split k rs (r ∷ []) ∙ rw t (append-nil (inputs_of k rs))

inputs-snoc : (k : ℕ) (rs : List BoxRec) (r : BoxRec) → is_input k r ≡ true → inputs_of k (rs ++ (r ∷ [])) ≡ inputs_of k rs ++ (r.box ∷ [])
inputs-snoc k rs r t = inputs-split k rs (r ∷ []) ∙ rw t

pub inputs-all : (l : List ℕ) (n k at : ℕ) → BoxesOk l n → length l ≤ at → inputs_of k (take at (all_rows l n)) ≡ inputs_of k (boxes_of l n)
inputs-all l n k at ok h = ap (inputs_of k) (take-used l n at ok h) ∙ inputs-rows k l n

module _ (l : List ℕ) (n k at : ℕ) (r : Option ℕ) (some : InputAt l k at r) (last : BoxesKept l n → LastInput l n k at r) where
  pub inputs-at : (i : ℕ) → r ≡ Some i → BoxesKept l n → inputs_of k (take at (all_rows l n)) ≡ inputs_of k (take i (all_rows l n)) ++ ((box_at l i).box ∷ [])
  inputs-at i e x =
      up_to (inputs_of k) k (inputs-skip k) l n at r some last i e x ∙ inputs-snoc k (take i (all_rows l n)) (box_at l i) (some.some i e).2

  pub inputs-no : r ≡ None → BoxesKept l n → inputs_of k (take at (all_rows l n)) ≡ []
  inputs-no e x = up-to-none (inputs_of k) k (inputs-skip k) l n at r some last e x

-- ---- document 01, `select_for_rebroadcast`: each input is among the confirmed box ids

abbrev pub all_among : List ℕ → List ℕ → Bool
all_among cs [] = true
all_among cs (b ∷ bs) = among b cs && all_among cs bs

-- a transaction without inputs qualifies
all_edges : (all_among [] [] ≡ true) × (all_among (7 ∷ 8 ∷ []) (8 ∷ 8 ∷ []) ≡ true) × (all_among (7 ∷ []) (7 ∷ 8 ∷ []) ≡ false)
all_edges = (refl, refl, refl)

all_snoc : (cs bs : List ℕ) (b : ℕ) → all_among cs (bs ++ (b ∷ [])) ≡ (among b cs && all_among cs bs)
all_snoc cs [] b = refl
all_snoc cs (c ∷ bs) b = rw (all_snoc cs bs b) (go (among c cs) (among b cs))
  where
    go : (t u : Bool) → (t && (u && all_among cs bs)) ≡ (u && (t && all_among cs bs))
    go true u = refl
    go false true = refl
    go false false = refl

-- the inputs before slot `at` say what all say
pub record Checking (cs l : List ℕ) (n k at : ℕ) : Type 0 where
  pub low : at ≤ length l
  pub same : BoxesKept l n → all_among cs (inputs_of k (take at (all_rows l n))) ≡ all_among cs (inputs_of k (boxes_of l n))

module _ (cs l : List ℕ) (n k : ℕ) where
  pub check-first : BoxesOk l n → Checking cs l n k (length l)
  check-first ok = record { low = omega arith; same = λ x. ap (all_among cs) (inputs-all l n k (length l) ok (omega arith)) }

  module _ (at : ℕ) (c : Checking cs l n k at) (r : Option ℕ) (some : InputAt l k at r) (last : BoxesKept l n → LastInput l n k at r) where
    pub check-none : r ≡ None → BoxesKept l n → true ≡ all_among cs (inputs_of k (boxes_of l n))
    check-none e x = ap (all_among cs) (sym (inputs-no l n k at r some last e x)) ∙ c.same x

    module _ (i y : ℕ) (e : r ≡ Some i) (h : y ≡ (box_at l i).box) where
      here : BoxesKept l n → (among y cs && all_among cs (inputs_of k (take i (all_rows l n)))) ≡ all_among cs (inputs_of k (boxes_of l n))
      here x =
          ap (λ (b : ℕ). among b cs && all_among cs (inputs_of k (take i (all_rows l n)))) h
          ∙ sym (all_snoc cs (inputs_of k (take i (all_rows l n))) (box_at l i).box)
          ∙ ap (all_among cs) (sym (inputs-at l n k at r some last i e x))
          ∙ c.same x

      pub check-fails : among y cs ≡ false → BoxesKept l n → false ≡ all_among cs (inputs_of k (boxes_of l n))
      check-fails t x = ap (λ (u : Bool). u && all_among cs (inputs_of k (take i (all_rows l n)))) (sym t) ∙ here x

      pub check-on : among y cs ≡ true → Checking cs l n k i
      check-on t =
          let low : i < at = (some.some i e).0 in
          record { low = omega (arith, c.low); same = λ x. ap (λ (u : Bool). u && all_among cs (inputs_of k (take i (all_rows l n)))) (sym t) ∙ here x }

-- ---- how many they are: c are counted, from the last down to slot `at`

pub record Counting (l : List ℕ) (n k at c : ℕ) : Type 0 where
  pub few : c + at ≤ length l
  pub same : BoxesKept l n → c + length (inputs_of k (take at (all_rows l n))) ≡ length (inputs_of k (boxes_of l n))

module _ (l : List ℕ) (n k : ℕ) where
  pub count-first : BoxesOk l n → Counting l n k (length l) 0
  count-first ok = record { few = omega arith; same = λ x. omega (arith, ap length (inputs-all l n k (length l) ok (omega arith))) }

  module _ (at c : ℕ) (s : Counting l n k at c) (r : Option ℕ) (some : InputAt l k at r) (last : BoxesKept l n → LastInput l n k at r) where
    pub count_none : r ≡ None → BoxesKept l n → c ≡ length (inputs_of k (boxes_of l n))
    count_none e x = omega (arith, s.same x, ap length (inputs-no l n k at r some last e x))

    pub count-more : (i : ℕ) → r ≡ Some i → Counting l n k i (c + 1)
    count-more i e =
        let low : i < at = (some.some i e).0 in
        record {
          few = omega (arith, s.few);
          same = λ x. omega (arith, s.same x, ap length (inputs-at l n k at r some last i e x), length-append (inputs_of k (take i (all_rows l n))) ((box_at l i).box ∷ []));
        }
