-- Inputs that are found: confirmed, as the caller says, or in the producer index. Document 01, refusal 28: "an input neither confirmed nor in the
-- producer index"; and of an answer: "an input found nowhere".
use Rattle.std.specs.Prelude.{None, Option, Some}
use Rattle.std.specs.Prelude.{ℕ, ◌+◌, ◌*◌, ◌/◌, ◌≤◌, ◌<◌, ◌≡◌, refl, Bool, true, false, ◌&&◌, ◌||◌, List, [], ◌∷◌, ◌++◌, length, get_or, take, drop}
use Rattle.std.proofs.Common.{sym, ◌∙◌, arith, length-append}
use Rattle.std.proofs.Math.Path.{ap}
use Rattle.words.specs.Rows.{tab, length-tab, get_or-tab, take-tab}
use Rattle.words.specs.Tables.{Table, drop_of, drop_past}
use Rattle.words.specs.Ids.{id_at}
use Rattle.boxes.specs.Records.{Pair, lookup, inputs_of}
use Rattle.boxes.specs.Layout.{BoxesOk, is_set, box_at, boxes_of, all_rows}
use Rattle.boxes.specs.Index.{BoxesKept}
use Rattle.boxes.specs.Searching.{InputAt, LastInput}
use Rattle.indexes.specs.Owners.{is_found}
use Rattle.indexes.specs.Inputs.{inputs-all, inputs-at, inputs-no}

pub record Input : Type 0 where
  pub box : ℕ
  pub confirmed : Bool

-- a flag is set where its word is not 0
abbrev pub input_of : ℕ → ℕ → Input
input_of b w = record { box = b; confirmed = is_set w }

unfoldable pub resolved_by : List Pair → Input → Bool
resolved_by producers i = i.confirmed || is_found (lookup producers i.box)

abbrev pub all_resolved : List Pair → List Input → Bool
all_resolved producers [] = true
all_resolved producers (i ∷ is) = resolved_by producers i && all_resolved producers is

-- the inputs of a submission: records of five words, the box's id and the flag
unfoldable pub input_at : List ℕ → ℕ → Input
input_at l i = input_of (id_at l (i * 5)) (get_or l (i * 5 + 4) 0)

unfoldable pub inputs_to : List ℕ → ℕ → List Input
inputs_to l n = tab (input_at l) n

abbrev pub submitted : List ℕ → List Input
submitted l = inputs_to l (length l / 5)

-- the inputs of a pooled transaction with the flags of an answer: "one flag for each of its inputs, in order"
abbrev pub flagged : List ℕ → List ℕ → List Input
flagged [] ws = []
flagged (b ∷ bs) [] = []
flagged (b ∷ bs) (w ∷ ws) = input_of b w ∷ flagged bs ws

-- confirmed or produced, and none of both; flags stand by position, so a repeated box may carry both
resolved-edges : (all_resolved (record { box = 7; id = 1 } ∷ []) (flagged (7 ∷ 8 ∷ []) (0 ∷ 5 ∷ [])) ≡ true) × (all_resolved (record { box = 7; id = 1 } ∷ []) (flagged (8 ∷ 8 ∷ []) (1 ∷ 0 ∷ [])) ≡ false) × (all_resolved [] [] ≡ true)
unfolding resolved_by
resolved-edges = (refl, refl, refl)

-- ---- the inputs of a submission, one by one

pub inputs : Table inputs_to input_at
unfolding inputs_to
inputs = record { len = λ l n. length-tab (input_at l) n; get = λ l n i d h. get_or-tab (input_at l) n i d h; first = λ l k n h. take-tab (input_at l) k n h }

-- where the index of producers is right (K), the inputs from the j-th on say what all say
pub record Submitting (K : Type 0) (producers : List Pair) (l : List ℕ) (j : ℕ) : Type 0 where
  pub same : K → all_resolved producers (drop j (submitted l)) ≡ all_resolved producers (submitted l)

module _ (K : Type 0) (producers : List Pair) (l : List ℕ) where
  pub submit-end : (j : ℕ) → length l / 5 ≤ j → Submitting K producers l j → K → true ≡ all_resolved producers (submitted l)
  submit-end j h s k = ap (all_resolved producers) (sym (drop_past inputs l (length l / 5) j h)) ∙ s.same k

  module _ (j y : ℕ) (t : Bool) (h : j < length l / 5) (e : y ≡ id_at l (j * 5)) (s : Submitting K producers l j) (f : K → t ≡ resolved_by producers (input_of y (get_or l (j * 5 + 4) 0))) where
    here : K → (t && all_resolved producers (drop (j + 1) (submitted l))) ≡ all_resolved producers (submitted l)
    unfolding input_at
    here k =
        ap (λ (u : Bool). u && all_resolved producers (drop (j + 1) (submitted l))) (f k ∙ ap (λ (b : ℕ). resolved_by producers (input_of b (get_or l (j * 5 + 4) 0))) e)
        ∙ ap (all_resolved producers) (sym (drop_of inputs l (length l / 5) j h))
        ∙ s.same k

    pub submit-fails : t ≡ false → K → false ≡ all_resolved producers (submitted l)
    submit-fails q k = ap (λ (u : Bool). u && all_resolved producers (drop (j + 1) (submitted l))) (sym q) ∙ here k

    pub submit-on : t ≡ true → Submitting K producers l (j + 1)
    submit-on q = record { same = λ k. ap (λ (u : Bool). u && all_resolved producers (drop (j + 1) (submitted l))) (sym q) ∙ here k }

-- ---- the inputs of a pooled transaction with the flags ws, from the last down: those before slot `at` have the flags us

flagged-snoc : (bs us : List ℕ) (b w : ℕ) → length us ≡ length bs → flagged (bs ++ (b ∷ [])) (us ++ (w ∷ [])) ≡ flagged bs us ++ (input_of b w ∷ [])
flagged-snoc [] [] b w e = refl
flagged-snoc [] (u ∷ us) b w e = absurd (omega arith)
flagged-snoc (c ∷ bs) [] b w e = absurd (omega arith)
flagged-snoc (c ∷ bs) (u ∷ us) b w e = ap (λ (r : List Input). input_of c u ∷ r) (flagged-snoc bs us b w (omega arith))

resolved-snoc : (producers : List Pair) (is : List Input) (i : Input) → all_resolved producers (is ++ (i ∷ [])) ≡ (resolved_by producers i && all_resolved producers is)
resolved-snoc producers [] i = refl
resolved-snoc producers (j ∷ is) i = rw (resolved-snoc producers is i) (go (resolved_by producers j) (resolved_by producers i))
  where
    go : (t u : Bool) → (t && (u && all_resolved producers is)) ≡ (u && (t && all_resolved producers is))
    go true u = refl
    go false true = refl
    go false false = refl

-- there is a flag for each input
abbrev Flags : List ℕ → ℕ → ℕ → List ℕ → Type 0
Flags l n k ws = length ws ≡ length (inputs_of k (boxes_of l n))

pub record Reading (producers : List Pair) (ws l : List ℕ) (n k at : ℕ) (us : List ℕ) : Type 0 where
  pub left : BoxesKept l n → Flags l n k ws → length us ≡ length (inputs_of k (take at (all_rows l n)))
  pub same : BoxesKept l n → Flags l n k ws → all_resolved producers (flagged (inputs_of k (take at (all_rows l n))) us) ≡ all_resolved producers (flagged (inputs_of k (boxes_of l n)) ws)

module _ (producers : List Pair) (ws l : List ℕ) (n k : ℕ) where
  pub read_first : BoxesOk l n → Reading producers ws l n k (length l) ws
  read_first ok =
      let e = inputs-all l n k (length l) ok (omega arith) in
      record { left = λ x f. f ∙ ap length (sym e); same = λ x f. ap (λ (bs : List ℕ). all_resolved producers (flagged bs ws)) e }

  module _ (at : ℕ) (us : List ℕ) (s : Reading producers ws l n k at us) (r : Option ℕ) (some : InputAt l k at r) (last : BoxesKept l n → LastInput l n k at r) where
    pub read_none : r ≡ None → BoxesKept l n → Flags l n k ws → true ≡ all_resolved producers (flagged (inputs_of k (boxes_of l n)) ws)
    read_none e x f = ap (λ (bs : List ℕ). all_resolved producers (flagged bs us)) (sym (inputs-no l n k at r some last e x)) ∙ s.same x f

    module _ (i : ℕ) (e : r ≡ Some i) where
      -- there is a flag for this one
      count : BoxesKept l n → Flags l n k ws → length us ≡ length (inputs_of k (take i (all_rows l n))) + 1
      count x f = s.left x f ∙ ap length (inputs-at l n k at r some last i e x) ∙ length-append (inputs_of k (take i (all_rows l n))) ((box_at l i).box ∷ [])

      pub read-flag : length us ≡ 0 → (t : Bool) → BoxesKept l n → Flags l n k ws → t ≡ all_resolved producers (flagged (inputs_of k (boxes_of l n)) ws)
      read-flag z t x f = absurd (omega (arith, count x f))

      module _ (vs : List ℕ) (w y : ℕ) (z : us ≡ vs ++ (w ∷ [])) (b : y ≡ (box_at l i).box) (t : Bool) (d : BoxesKept l n → t ≡ resolved_by producers (input_of y w)) where
        fewer : BoxesKept l n → Flags l n k ws → length vs ≡ length (inputs_of k (take i (all_rows l n)))
        fewer x f = omega (arith, count x f, ap length z ∙ length-append vs (w ∷ []))

        step : BoxesKept l n → Flags l n k ws → (t && all_resolved producers (flagged (inputs_of k (take i (all_rows l n))) vs)) ≡ all_resolved producers (flagged (inputs_of k (boxes_of l n)) ws)
        step x f =
            ap (λ (u : Bool). u && all_resolved producers (flagged (inputs_of k (take i (all_rows l n))) vs)) (d x ∙ ap (λ (a : ℕ). resolved_by producers (input_of a w)) b)
            ∙ sym (resolved-snoc producers (flagged (inputs_of k (take i (all_rows l n))) vs) (input_of (box_at l i).box w))
            ∙ ap (all_resolved producers) (sym (flagged-snoc (inputs_of k (take i (all_rows l n))) vs (box_at l i).box w (fewer x f)))
            ∙ (λ u. all_resolved producers (flagged (sym (inputs-at l n k at r some last i e x) u) (sym z u)))
            ∙ s.same x f

        pub read-fails : t ≡ false → BoxesKept l n → Flags l n k ws → false ≡ all_resolved producers (flagged (inputs_of k (boxes_of l n)) ws)
        read-fails q x f = ap (λ (u : Bool). u && all_resolved producers (flagged (inputs_of k (take i (all_rows l n))) vs)) (sym q) ∙ step x f

        pub read-on : t ≡ true → Reading producers ws l n k i vs
        read-on q =
            record {
              left = fewer;
              same = λ x f. ap (λ (u : Bool). u && all_resolved producers (flagged (inputs_of k (take i (all_rows l n))) vs)) (sym q) ∙ step x f;
            }
