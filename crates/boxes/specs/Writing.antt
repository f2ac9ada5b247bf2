-- The record writer: a newcomer's boxes are written into the free part, all live, and the words of the indexes stay.
use Rattle.std.specs.Prelude.{ℕ, ◌+◌, ◌-◌, ◌*◌, ◌≤◌, ◌<◌, ◌≡◌, refl, Bool, true, false, List, [], ◌++◌, length, get_or, take, drop}
use Rattle.std.proofs.Common.{sym, ap, ◌∙◌, append-nil, zero-add, arith, length-take, length-drop, drop_of_length-le, take_all, get_or-take, get_or-drop, get_or-append-add}
use Rattle.std.proofs.Math.Decide.{dec_lt}
use Rattle.std.proofs.Math.ListN.{get_or-append}
use Rattle.words.specs.Lists.{pick}
use Rattle.words.specs.Ids.{id_at}
use Rattle.boxes.specs.Flat.{count_of}
use Rattle.boxes.specs.Slots.{Slot, solid}
use Rattle.boxes.specs.Layout.{box_slots, OfRow, row-unique, slot_of, slot_at}
use Rattle.boxes.specs.Index.{slot-ext, slot-shift}
use Rattle.boxes.specs.Stores.{Put, put-others}

-- a newcomer's record
abbrev pub fresh : Bool → ℕ → ℕ → Slot
fresh o k b = solid (record { box = b; owner = k; out = o; live = true })

pub fresh-is : (o : Bool) (k b q : ℕ) → q ≡ pick o 1 0 → slot_of b k q ≡ fresh o k b
fresh-is true k b q e = ap (slot_of b k) e
fresh-is false k b q e = ap (slot_of b k) e

-- a word of no record in n slots from `at` on
abbrev pub Outside : ℕ → ℕ → ℕ → Type 0
Outside at n p = (i : ℕ) → at ≤ i → i < at + n → OfRow i p → ⊥

-- ---- a list of boxes from slot `at` on

pub record Wrote (l m : List ℕ) (at n k : ℕ) (o : Bool) (W : ℕ) (list : List ℕ) : Type 0 where
  pub new : (j : ℕ) → j < n → slot_at m (at + j) ≡ fresh o k (id_at list (j * W))
  pub words : (p : ℕ) → Outside at n p → get_or m p 0 ≡ get_or l p 0

module _ (l₀ : List ℕ) (at k : ℕ) (o : Bool) (W : ℕ) (list : List ℕ) where
  pub wrote_none : Wrote l₀ l₀ at 0 k o W list
  wrote_none = record { new = λ j b. absurd (omega arith); words = λ p z. refl }

  pub wrote-more : (l m : List ℕ) (n key q : ℕ) → Wrote l₀ l at n k o W list → key ≡ id_at list (n * W) → q ≡ pick o 1 0 → Put l m (at + n) (slot_of key k q) → Wrote l₀ m at (n + 1) k o W list
  wrote-more l m n key q s e f p =
      record {
        new = λ j b. go j b (dec_lt j n);
        words = λ p' z. p.words p' (λ r. z (at + n) (omega arith) (omega arith) r) ∙ s.words p' (λ i u v r. z i u (omega arith) r);
      }
    where
      go : (j : ℕ) → j < n + 1 → Dec (j < n) → slot_at m (at + j) ≡ fresh o k (id_at list (j * W))
      go j b (yes z) = put-others l m (at + n) (slot_of key k q) p (at + j) (λ u. omega (arith, u)) ∙ s.new j z
      go j b (no z) = let u : j ≡ n = omega (arith, z) in rw u (p.here ∙ fresh-is o k key q f ∙ ap (fresh o k) e)

-- ---- both lists

pub record WroteBoth (l m : List ℕ) (at k W : ℕ) (ins : List ℕ) (X : ℕ) (outs : List ℕ) : Type 0 where
  pub inputs : (j : ℕ) → j < count_of W ins → slot_at m (at + j) ≡ fresh false k (id_at ins (j * W))
  pub outputs : (j : ℕ) → j < count_of X outs → slot_at m (at + (count_of W ins + j)) ≡ fresh true k (id_at outs (j * X))
  pub words : (p : ℕ) → Outside at (count_of W ins + count_of X outs) p → get_or m p 0 ≡ get_or l p 0

pub wrote-both : (l o m : List ℕ) (n k W : ℕ) (ins : List ℕ) (X : ℕ) (outs : List ℕ) → n ≡ count_of W ins → Wrote l o 0 (count_of W ins) k false W ins → Wrote o m n (count_of X outs) k true X outs → WroteBoth l m 0 k W ins X outs
wrote-both l o m n k W ins X outs e f g =
    record {
      inputs = λ j b. slot-ext o m (0 + j) (λ p q. g.words p (λ i u v r. omega (arith, row-unique (0 + j) i p q r))) ∙ f.new j b;
      outputs = λ j b. ap (slot_at m) (omega arith) ∙ g.new j b;
      words = λ p z. g.words p (λ i u v r. z i (omega arith) (omega arith) r) ∙ f.words p (λ i u v r. z i u (omega arith) r);
    }

-- ---- in the part that is lent, behind the used slots

module _ (l t : List ℕ) (used : ℕ) (h : used ≤ box_slots l) where
  abbrev pub rejoined : List ℕ
  rejoined = take (used * 11) l ++ t

  size : length (take (used * 11) l) ≡ used * 11
  size = length-take (used * 11) l ∙ omega arith

  in-front : (p : ℕ) → p < used * 11 → get_or rejoined p 0 ≡ get_or l p 0
  in-front p b = get_or-append (take (used * 11) l) t 0 p (omega (arith, size)) ∙ get_or-take (used * 11) l p 0 b

  in-part : (p q : ℕ) → p ≡ used * 11 + q → get_or rejoined p 0 ≡ get_or t q 0
  in-part p q e = ap (λ (x : ℕ). get_or rejoined x 0) (omega (arith, size, e)) ∙ get_or-append-add (take (used * 11) l) t q 0

  part-slot : (j : ℕ) → slot_at rejoined (used + j) ≡ slot_at t j
  part-slot j = slot-shift t rejoined (used + j) j (λ p q r x. in-part p q (omega arith))

  pub wrote-behind : (k W : ℕ) (ins : List ℕ) (X : ℕ) (outs : List ℕ) → WroteBoth (drop (used * 11) l) t 0 k W ins X outs → WroteBoth l rejoined used k W ins X outs
  wrote-behind k W ins X outs s =
      record {
        inputs = λ j b. part-slot j ∙ ap (slot_at t) (sym (zero-add j)) ∙ s.inputs j b;
        outputs = λ j b. part-slot (count_of W ins + j) ∙ ap (slot_at t) (sym (zero-add (count_of W ins + j))) ∙ s.outputs j b;
        words = λ p z. go p z (dec_lt p (used * 11));
      }
    where
      up : (i p : ℕ) → used * 11 ≤ p → OfRow i (p - used * 11) → OfRow (used + i) p
      up i p b r = record { from = omega (arith, r.from); to = omega (arith, r.to); not-box = λ e. r.not-box (omega arith); not-owner = λ e. r.not-owner (omega arith) }

      go : (p : ℕ) → Outside used (count_of W ins + count_of X outs) p → Dec (p < used * 11) → get_or rejoined p 0 ≡ get_or l p 0
      go p z (yes b) = in-front p b
      go p z (no b) =
          in-part p (p - used * 11) (omega (arith, b))
          ∙ s.words (p - used * 11) (λ i u v r. z (used + i) (omega arith) (omega arith) (up i p (omega (arith, b)) r))
          ∙ get_or-drop (used * 11) l (p - used * 11) 0
          ∙ ap (λ (x : ℕ). get_or l x 0) (omega (arith, b))

-- .. as the code lends it
pub wrote-lent : (l t : List ℕ) (used k W : ℕ) (ins : List ℕ) (X : ℕ) (outs : List ℕ) → used ≤ box_slots l → WroteBoth (take (length l - used * 11) (drop (used * 11) l)) t 0 k W ins X outs
    → WroteBoth l (take (used * 11) l ++ (t ++ drop (length l - used * 11) (drop (used * 11) l))) used k W ins X outs
wrote-lent l t used k W ins X outs h s = rw (none, append-nil t) (wrote-behind l t used h k W ins X outs (rw whole at s))
  where
    whole : take (length l - used * 11) (drop (used * 11) l) ≡ drop (used * 11) l
    whole = take_all (length l - used * 11) (drop (used * 11) l) (simp length-drop (omega arith))

    none : drop (length l - used * 11) (drop (used * 11) l) ≡ []
    none = drop_of_length-le (drop (used * 11) l) {i = length l - used * 11} (simp length-drop (omega arith))
