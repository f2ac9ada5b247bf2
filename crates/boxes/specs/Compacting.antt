-- The records are moved together, in order, and both indexes are made anew on the way, whatever they were.
use Rattle.std.specs.Prelude.{ℕ, ◌+◌, ◌≤◌, ◌<◌, ◌≡◌, refl, true, false, List, [], ◌∷◌, ◌++◌, length}
use Rattle.std.proofs.Common.{sym, ap, ◌∙◌, append-nil, arith, length-append}
use Rattle.words.specs.Lists.{pick}
use Rattle.boxes.specs.Records.{BoxRec}
use Rattle.boxes.specs.Slots.{Slot}
use Rattle.boxes.specs.Layout.{box_slots, slot_at, box_at, records_in, records-none, records-more, records-ext}
use Rattle.boxes.specs.Index.{Indexed, indexed-none, both_in, both-slot, both-more}
use Rattle.boxes.specs.Stores.{Put, put-others, indexed-before}

-- ---- one record

pub record Moved (l m : List ℕ) (from to : ℕ) : Type 0 where
  pub here : slot_at m to ≡ slot_at l from
  pub others : (j : ℕ) → j < box_slots l → (j ≡ to → ⊥) → slot_at m j ≡ slot_at l j
  pub index : (c : ℕ) → c < 2 → Indexed l c to → Indexed m c (to + 1)

-- a record that is written behind an index's slots leaves the index as it is
put-index : (l m : List ℕ) (n : ℕ) (x : Slot) → n < box_slots l → length m ≡ length l → Put l m n x → (c : ℕ) → c < 2 → Indexed l c n → Indexed m c n
put-index l m n x h e w c q i = indexed-before l m n (n + 1) e (omega arith) (λ p z. w.words p (λ r. z n (omega arith) (omega arith) r)) c q i

pub moved_in : (l a m : List ℕ) (from to : ℕ) → to < box_slots l → length a ≡ length l → Put l a to (slot_at l from) → (r : to < box_slots a) → m ≡ both_in a to r → Moved l m from to
moved_in l a m from to h e p r f =
    rw f
    (record {
      here = both-slot a to r to r ∙ p.here;
      others = λ j b d. both-slot a to r j (omega (arith, e)) ∙ put-others l a to (slot_at l from) p j d;
      index = λ c q x. both-more a to r c q (put-index l a to (slot_at l from) h e p c q x);
    })

-- ---- all of them

pub record Compacted (l m : List ℕ) (used r : ℕ) : Type 0 where
  pub low : r ≤ used
  pub count : r ≡ length (records_in l used)
  pub rows : records_in m r ≡ records_in l used
  pub index : (c : ℕ) → c < 2 → Indexed m c r

-- the records of the first i slots are the first w, and the slots from i on are as they were
pub record Moves (l₀ : List ℕ) (used : ℕ) (l : List ℕ) (w i : ℕ) : Type 0 where
  pub len : length l ≡ length l₀
  pub low : w ≤ i
  pub high : i ≤ used
  pub count : w ≡ length (records_in l₀ i)
  pub rows : records_in l w ≡ records_in l₀ i
  pub rest : (j : ℕ) → i ≤ j → j < used → slot_at l j ≡ slot_at l₀ j
  pub index : (c : ℕ) → c < 2 → Indexed l c w

pub moves-none : (l : List ℕ) (used : ℕ) → Moves l used l 0 0
moves-none l used =
    record {
      len = refl;
      low = omega arith;
      high = omega arith;
      count = rw (records-none l);
      rows = refl;
      rest = λ j g b. refl;
      index = λ c q. indexed-none l c;
    }

-- what one slot adds to the records
added : Slot → List BoxRec
added s = pick s.gone [] (s.row ∷ [])

more : (l : List ℕ) (i : ℕ) → records_in l (i + 1) ≡ records_in l i ++ added (slot_at l i)
unfolding added box_at
more l i = records-more l i

added-gone : (s : Slot) → s.gone ≡ true → added s ≡ []
unfolding added
added-gone s e = rw e

added-stays : (s : Slot) → s.gone ≡ false → added s ≡ s.row ∷ []
unfolding added
added-stays s e = rw e

module _ (l₀ : List ℕ) (used : ℕ) (l : List ℕ) (w i : ℕ) (s : Moves l₀ used l w i) (h : i < used) where
  here : records_in l₀ (i + 1) ≡ records_in l₀ i ++ added (slot_at l i)
  here = more l₀ i ∙ ap (λ (x : Slot). records_in l₀ i ++ added x) (sym (s.rest i (omega arith) h))

  pub moves-gone : (slot_at l i).gone ≡ true → Moves l₀ used l w (i + 1)
  moves-gone t =
      record {
        len = s.len;
        low = omega (arith, s.low);
        high = omega arith;
        count = s.count ∙ ap length (sym same);
        rows = s.rows ∙ sym same;
        rest = λ j g b. s.rest j (omega arith) b;
        index = s.index;
      }
    where
      same : records_in l₀ (i + 1) ≡ records_in l₀ i
      same = here ∙ ap (λ (x : List BoxRec). records_in l₀ i ++ x) (added-gone (slot_at l i) t) ∙ append-nil (records_in l₀ i)

  pub moves-kept : (m : List ℕ) → used ≤ box_slots l → length m ≡ length l → (slot_at l i).gone ≡ false → Moved l m i w → Moves l₀ used m (w + 1) (i + 1)
  moves-kept m b e t k =
      record {
        len = e ∙ s.len;
        low = omega (arith, s.low);
        high = omega arith;
        count = ap (λ (y : ℕ). y + 1) s.count ∙ sym (length-append (records_in l₀ i) ((slot_at l i).row ∷ [])) ∙ ap length (sym same);
        rows =
            more m w
            ∙ ap (λ (x : Slot). records_in m w ++ added x) k.here
            ∙ ap (λ (x : List BoxRec). x ++ added (slot_at l i)) (records-ext l m w (λ j g. k.others j (omega (arith, s.low)) (λ z. omega (arith, z))) ∙ s.rows)
            ∙ sym here;
        rest = λ j g y. k.others j (omega arith) (λ z. omega (arith, s.low, z)) ∙ s.rest j (omega arith) y;
        index = λ c q. k.index c q (s.index c q);
      }
    where
      same : records_in l₀ (i + 1) ≡ records_in l₀ i ++ ((slot_at l i).row ∷ [])
      same = here ∙ ap (λ (x : List BoxRec). records_in l₀ i ++ x) (added-stays (slot_at l i) t)

pub moves-all : (l₀ : List ℕ) (used : ℕ) (l : List ℕ) (w i : ℕ) → Moves l₀ used l w i → used ≤ i → Compacted l₀ l used w
moves-all l₀ used l w i s h =
    let e : i ≡ used = omega (arith, s.high) in
    record {
      low = omega (arith, s.low, s.high);
      count = rw e at s.count;
      rows = rw e at s.rows;
      index = s.index;
    }

-- ---- where the slots behind them are too few

pub record Roomy (l m : List ℕ) (used r needed : ℕ) : Type 0 where
  pub low : r ≤ used
  pub rows : records_in m r ≡ records_in l used
  pub index : ((c : ℕ) → c < 2 → Indexed l c used) → (c : ℕ) → c < 2 → Indexed m c r
  pub room : length (records_in l used) + needed ≤ box_slots l → r + needed ≤ box_slots l
