-- What stores of words do to the slots: laws of the words of `Layout`. A store is stated pointwise: this slot is that, and each word but the slot's own is as it was.
use Rattle.std.specs.Prelude.{ℕ, zero, suc, ◌+◌, ◌*◌, ◌≤◌, ◌<◌, ◌≡◌, List, [], ◌∷◌, length, get_or, set}
use Rattle.std.proofs.Common.{◌∙◌, add-zero, add-suc, suc-add, arith, length-set, get_or-set_same, get_or-set_other}
use Rattle.std.proofs.Math.Decide.{dec_lt}
use Rattle.std.proofs.lemmas.List.Edits.{sets}
use Rattle.std.proofs.Math.Seq.{length-sets}
use Rattle.words.specs.Rows.{stored, stored-sets, sets-before, sets-after}
use Rattle.words.specs.Ids.{num, id_of, id_at, id_words}
use Rattle.words.specs.declared.ids.Id.{Id}
use Rattle.boxes.specs.Slots.{Slot}
use Rattle.boxes.specs.Layout.{box_slots, part_slots, id_place, kind_place, link_place, head_place, key_place, OfRow, of_row, row-unique, kind_row, last_row, link-off, head-low, key_at, kind_at, slot_of, slot_at}
use Rattle.boxes.specs.Index.{Indexed, slot-ext, indexed-same}

-- the record of one slot is another; all other words are as they were
pub record Put (l m : List ℕ) (at : ℕ) (x : Slot) : Type 0 where
  pub here : slot_at m at ≡ x
  pub words : (p : ℕ) → (OfRow at p → ⊥) → get_or m p 0 ≡ get_or l p 0

pub put-others : (l m : List ℕ) (at : ℕ) (x : Slot) → Put l m at x → (j : ℕ) → (j ≡ at → ⊥) → slot_at m j ≡ slot_at l j
put-others l m at x w j d = slot-ext l m j (λ p q. w.words p (λ r. d (row-unique j at p q r)))

-- words of which the records in slots from n on and before k alone are others are the same index of the first n slots
pub indexed-before : (l m : List ℕ) (n k : ℕ) → length m ≡ length l → k ≤ box_slots l → ((p : ℕ) → ((i : ℕ) → n ≤ i → i < k → OfRow i p → ⊥) → get_or m p 0 ≡ get_or l p 0)
    → (c : ℕ) → c < 2 → Indexed l c n → Indexed m c n
indexed-before l m n k e h w c q x =
    indexed-same l m c n e
    (w (key_place (box_slots l)) (λ i u v r. omega (arith, r.to)))
    (λ i b. w (id_place c i + 3) (λ j u v r. omega (arith, row-unique i j (id_place c i + 3) (last_row c i q) r)))
    (λ i b. w (link_place c i) (λ j u v r. link-off c i j q r))
    (λ b g. w (head_place (box_slots l) c b) (λ j u v r. omega (arith, r.to, head-low (box_slots l) c b)))
    x

-- ---- nine words, in two runs and one

sets-in : (vs l : List ℕ) (p j : ℕ) → j < length vs → p + length vs ≤ length l → get_or (sets l p vs) (p + j) 0 ≡ get_or vs j 0
sets-in [] l p j h r = absurd (omega arith)
sets-in (v ∷ vs) l p zero h r = rw (add-zero p) (sets-before vs (set l p v) (suc p) p (omega arith) ∙ get_or-set_same l p v 0 (omega arith))
sets-in (v ∷ vs) l p (suc j) h r = rw (add-suc p j, ← suc-add p j) (sets-in vs (set l p v) (suc p) j (omega arith) (simp length-set (omega arith)))

sets-out : (vs l : List ℕ) (p k : ℕ) → (p ≤ k → k < p + length vs → ⊥) → get_or (sets l p vs) k 0 ≡ get_or l k 0
sets-out vs l p k d = go (dec_lt k p) (dec_lt k (p + length vs))
  where
    go : Dec (k < p) → Dec (k < p + length vs) → get_or (sets l p vs) k 0 ≡ get_or l k 0
    go (yes b) c = sets-before vs l p k b
    go (no b) (yes c) = absurd (d (omega (arith, b)) c)
    go (no b) (no c) = sets-after vs l p k (omega (arith, c))

module _ (l : List ℕ) (n : ℕ) (x y : Id) (q : ℕ) (h : n < part_slots l) where
  abbrev one : List ℕ
  one = sets l (n * 11) (id_words x)

  abbrev two : List ℕ
  two = sets one (n * 11 + 6) (id_words y)

  abbrev now : List ℕ
  now = set two (n * 11 + 4) q

  one-length : length one ≡ length l
  one-length = length-sets l (n * 11) (id_words x)

  two-length : length two ≡ length l
  two-length = length-sets one (n * 11 + 6) (id_words y) ∙ one-length

  box-at : (j : ℕ) {p : ℕ} → p ≡ n * 11 + j → j < 4 → get_or now p 0 ≡ get_or (id_words x) j 0
  box-at j e b =
      rw e
      (get_or-set_other two (n * 11 + 4) (n * 11 + j) q 0 (λ z. omega arith)
      ∙ sets-before (id_words y) one (n * 11 + 6) (n * 11 + j) (omega arith)
      ∙ sets-in (id_words x) l (n * 11) j b (omega arith))

  owner_at : (j : ℕ) {p : ℕ} → p ≡ n * 11 + 6 + j → j < 4 → get_or now p 0 ≡ get_or (id_words y) j 0
  owner_at j e b =
      rw e
      (get_or-set_other two (n * 11 + 4) (n * 11 + 6 + j) q 0 (λ z. omega arith)
      ∙ sets-in (id_words y) one (n * 11 + 6) j b (omega (arith, one-length)))

  row_here : slot_at now n ≡ slot_of (id_of x) (id_of y) q
  unfolding slot_at key_at id_at kind_at id_of
  row_here = λ t. slot_of
      (num (box-at 0 {p = id_place 0 n} (omega arith) (omega arith) t) (box-at 1 {p = id_place 0 n + 1} (omega arith) (omega arith) t) (box-at 2 {p = id_place 0 n + 2} (omega arith) (omega arith) t) (box-at 3 {p = id_place 0 n + 3} (omega arith) (omega arith) t))
      (num (owner_at 0 {p = id_place 1 n} (omega arith) (omega arith) t) (owner_at 1 {p = id_place 1 n + 1} (omega arith) (omega arith) t) (owner_at 2 {p = id_place 1 n + 2} (omega arith) (omega arith) t) (owner_at 3 {p = id_place 1 n + 3} (omega arith) (omega arith) t))
      (get_or-set_same two (n * 11 + 4) q 0 (omega (arith, two-length)) t)

  row_out : (p : ℕ) → (OfRow n p → ⊥) → get_or now p 0 ≡ get_or l p 0
  row_out p d =
      get_or-set_other two (n * 11 + 4) p q 0 (λ z. d (of_row n 4 (omega arith) (λ e. omega arith) (λ e. omega arith) z))
      ∙ sets-out (id_words y) one (n * 11 + 6) p (λ u v. d (record { from = omega arith; to = omega arith; not-box = λ e. omega arith; not-owner = λ e. omega arith }))
      ∙ sets-out (id_words x) l (n * 11) p (λ u v. d (record { from = omega arith; to = omega arith; not-box = λ e. omega arith; not-owner = λ e. omega arith }))

-- .. as the code writes them, in two calls and a store
pub put-parts : (l : List ℕ) (n : ℕ) (x y : Id) (q : ℕ) → n < part_slots l → Put l (set (stored (stored l (n * 11) (id_words x)) (n * 11 + 6) (id_words y)) (n * 11 + 4) q) n (slot_of (id_of x) (id_of y) q)
put-parts l n x y q h =
    rw (stored-sets (id_words x) l (n * 11), stored-sets (id_words y) (sets l (n * 11) (id_words x)) (n * 11 + 6))
    (record { here = row_here l n x y q h; words = row_out l n x y q h })

-- a slot that is read whole
pub read_whole : (l : List ℕ) (i : ℕ) {x y q : ℕ} → x ≡ key_at l 0 i → y ≡ key_at l 1 i → q ≡ kind_at l i → slot_of x y q ≡ slot_at l i
unfolding slot_at
read_whole l i e f g = λ t. slot_of (e t) (f t) (g t)

-- ---- the kind alone

module _ (l : List ℕ) (n q : ℕ) where
  pub kind-words : (p : ℕ) → (p ≡ kind_place n → ⊥) → get_or (set l (kind_place n) q) p 0 ≡ get_or l p 0
  kind-words p d = get_or-set_other l (kind_place n) p q 0 d

  pub kind-here : n < box_slots l → slot_at (set l (kind_place n) q) n ≡ slot_of (key_at l 0 n) (key_at l 1 n) q
  unfolding slot_at key_at id_at kind_at
  kind-here h = λ t. slot_of
      (num (kind-words (id_place 0 n) (λ e. omega arith) t) (kind-words (id_place 0 n + 1) (λ e. omega arith) t) (kind-words (id_place 0 n + 2) (λ e. omega arith) t) (kind-words (id_place 0 n + 3) (λ e. omega arith) t))
      (num (kind-words (id_place 1 n) (λ e. omega arith) t) (kind-words (id_place 1 n + 1) (λ e. omega arith) t) (kind-words (id_place 1 n + 2) (λ e. omega arith) t) (kind-words (id_place 1 n + 3) (λ e. omega arith) t))
      (get_or-set_same l (kind_place n) q 0 (omega arith) t)

-- a word that is the kind of none of the first n slots
abbrev pub NoKind : ℕ → ℕ → Type 0
NoKind n p = (i : ℕ) → i < n → p ≡ kind_place i → ⊥

last-kind : (c i j : ℕ) → c < 2 → id_place c i + 3 ≡ kind_place j → ⊥
last-kind c i j h e = go c h e (row-unique i j (kind_place j) (rw e at (last_row c i h)) (kind_row j))
  where
    go : (c : ℕ) → c < 2 → id_place c i + 3 ≡ kind_place j → i ≡ j → ⊥
    go zero h e z = omega arith
    go (suc c) h e z = omega arith

pub link-kind : (c i n : ℕ) → c < 2 → NoKind n (link_place c i)
link-kind c i n h j b e = link-off c i j h (rw e (kind_row j))

-- words of which the kinds of some slots alone are others are the same indexes
pub indexed-kinds : (l m : List ℕ) (k : ℕ) → length m ≡ length l → k ≤ box_slots l → ((p : ℕ) → NoKind k p → get_or m p 0 ≡ get_or l p 0) → (c n : ℕ) → c < 2 → Indexed l c n → Indexed m c n
indexed-kinds l m k e h w c n q x =
    indexed-same l m c n e
    (w (key_place (box_slots l)) (λ j b z. omega arith))
    (λ i b. w (id_place c i + 3) (λ j g z. last-kind c i j q z))
    (λ i b. w (link_place c i) (link-kind c i k q))
    (λ b g. w (head_place (box_slots l) c b) (λ j y z. omega (arith, head-low (box_slots l) c b)))
    x
