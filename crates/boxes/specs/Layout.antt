-- The table of box records in words: the slots (`slots_of`), what they read as (`rows_of`), the records (`boxes_of`), how many there is room for
-- (`boxes_room`, `BoxesOk`), and the laws of all. Slot i has eleven words, from index 11 * i on: the box's id, the kind, the slot's link in the index of
-- boxes, the owner's id, and its link in the index of owners, so that what a search reads of a slot stands together. Behind the slots stand the heads
-- of all buckets of boxes, those of all buckets of owners, how many slots are used, and the key of the buckets: that is two words more for each slot,
-- and two. Nothing outside of this crate unfolds a definition of this file.
use Rattle.std.specs.Prelude.{ℕ, zero, suc, ◌+◌, ◌-◌, ◌*◌, ◌/◌, ◌≤◌, ◌<◌, min, max, ◌≡◌, refl, Bool, true, false, not, ◌&&◌, List, [], ◌∷◌, ◌++◌, map, length, get_or, eqb, ltb}
use Rattle.std.proofs.Common.{sym, ap, ◌∙◌, arith, eqb-true, ne_eqb, le-ltb}
use Rattle.std.proofs.Math.Decide.{dec_lt, ℕ_discrete}
use Rattle.std.specs.Coded.{le_prop}
use Rattle.std.proofs.lemmas.Bool.{not-true, not-false}
use Rattle.words.specs.Lists.{pick}
use Rattle.words.specs.Rows.{tab, length-tab, get_or-tab, take-tab, tab-ext, map-tab}
use Rattle.words.specs.Tables.{Table, of_none, of-suc}
use Rattle.words.specs.Ids.{id_at}
use Rattle.boxes.specs.Records.{BoxRec, same, hide, index, is_input, inputs_of, drop_owner}
use Rattle.boxes.specs.Kinds.{kind_number, kind_of}
use Rattle.boxes.specs.Lookup.{is_entry}
use Rattle.boxes.specs.Each.{Each}
use Rattle.boxes.specs.Slots.{Slot, Inert, tidy, leave, index-tidy, inputs-tidy, each-tidy, hide_slot, tidy-append, tidy-leave, tidy-hide, tidy-fewer, length-tidy}

-- a flag is set where its word is not 0
abbrev pub is_set : ℕ → Bool
is_set w = not (eqb w 0)

-- ---- room

-- how many slots there are, and how many buckets
abbrev pub box_slots : List ℕ → ℕ
box_slots l = (length l - 2) / 13

-- how many slots a part of the words has that starts with one
abbrev pub part_slots : List ℕ → ℕ
part_slots l = length l / 11

-- how many records: document 01's R. The rest is slack.
unfoldable pub boxes_room : List ℕ → ℕ
boxes_room l = box_slots l * 4 / 5

unfoldable pub BoxesOk : List ℕ → ℕ → Type 0
BoxesOk l n = n ≤ boxes_room l

pub ok-one : (l : List ℕ) (n : ℕ) → IsProp (BoxesOk l n)
unfolding BoxesOk
ok-one l n = le_prop

-- ---- where the words stand: the id and the link in column c of slot i, 0 the box's and 1 the owner's; its kind; the head of bucket b, of s; and
-- behind all, how many slots are used and the key

abbrev pub id_place : ℕ → ℕ → ℕ
id_place c i = i * 11 + c * 6

abbrev pub kind_place : ℕ → ℕ
kind_place i = i * 11 + 4

abbrev pub link_place : ℕ → ℕ → ℕ
link_place c i = i * 11 + 5 + c * 5

unfoldable pub head_place : ℕ → ℕ → ℕ → ℕ
head_place s zero b = s * 11 + b
head_place s (suc c) b = s * 12 + b

abbrev pub used_place : ℕ → ℕ
used_place s = s * 13

abbrev pub key_place : ℕ → ℕ
key_place s = s * 13 + 1

-- the words of the record in slot i: all of the slot but its links
pub record OfRow (i p : ℕ) : Type 0 where
  pub from : i * 11 ≤ p
  pub to : p < i * 11 + 11
  pub not-box : p ≡ link_place 0 i → ⊥
  pub not-owner : p ≡ link_place 1 i → ⊥

pub of_row : (i a : ℕ) {p : ℕ} → a < 11 → (a ≡ 5 → ⊥) → (a ≡ 10 → ⊥) → p ≡ i * 11 + a → OfRow i p
of_row i a h d e f = record { from = omega arith; to = omega arith; not-box = λ g. d (omega arith); not-owner = λ g. e (omega arith) }

pub row-unique : (i j p : ℕ) → OfRow i p → OfRow j p → i ≡ j
row-unique i j p q r = go (dec_lt i j) (dec_lt j i)
  where
    go : Dec (i < j) → Dec (j < i) → i ≡ j
    go (yes x) y = absurd (omega (arith, q.to, r.from))
    go (no x) (yes y) = absurd (omega (arith, q.from, r.to))
    go (no x) (no y) = omega (arith, x, y)

pub kind_row : (i : ℕ) → OfRow i (kind_place i)
kind_row i = of_row i 4 (omega arith) (λ e. omega arith) (λ e. omega arith) (omega arith)

-- the last word of an id
pub last_row : (c i : ℕ) → c < 2 → OfRow i (id_place c i + 3)
last_row c i h = of_row i (c * 6 + 3) (omega arith) (λ e. omega arith) (λ e. omega arith) (omega arith)

-- a link is no word of a record
pub link-off : (c i j : ℕ) → c < 2 → OfRow j (link_place c i) → ⊥
link-off zero i j h r = omega (arith, r.not-box)
link-off (suc zero) i j h r = omega (arith, r.not-owner)
link-off (suc (suc c)) i j h r = omega arith

-- and two links are one only where slot and column are the same
pub link-unique : (c o i j : ℕ) → c < 2 → o < 2 → link_place c i ≡ link_place o j → (i ≡ j) × (c ≡ o)
link-unique c o i j p q e = go (dec_lt i j) (dec_lt j i)
  where
    go : Dec (i < j) → Dec (j < i) → (i ≡ j) × (c ≡ o)
    go (yes x) y = absurd (omega arith)
    go (no x) (yes y) = absurd (omega arith)
    go (no x) (no y) = let z : i ≡ j = omega (arith, x, y) in (z, omega arith)

-- heads stand behind the slots and before the used word, each in a place of its own
pub head-low : (s c b : ℕ) → s * 11 ≤ head_place s c b
unfolding head_place
head-low s zero b = omega arith
head-low s (suc c) b = omega arith

pub head-high : (s c b : ℕ) → b < s → head_place s c b < s * 13
unfolding head_place
head-high s zero b h = omega arith
head-high s (suc c) b h = omega arith

pub head-unique : (s c o b d : ℕ) → c < 2 → o < 2 → b < s → d < s → head_place s c b ≡ head_place s o d → (c ≡ o) × (b ≡ d)
unfolding head_place
head-unique s zero zero b d p q h g e = (refl, omega arith)
head-unique s zero (suc o) b d p q h g e = absurd (omega arith)
head-unique s (suc c) zero b d p q h g e = absurd (omega arith)
head-unique s (suc c) (suc o) b d p q h g e = (omega arith, omega arith)

-- three slots have 41 words: the second slot is from 11 on, the heads from 33 and from 36 on
places-edge : (id_place 1 1 ≡ 17) × (kind_place 1 ≡ 15) × (link_place 1 1 ≡ 21) × (head_place 3 0 0 ≡ 33) × (head_place 3 1 2 ≡ 38) × (used_place 3 ≡ 39) × (key_place 3 ≡ 40)
unfolding head_place
places-edge = (refl, refl, refl, refl, refl, refl, refl)

-- ---- the words of a slot

-- the id in column c of slot i
unfoldable pub key_at : List ℕ → ℕ → ℕ → ℕ
key_at l c i = id_at l (id_place c i)

unfoldable pub kind_at : List ℕ → ℕ → ℕ
kind_at l i = get_or l (kind_place i) 0

-- the kind: 0 a live input, 1 a live output, 2 a vacated slot, 3 a hidden input, and another number a hidden output
abbrev pub out_kind : ℕ → Bool
out_kind q = pick (eqb q 0) false (not (eqb q 3))

abbrev pub slot_of : ℕ → ℕ → ℕ → Slot
slot_of key owner q = record { row = record { box = key; owner = owner; out = out_kind q; live = ltb q 2 }; gone = eqb q 2 }

-- the slot at index i, and the first k
unfoldable pub slot_at : List ℕ → ℕ → Slot
slot_at l i = slot_of (key_at l 0 i) (key_at l 1 i) (kind_at l i)

unfoldable pub slots_of : List ℕ → ℕ → List Slot
slots_of l k = tab (slot_at l) k

-- what the slot at index i reads as, and the first k
unfoldable pub box_at : List ℕ → ℕ → BoxRec
box_at l i = (slot_at l i).row

unfoldable pub rows_of : List ℕ → ℕ → List BoxRec
rows_of l k = tab (box_at l) k

-- the three laws of a table (`Tables`)
pub slots : Table slots_of slot_at
unfolding slots_of
slots = record { len = λ l n. length-tab (slot_at l) n; get = λ l n i d h. get_or-tab (slot_at l) n i d h; first = λ l k n h. take-tab (slot_at l) k n h }

pub rows : Table rows_of box_at
unfolding rows_of
rows = record { len = λ l n. length-tab (box_at l) n; get = λ l n i d h. get_or-tab (box_at l) n i d h; first = λ l k n h. take-tab (box_at l) k n h }

-- ---- the words behind the slots

unfoldable pub used_word : List ℕ → ℕ
used_word l = get_or l (used_place (box_slots l)) 0

unfoldable pub key_word : List ℕ → ℕ
key_word l = get_or l (key_place (box_slots l)) 0

-- how many slots n records use: the word is not believed where there are none, and taken for a number of slots that they may use
unfoldable pub slots_used : List ℕ → ℕ → ℕ
slots_used l n = pick (eqb n 0) 0 (max n (min (used_word l) (box_slots l)))

-- ---- the records

-- those in the first k slots
unfoldable pub records_in : List ℕ → ℕ → List BoxRec
records_in l k = tidy (slots_of l k)

-- what all used slots read as, and the records in them
unfoldable pub all_rows : List ℕ → ℕ → List BoxRec
all_rows l n = rows_of l (slots_used l n)

unfoldable pub boxes_of : List ℕ → ℕ → List BoxRec
boxes_of l n = records_in l (slots_used l n)

-- ---- what is read of the slots is read of the records

inert-of : (key owner q : ℕ) → Inert (slot_of key owner q)
inert-of key owner q = record { live = λ e. ap (λ (x : ℕ). ltb x 2) (eqb-true q 2 e); out = λ e. ap out_kind (eqb-true q 2 e) }

inert : (l : List ℕ) (i : ℕ) → Inert (slot_at l i)
unfolding slot_at
inert l i = inert-of (key_at l 0 i) (key_at l 1 i) (kind_at l i)

pub index-rows : (o : Bool) (l : List ℕ) (n : ℕ) → index o (all_rows l n) ≡ index o (boxes_of l n)
unfolding all_rows rows_of boxes_of records_in slots_of box_at
index-rows o l n = index-tidy o (slot_at l) (inert l) (slots_used l n)

pub inputs-rows : (k : ℕ) (l : List ℕ) (n : ℕ) → inputs_of k (all_rows l n) ≡ inputs_of k (boxes_of l n)
unfolding all_rows rows_of boxes_of records_in slots_of box_at
inputs-rows k l n = inputs-tidy k (slot_at l) (inert l) (slots_used l n)

pub boxes-each : (P : BoxRec → Type 0) (l : List ℕ) (n : ℕ) → ((j : ℕ) → j < slots_used l n → P (box_at l j)) → Each P (boxes_of l n)
unfolding boxes_of records_in slots_of box_at
boxes-each P l n h = each-tidy P (slot_at l) (slots_used l n) h

pub records-none : (l : List ℕ) → records_in l 0 ≡ []
unfolding records_in
records-none l = ap tidy (of_none slots l)

-- one slot more holds a record or none
pub records-more : (l : List ℕ) (i : ℕ) → records_in l (i + 1) ≡ records_in l i ++ pick (slot_at l i).gone [] (box_at l i ∷ [])
unfolding records_in box_at
records-more l i = ap tidy (of-suc slots l i) ∙ tidy-append (slots_of l i) (slot_at l i ∷ [])

-- slots that read the same hold the same records
pub records-ext : (l m : List ℕ) (k : ℕ) → ((i : ℕ) → i < k → slot_at m i ≡ slot_at l i) → records_in m k ≡ records_in l k
unfolding records_in slots_of
records-ext l m k h = ap tidy (tab-ext (slot_at m) (slot_at l) k h)

-- how many there are
pub records-few : (l : List ℕ) (k : ℕ) → length (records_in l k) ≤ k
unfolding records_in
records-few l k = omega (arith, length-tidy (slots_of l k), slots.len l k)

-- every slot was left by transaction k: so were the records
pub records-leave : (l m : List ℕ) (k n : ℕ) → ((j : ℕ) → j < n → slot_at m j ≡ leave k (slot_at l j)) → records_in m n ≡ drop_owner k (records_in l n)
unfolding records_in slots_of
records-leave l m k n h = ap tidy (tab-ext (slot_at m) (λ j. leave k (slot_at l j)) n h ∙ sym (map-tab (leave k) (slot_at l) n)) ∙ tidy-leave k (tab (slot_at l) n)

-- in every slot what is older was hidden
pub records-hide : (l m : List ℕ) (o : Bool) (b n : ℕ) → ((j : ℕ) → j < n → slot_at m j ≡ hide_slot o b (slot_at l j)) → records_in m n ≡ map (hide o b) (records_in l n)
unfolding records_in slots_of
records-hide l m o b n h = ap tidy (tab-ext (slot_at m) (λ j. hide_slot o b (slot_at l j)) n h ∙ sym (map-tab (hide_slot o b) (slot_at l) n)) ∙ tidy-hide o b (tab (slot_at l) n)

-- one slot was vacated
pub records-fewer : (l m : List ℕ) (n i : ℕ) → i < n → (slot_at l i).gone ≡ false → (slot_at m i).gone ≡ true → ((j : ℕ) → (j ≡ i → ⊥) → slot_at m j ≡ slot_at l j) → suc (length (records_in m n)) ≡ length (records_in l n)
unfolding records_in slots_of
records-fewer l m n i b p q h = tidy-fewer (slot_at l) (slot_at m) n i b p q h

-- ---- used slots

pub used-none : (l : List ℕ) → slots_used l 0 ≡ 0
unfolding slots_used
used-none l = refl

pub used-some : (l : List ℕ) (n : ℕ) → 0 < n → slots_used l n ≡ max n (min (used_word l) (box_slots l))
unfolding slots_used
used-some l n h = rw (ne_eqb n 0 (λ e. omega (arith, e)))

pub slots-low : (l : List ℕ) (n : ℕ) → BoxesOk l n → slots_used l n ≤ box_slots l
unfolding BoxesOk boxes_room
slots-low l n h = go (ℕ_discrete n 0)
  where
    go : Dec (n ≡ 0) → slots_used l n ≤ box_slots l
    go (yes e) = rw e (omega (arith, used-none l))
    go (no e) = omega (arith, used-some l n (omega (arith, e)))

-- slots are no more than words
pub rows_bound : (l : List ℕ) (n : ℕ) → BoxesOk l n → length (all_rows l n) ≤ length l
unfolding all_rows
rows_bound l n h = omega (arith, rows.len l (slots_used l n), slots-low l n h)

-- as many slots are used as there are records, or more
pub slots-high : (l : List ℕ) (n : ℕ) → n ≤ slots_used l n
slots-high l n = go (ℕ_discrete n 0)
  where
    go : Dec (n ≡ 0) → n ≤ slots_used l n
    go (yes e) = omega arith
    go (no e) = omega (arith, used-some l n (omega (arith, e)))

pub no-boxes : (l : List ℕ) → boxes_of l 0 ≡ []
unfolding boxes_of
no-boxes l = ap (records_in l) (used-none l) ∙ records-none l

-- ---- room

-- room for n is room for fewer, and words that are as many have as much room
pub ok-still : (l m : List ℕ) (k n : ℕ) → BoxesOk l n → length m ≡ length l → k ≤ n → BoxesOk m k
unfolding BoxesOk boxes_room
ok-still l m k n h e b = rw e (omega arith)

pub ok-moved : (l m : List ℕ) (n : ℕ) → BoxesOk l n → length m ≡ length l → BoxesOk m n
ok-moved l m n h e = ok-still l m n n h e (omega arith)

-- room is the number of records that the area holds
pub room-ok : (l : List ℕ) (n : ℕ) → n ≤ boxes_room l → BoxesOk l n
unfolding BoxesOk
room-ok l n h = h

pub ok-room : (l : List ℕ) (n : ℕ) → BoxesOk l n → n ≤ boxes_room l
unfolding BoxesOk
ok-room l n h = h

-- words that are as many have as much room
pub room-still : (l m : List ℕ) → length m ≡ length l → boxes_room m ≡ boxes_room l
unfolding boxes_room
room-still l m e = rw e

-- a count of records is an index, and there is a slot for each
pub ok-bound : (l : List ℕ) (n : ℕ) → BoxesOk l n → n ≤ length l
unfolding BoxesOk boxes_room
ok-bound l n h = omega arith

pub room-slots : (l : List ℕ) → boxes_room l ≤ box_slots l
unfolding boxes_room
room-slots l = omega arith

-- ---- what the code reads

pub box-is : (l : List ℕ) (i : ℕ) → key_at l 0 i ≡ (box_at l i).box
unfolding box_at slot_at
box-is l i = refl

pub owner-is : (l : List ℕ) (i : ℕ) → key_at l 1 i ≡ (box_at l i).owner
unfolding box_at slot_at
owner-is l i = refl

-- an input, as the code tests for it
module _ (l : List ℕ) (i k : ℕ) (t : Bool) (e : t ≡ eqb (box_at l i).owner k) where
  pub input-other : not t ≡ true → false ≡ is_input k (box_at l i)
  input-other p = rw (← e, not-true t p)

  pub input-own : (u : Bool) → not t ≡ false → u ≡ (box_at l i).out → not u ≡ is_input k (box_at l i)
  input-own u p f = rw (← e, not-false t p, f)

-- a number is read as a kind, of which a slot is what it is of the number
pub kind-same : (x y q : ℕ) → slot_of x y (kind_number (kind_of q)) ≡ slot_of x y q
kind-same x y zero = refl
kind-same x y (suc zero) = refl
kind-same x y (suc (suc zero)) = refl
kind-same x y (suc (suc (suc zero))) = refl
kind-same x y (suc (suc (suc (suc q)))) =
    let k = suc (suc (suc (suc q))) in
    rw (le-ltb k 2 (omega arith), ne_eqb k 0 (λ e. omega (arith, e)), ne_eqb k 2 (λ e. omega (arith, e)), ne_eqb k 3 (λ e. omega (arith, e)))

pub out-of : (l : List ℕ) (i : ℕ) → out_kind (kind_number (kind_of (kind_at l i))) ≡ (box_at l i).out
unfolding box_at slot_at
out-of l i = ap (λ (s : Slot). s.row.out) (kind-same (key_at l 0 i) (key_at l 1 i) (kind_at l i))

pub gone-of : (l : List ℕ) (i : ℕ) → eqb (kind_number (kind_of (kind_at l i))) 2 ≡ (slot_at l i).gone
unfolding slot_at
gone-of l i = ap (λ (s : Slot). s.gone) (kind-same (key_at l 0 i) (key_at l 1 i) (kind_at l i))

-- an entry is told by its kind and its box
kinds : (o : Bool) (q : ℕ) → (ltb q 2 && same o (out_kind q)) ≡ eqb q (pick o 1 0)
kinds true zero = refl
kinds true (suc zero) = refl
kinds true (suc (suc q)) = rw (le-ltb (suc (suc q)) 2 (omega arith), ne_eqb (suc (suc q)) 1 (λ e. omega (arith, e)))
kinds false zero = refl
kinds false (suc zero) = refl
kinds false (suc (suc q)) = rw (le-ltb (suc (suc q)) 2 (omega arith), ne_eqb (suc (suc q)) 0 (λ e. omega (arith, e)))

pub entry-is : (l : List ℕ) (i k : ℕ) (o : Bool) → is_entry o k (box_at l i) ≡ (eqb (box_at l i).box k && eqb (kind_at l i) (pick o 1 0))
unfolding is_entry box_at slot_at
entry-is l i k o = ap (λ (t : Bool). eqb (key_at l 0 i) k && t) (kinds o (kind_at l i))

-- .. as the code tests for it
pub entry-of : (l : List ℕ) (i k : ℕ) (o : Bool) → is_entry o k (box_at l i) ≡ (eqb (box_at l i).box k && eqb (kind_number (kind_of (kind_at l i))) (pick o 1 0))
entry-of l i k o =
    let same-kind : slot_of 0 0 (kind_number (kind_of (kind_at l i))) ≡ slot_of 0 0 (kind_at l i) = kind-same 0 0 (kind_at l i) in
    entry-is l i k o
    ∙ ap (λ (t : Bool). eqb (box_at l i).box k && t) (sym (sym (kinds o (kind_number (kind_of (kind_at l i)))) ∙ ap (λ (s : Slot). s.row.live && same o s.row.out) same-kind ∙ kinds o (kind_at l i)))
