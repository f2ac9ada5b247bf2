-- The words of the table. There are S slots, (words − 2) / 18; a slot has seventeen words: the fourteen of an entry, whether the slot is in use (1),
-- its link, and one that belongs to the bucket of the slot's number, its head. Behind the slots stands a word for each rank, which names a slot; then how many
-- slots are known, and the key of the buckets. Any words are a table in some way: `entries_of`.
use Rattle.std.specs.Prelude.{None, Option, Some, is_some}
use Rattle.std.specs.Option.{unwrap_or}
use Rattle.std.specs.Bool.{then_some}
use Rattle.std.specs.Int.{from_bool}
use Rattle.std.specs.Prelude.{ℕ, ◌+◌, ◌-◌, ◌*◌, ◌/◌, ◌^◌, ◌≤◌, ◌<◌, min, max, ◌≡◌, refl, ◌≢◌, Bool, true, false, not, List, [], ◌∷◌, length, slice_range, get_or, set, replicate, eqb, ltb}
use Rattle.std.proofs.Common.{sym, ap, ◌∙◌, add-zero, arith, eqb-true, eq-eqb, ne_eqb, lt-ltb, le-ltb, ltb-true}
use Rattle.std.proofs.Math.Decide.{dec_lt}
use Rattle.std.proofs.Math.ListN.{length-set}
use Rattle.std.proofs.Math.Seq.{get_or-set_other, get_or-set_same}
use Rattle.words.specs.Lists.{pick}
use Rattle.words.specs.Rows.{tab, length-tab, get_or-tab, take-tab, tab-ext}
use Rattle.words.specs.Tables.{Table}
use Rattle.words.specs.Ids.{num, id_of, id_at}
use Rattle.entries.specs.Entries.{Entry}
use Rattle.entries.specs.declared.fields.PoolEntry.{PoolEntry}
use Rattle.entries.specs.declared.fields.Field.{Field}
use Rattle.entries.specs.declared.fields.Field.TheVariants.{Weight, Base, Size, Cost, Created, LastChecked, HeightKey, Inputs}

-- a record of the code, as an entry
unfoldable pub entry_of : PoolEntry → Entry
entry_of e =
    record {
      id = id_of e.id;
      weight = e.weight;
      base = e.base;
      size = e.size;
      cost = e.cost;
      validation_cost = e.validation_cost;
      created = e.created;
      last_checked = e.last_checked;
      height_key = e.height_key;
      inputs = e.inputs;
    }

-- a validation cost of two words: a tag, 0 where nothing was measured, and a value
abbrev pub cost_of : ℕ → ℕ → Option ℕ
cost_of t v = pick (eqb t 0) None (Some v)

abbrev pub tag_of : Option ℕ → ℕ
tag_of None = 0
tag_of (Some v) = 1

abbrev pub value_of : Option ℕ → ℕ
value_of None = 0
value_of (Some v) = v

-- as the code reads and writes it
pub cost-read : (t v : ℕ) → then_some (not (eqb t 0)) v ≡ cost_of t v
cost-read t v = go (eqb t 0)
  where
    go : (b : Bool) → then_some (not b) v ≡ pick b None (Some v)
    go true = refl
    go false = refl

pub tag-written : (c : Option ℕ) → from_bool (is_some c) ≡ tag_of c
tag-written None = refl
tag-written (Some v) = refl

pub value-written : (c : Option ℕ) → unwrap_or c 0 ≡ value_of c
value-written None = refl
value-written (Some v) = refl

-- ---- the layout

-- how many slots there are
abbrev pub slot_count : List ℕ → ℕ
slot_count l = (length l - 2) / 18

-- the words of a slot, and which of them are the last of the id, the weight, the use, the link and the head. Those before the use are the entry's
abbrev pub slot_words : ℕ
slot_words = 17

abbrev pub last_word : ℕ
last_word = 3

abbrev pub weight_word : ℕ
weight_word = 4

abbrev pub use_word : ℕ
use_word = 14

abbrev pub link_word : ℕ
link_word = 15

abbrev pub head_word : ℕ
head_word = 16

-- word a of slot i, and the word r behind the slots
unfoldable pub cell : List ℕ → ℕ → ℕ → ℕ
cell l i a = get_or l (i * slot_words + a) 0

unfoldable pub raw_at : List ℕ → ℕ → ℕ
raw_at l r = get_or l (slot_count l * slot_words + r) 0

unfoldable pub put_cell : List ℕ → ℕ → ℕ → ℕ → List ℕ
put_cell l i a v = set l (i * slot_words + a) v

unfoldable pub put_raw : List ℕ → ℕ → ℕ → List ℕ
put_raw l r v = set l (slot_count l * slot_words + r) v

-- the words of the first n ranks
abbrev pub ranks_of : List ℕ → ℕ → List ℕ
ranks_of l n = slice_range l (slot_count l * slot_words) (slot_count l * slot_words + n)

-- word r behind the slots is one of the words
abbrev pub Stands : List ℕ → ℕ → Type 0
Stands l r = slot_count l * slot_words + r < length l

-- the key of the buckets
unfoldable pub bucket_key : List ℕ → ℕ
bucket_key l = raw_at l (slot_count l + 1)

-- how many slots are known where n are in use: none where n is 0, so that a start clears nothing; else as many as the word says, but n at least and no more
-- than there are
unfoldable pub known_of : List ℕ → ℕ → ℕ
known_of l n = pick (eqb n 0) 0 (max n (min (raw_at l (slot_count l)) (slot_count l)))

-- the slot that a word names: one that names none is taken for the first
abbrev pub slot_named : List ℕ → ℕ → ℕ
slot_named l w = pick (ltb w (slot_count l)) w 0

-- the slot of rank r
unfoldable pub slot_of : List ℕ → ℕ → ℕ
slot_of l r = slot_named l (raw_at l r)

unfoldable pub id_in : List ℕ → ℕ → ℕ
id_in l i = num (cell l i 0) (cell l i 1) (cell l i 2) (cell l i last_word)

-- an entry of its words
unfoldable pub entry_from : (ℕ → ℕ) → Entry
entry_from w =
    record {
      id = num (w 0) (w 1) (w 2) (w last_word);
      weight = w weight_word;
      base = w 5;
      size = w 6;
      cost = w 7;
      validation_cost = cost_of (w 8) (w 9);
      created = w 10;
      last_checked = w 11;
      height_key = w 12;
      inputs = w 13;
    }

-- the entry in slot i, that of rank r, and those of the first n ranks
unfoldable pub entry_in : List ℕ → ℕ → Entry
entry_in l i = entry_from (cell l i)

unfoldable pub entry_at : List ℕ → ℕ → Entry
entry_at l r = entry_in l (slot_of l r)

unfoldable pub entries_of : List ℕ → ℕ → List Entry
entries_of l n = tab (entry_at l) n

-- the three laws of a table (words, `Tables`)
pub entries : Table entries_of entry_at
unfolding entries_of
entries = record { len = λ l n. length-tab (entry_at l) n; get = λ l n i d h. get_or-tab (entry_at l) n i d h; first = λ l k n h. take-tab (entry_at l) k n h }

pub entries-ext : (l m : List ℕ) (n : ℕ) → ((r : ℕ) → r < n → entry_at m r ≡ entry_at l r) → entries_of m n ≡ entries_of l n
unfolding entries_of
entries-ext l m n e = tab-ext (entry_at m) (entry_at l) n e

-- on the edges: one slot, measured and not, and its rank's word, that names it or names none
abbrev table : ℕ → ℕ → List ℕ
table tag rank = 0 ∷ 0 ∷ 0 ∷ 7 ∷ 20 ∷ 10 ∷ 300 ∷ 500 ∷ tag ∷ 400 ∷ 3 ∷ 4 ∷ 2147483698 ∷ 2 ∷ 1 ∷ 0 ∷ 1 ∷ rank ∷ 1 ∷ 9 ∷ []

fields : ((entry_at (table 1 0) 0).weight ≡ 20) × ((entry_at (table 1 0) 0).base ≡ 10) × ((entry_at (table 1 0) 0).validation_cost ≡ Some 400) × ((entry_at (table 0 0) 0).validation_cost ≡ None) × ((entry_at (table 0 5) 0).inputs ≡ 2) × (bucket_key (table 0 0) ≡ 9)
unfolding entry_at entry_in entry_from slot_of cell raw_at bucket_key
fields = (refl, refl, refl, refl, refl, refl)

-- a word that says too little or too much of the slots that are known
knowns : (known_of (table 0 0) 0 ≡ 0) × (known_of (table 0 0) 1 ≡ 1) × (known_of (replicate 20 0) 1 ≡ 1) × (known_of (replicate 20 5) 1 ≡ 1)
unfolding known_of raw_at
knowns = (refl, refl, refl, refl)

rooms : (slot_count (replicate 1 0) ≡ 0) × (slot_count (replicate 19 0) ≡ 0) × (slot_count (replicate 20 0) ≡ 1) × (slot_count (replicate 37 0) ≡ 1) × (slot_count (replicate 38 0) ≡ 2)
rooms = (refl, refl, refl, refl, refl)

-- ---- what the code reads

pub in-id : (l : List ℕ) (i : ℕ) → (entry_in l i).id ≡ id_in l i
unfolding entry_in entry_from id_in
in-id l i = refl

pub in-weight : (l : List ℕ) (i : ℕ) → (entry_in l i).weight ≡ cell l i weight_word
unfolding entry_in entry_from
in-weight l i = refl

pub in-cost : (l : List ℕ) (i : ℕ) → cost_of (cell l i 8) (cell l i 9) ≡ (entry_in l i).validation_cost
unfolding entry_in entry_from
in-cost l i = refl

pub id-read : (l : List ℕ) (i : ℕ) → id_at l (i * slot_words) ≡ id_in l i
unfolding id_at id_in cell
id-read l i = rw (add-zero (i * 17))

-- the fields that are a word by themselves, and their places in a slot
abbrev pub field_place : Field → ℕ
field_place Weight = weight_word
field_place Base = 5
field_place Size = 6
field_place Cost = 7
field_place Created = 10
field_place LastChecked = 11
field_place HeightKey = 12
field_place Inputs = 13

abbrev pub word_of : Entry → Field → ℕ
word_of e Weight = e.weight
word_of e Base = e.base
word_of e Size = e.size
word_of e Cost = e.cost
word_of e Created = e.created
word_of e LastChecked = e.last_checked
word_of e HeightKey = e.height_key
word_of e Inputs = e.inputs

-- what a rank's slot holds
pub at-field : (l : List ℕ) (r i p : ℕ) (f : Field) → i ≡ slot_of l r → p ≡ field_place f → cell l i p ≡ word_of (entry_at l r) f
unfolding entry_at entry_in entry_from
at-field l r i p f e d = rw (e, d) (go f)
  where
    go : (f : Field) → cell l (slot_of l r) (field_place f) ≡ word_of (entry_at l r) f
    go Weight = refl
    go Base = refl
    go Size = refl
    go Cost = refl
    go Created = refl
    go LastChecked = refl
    go HeightKey = refl
    go Inputs = refl

pub at-id : (l : List ℕ) (r i : ℕ) → i ≡ slot_of l r → id_in l i ≡ (entry_at l r).id
unfolding entry_at
at-id l r i e = sym (in-id l i) ∙ ap (λ (x : ℕ). (entry_in l x).id) e

pub at-weight : (l : List ℕ) (r i : ℕ) → i ≡ slot_of l r → cell l i weight_word ≡ (entry_at l r).weight
unfolding entry_at
at-weight l r i e = sym (in-weight l i) ∙ ap (λ (x : ℕ). (entry_in l x).weight) e

pub at-cost : (l : List ℕ) (r i : ℕ) → i ≡ slot_of l r → cost_of (cell l i 8) (cell l i 9) ≡ (entry_at l r).validation_cost
unfolding entry_at
at-cost l r i e = in-cost l i ∙ ap (λ (x : ℕ). (entry_in l x).validation_cost) e

-- slots whose entries' words are the same hold the same entry
pub from-ext : (f g : ℕ → ℕ) → ((a : ℕ) → a < use_word → f a ≡ g a) → entry_from f ≡ entry_from g
unfolding entry_from
from-ext f g e =
    λ t.
    record {
      id = num (e 0 (omega arith) t) (e 1 (omega arith) t) (e 2 (omega arith) t) (e 3 (omega arith) t);
      weight = e 4 (omega arith) t;
      base = e 5 (omega arith) t;
      size = e 6 (omega arith) t;
      cost = e 7 (omega arith) t;
      validation_cost = cost_of (e 8 (omega arith) t) (e 9 (omega arith) t);
      created = e 10 (omega arith) t;
      last_checked = e 11 (omega arith) t;
      height_key = e 12 (omega arith) t;
      inputs = e 13 (omega arith) t;
    }

pub in-ext : (l m : List ℕ) (i j : ℕ) → ((a : ℕ) → a < use_word → cell m i a ≡ cell l j a) → entry_in m i ≡ entry_in l j
unfolding entry_in
in-ext l m i j e = from-ext (cell m i) (cell l j) e

-- ---- the slot of a rank

pub slot-in : (l : List ℕ) (r w : ℕ) → w ≡ raw_at l r → w < slot_count l → w ≡ slot_of l r
unfolding slot_of
slot-in l r w e q = rw (← e, lt-ltb w (slot_count l) q)

pub slot-out : (l : List ℕ) (r w : ℕ) → w ≡ raw_at l r → slot_count l ≤ w → 0 ≡ slot_of l r
unfolding slot_of
slot-out l r w e q = rw (← e, le-ltb w (slot_count l) q)

pub slot-low : (l : List ℕ) (r : ℕ) → 0 < slot_count l → slot_of l r < slot_count l
unfolding slot_of
slot-low l r h = go (ltb (raw_at l r) (slot_count l)) refl
  where
    go : (t : Bool) → ltb (raw_at l r) (slot_count l) ≡ t → pick t (raw_at l r) 0 < slot_count l
    go true q = ltb-true (raw_at l r) (slot_count l) q
    go false q = h

pub slot-ext : (l m : List ℕ) (r q : ℕ) → length m ≡ length l → raw_at m r ≡ raw_at l q → slot_of m r ≡ slot_of l q
unfolding slot_of
slot-ext l m r q e f = λ t. pick (ltb (f t) ((e t - 2) / 18)) (f t) 0

pub entry-ext : (l m : List ℕ) (r q : ℕ) → length m ≡ length l → raw_at m r ≡ raw_at l q → ((a : ℕ) → a < use_word → cell m (slot_of l q) a ≡ cell l (slot_of l q) a) → entry_at m r ≡ entry_at l q
unfolding entry_at
entry-ext l m r q e f g = ap (entry_in m) (slot-ext l m r q e f) ∙ in-ext l m (slot_of l q) (slot_of l q) g

pub entry-is : (l : List ℕ) (r i : ℕ) → slot_of l r ≡ i → entry_at l r ≡ entry_in l i
unfolding entry_at
entry-is l r i e = ap (entry_in l) e

-- ---- the slots that are known

pub known-none : (l : List ℕ) (n : ℕ) → n ≡ 0 → 0 ≡ known_of l n
unfolding known_of
known-none l n e = rw (eq-eqb n 0 e)

module _ (l : List ℕ) (n w : ℕ) (pos : n ≢ 0) (e : w ≡ raw_at l (slot_count l)) (h : n ≤ slot_count l) where
  pub known-clamp : (r : ℕ) → r ≡ max n (min w (slot_count l)) → r ≡ known_of l n
  unfolding known_of
  known-clamp r q = q ∙ rw (ne_eqb n 0 pos, ← e)

  pub known-word : n ≤ w → w ≤ slot_count l → w ≡ known_of l n
  unfolding known_of
  known-word q r = rw (ne_eqb n 0 pos, ← e) (omega arith)

pub known-low : (l : List ℕ) (n : ℕ) → n ≤ known_of l n
unfolding known_of
known-low l n = go (eqb n 0) refl
  where
    go : (t : Bool) → eqb n 0 ≡ t → n ≤ pick t 0 (max n (min (raw_at l (slot_count l)) (slot_count l)))
    go true q = omega (arith, eqb-true n 0 q)
    go false q = omega arith

pub known-high : (l : List ℕ) (n : ℕ) → n ≤ slot_count l → known_of l n ≤ slot_count l
unfolding known_of
known-high l n h = go (eqb n 0)
  where
    go : (t : Bool) → pick t 0 (max n (min (raw_at l (slot_count l)) (slot_count l))) ≤ slot_count l
    go true = omega arith
    go false = omega arith

pub key-same : (l m : List ℕ) → length m ≡ length l → raw_at m (slot_count l + 1) ≡ raw_at l (slot_count l + 1) → bucket_key m ≡ bucket_key l
unfolding bucket_key
key-same l m e f = rw e f

-- each word is a word
unfoldable pub AllWords : List ℕ → Type 0
AllWords l = (i : ℕ) → get_or l i 0 < 2 ^ 64

pub all-cell : (l : List ℕ) → AllWords l → (i a : ℕ) → cell l i a < 2 ^ 64
unfolding AllWords cell
all-cell l w i a = w (i * slot_words + a)

-- ---- a word of a slot is written

unique : (i j a b : ℕ) → a < slot_words → b < slot_words → i * slot_words + a ≡ j * slot_words + b → (i ≡ j) × (a ≡ b)
unique i j a b p q e = go (dec_lt i j) (dec_lt j i)
  where
    go : Dec (i < j) → Dec (j < i) → (i ≡ j) × (a ≡ b)
    go (yes x) y = absurd (omega arith)
    go (no x) (yes y) = absurd (omega arith)
    go (no x) (no y) = let z : i ≡ j = omega (arith, x, y) in (z, omega arith)

module _ (l : List ℕ) (i a v : ℕ) where
  pub put-length : length (put_cell l i a v) ≡ length l
  unfolding put_cell
  put-length = length-set l (i * slot_words + a) v

  module _ (h : i < slot_count l) (g : a < slot_words) where
    pub put-here : cell (put_cell l i a v) i a ≡ v
    unfolding put_cell cell
    put-here = get_or-set_same l (i * slot_words + a) v 0 (omega arith)

    pub put-else : (j b : ℕ) → b < slot_words → (j ≡ i → b ≡ a → ⊥) → cell (put_cell l i a v) j b ≡ cell l j b
    unfolding put_cell cell
    put-else j b q d =
        get_or-set_other l (i * slot_words + a) (j * slot_words + b) v 0 (λ e. let z = unique j i b a q g e in d z.0 z.1)

    pub put-raw : (r : ℕ) → raw_at (put_cell l i a v) r ≡ raw_at l r
    unfolding put_cell raw_at
    put-raw r =
        rw (length-set l (i * slot_words + a) v) (get_or-set_other l (i * slot_words + a) (slot_count l * slot_words + r) v 0 (λ e. omega arith))

-- ---- a word behind the slots is written

module _ (l : List ℕ) (r v : ℕ) where
  pub ord-length : length (put_raw l r v) ≡ length l
  unfolding put_raw
  ord-length = length-set l (slot_count l * slot_words + r) v

  pub ord-else : (q : ℕ) → (q ≡ r → ⊥) → raw_at (put_raw l r v) q ≡ raw_at l q
  unfolding put_raw raw_at
  ord-else q d =
      rw (length-set l (slot_count l * slot_words + r) v) (get_or-set_other l (slot_count l * slot_words + r) (slot_count l * slot_words + q) v 0 (λ e. d (omega arith)))

  pub ord-cell : (i a : ℕ) → i < slot_count l → a < slot_words → cell (put_raw l r v) i a ≡ cell l i a
  unfolding put_raw cell
  ord-cell i a g b = get_or-set_other l (slot_count l * slot_words + r) (i * slot_words + a) v 0 (λ e. omega arith)

  pub ord-here : Stands l r → raw_at (put_raw l r v) r ≡ v
  unfolding put_raw raw_at
  ord-here h = rw (length-set l (slot_count l * slot_words + r) v) (get_or-set_same l (slot_count l * slot_words + r) v 0 h)
