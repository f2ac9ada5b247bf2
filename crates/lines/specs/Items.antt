-- Lists of records in a form, as the flat words that a call takes: inputs `(BOX set|not)`, outputs `(BOX VALUE fee|pay HEIGHT)`, a return's outputs
-- `(BOX HEIGHT)`, box ids, and an answer's flags. Each record is one member of its list.
use Rattle.std.specs.Prelude.{ℕ, suc, ◌≤◌, ◌≡◌, refl, Bool, true, false, List, [], ◌∷◌, ◌++◌, length, leb}
use Rattle.words.specs.Lists.{pick}
use Rattle.words.specs.Ids.{id_words}
use Rattle.forms.specs.Text.{Members, none, word, sub, Behind}
use Rattle.forms.specs.Nums.{over, id_read, is_hex, is_digits, more, digit_of, id_of_digits}
use Rattle.lines.specs.declared.items.Records.{Records}
use Rattle.lines.specs.declared.items.Records.TheVariants.{Boxes, Flags, Inputs, Heights, Outputs}
use Rattle.lines.specs.Fields.{Rest, gone, here, word_of, past_word, same, list_of, past_list, ended, Kind, value, past, ids, either, choices, number32, number64, Stands}

-- one record: its words, and whether the member that stands next is one
pub record Item : Type 0 where
  pub width : ℕ
  pub of : Rest → List ℕ
  pub ok : Rest → Bool
  pub wide : (s : Rest) → length (of s) ≡ width

abbrev pub w_set : List ℕ
w_set = 115 ∷ 101 ∷ 116 ∷ []

abbrev pub w_not : List ℕ
w_not = 110 ∷ 111 ∷ 116 ∷ []

abbrev pub w_fee : List ℕ
w_fee = 102 ∷ 101 ∷ 101 ∷ []

abbrev pub w_pay : List ℕ
w_pay = 112 ∷ 97 ∷ 121 ∷ []

-- a record that is one word, and one that is a list of fields
abbrev pub word_item : {A : Type 0} → Kind A → (w : ℕ) (f : A → List ℕ) → ((v : A) → length (f v) ≡ w) → Item
word_item k w f e = record { width = w; of = λ s. f (value k s); ok = λ s. k.ok (word_of s); wide = λ s. e (value k s) }

abbrev pub list_item : (w : ℕ) (of : Rest → List ℕ) → (Rest → Bool) → ((i : Rest) → length (of i) ≡ w) → Item
list_item w of ok e = record { width = w; of = λ s. of (list_of s); ok = λ s. ok (list_of s); wide = λ s. e (list_of s) }

-- BOX
unfoldable pub boxes : Item
boxes = word_item ids 4 id_words (λ v. refl)

-- `set` or `not`
abbrev pub flag_words : ℕ → List ℕ
flag_words v = v ∷ []

unfoldable pub flags : Item
flags = word_item (choices w_set w_not) 1 flag_words (λ v. refl)

-- `(BOX set|not)`
unfoldable pub input_words : Rest → List ℕ
input_words i = id_words (value ids i) ++ (value (choices w_set w_not) (past ids i) ∷ [])

unfoldable pub is_input : Rest → Bool
is_input i = ended (past (choices w_set w_not) (past ids i))

unfoldable pub inputs : Item
unfolding input_words
inputs = list_item 5 input_words is_input (λ i. refl)

-- `(BOX HEIGHT)`
unfoldable pub height_words : Rest → List ℕ
height_words i = id_words (value ids i) ++ (value number32 (past ids i) ∷ [])

unfoldable pub is_height : Rest → Bool
is_height i = ended (past number32 (past ids i))

unfoldable pub heights : Item
unfolding height_words
heights = list_item 5 height_words is_height (λ i. refl)

-- `(BOX VALUE fee|pay HEIGHT)`
unfoldable pub output_words : Rest → List ℕ
output_words i =
    let i1 = past ids i in
    let i2 = past number64 i1 in
    id_words (value ids i) ++ (value number64 i1 ∷ value (choices w_fee w_pay) i2 ∷ value number32 (past (choices w_fee w_pay) i2) ∷ [])

unfoldable pub is_output : Rest → Bool
is_output i = ended (past number32 (past (choices w_fee w_pay) (past number64 (past ids i))))

unfoldable pub outputs : Item
unfolding output_words
outputs = list_item 7 output_words is_output (λ i. refl)

unfoldable pub item_of : Records → Item
item_of Boxes = boxes
item_of Flags = flags
item_of Inputs = inputs
item_of Heights = heights
item_of Outputs = outputs

-- ---- the records of a list

module _ (it : Item) where
  unfoldable pub words_of : Members → List ℕ
  words_of none = []
  words_of (word w n) = it.of (here (word w n)) ++ words_of n
  words_of (sub i n) = it.of (here (sub i n)) ++ words_of n

  unfoldable pub all_ok : Members → Bool
  all_ok none = true
  all_ok (word w n) = pick (it.ok (here (word w n))) (all_ok n) false
  all_ok (sub i n) = pick (it.ok (here (sub i n))) (all_ok n) false

  unfoldable pub words_in : Rest → List ℕ
  words_in gone = []
  words_in (here m) = words_of m

  unfoldable pub all_in : Rest → Bool
  all_in gone = false
  all_in (here m) = all_ok m

  -- each member is a record, and their words have room
  unfoldable pub fits : ℕ → Rest → Bool
  fits room s = pick (all_in s) (leb (length (words_in s)) room) false

  unfoldable pub count_of : ℕ → Rest → ℕ
  count_of room s = pick (fits room s) (length (words_in s)) 0

  unfoldable pub past_items : ℕ → Rest → Rest
  past_items room s = pick (fits room (list_of s)) (past_list s) gone

-- how many members a list has
unfoldable pub count : Members → ℕ
count none = 0
count (word w n) = suc (count n)
count (sub i n) = suc (count n)

unfoldable pub count_in : Rest → ℕ
count_in gone = 0
count_in (here m) = count m

-- what is left behind one member
unfoldable pub past_one : Rest → Rest
past_one gone = gone
past_one (here none) = gone
past_one (here (word w n)) = here n
past_one (here (sub i n)) = here n

-- ---- what the readers say

-- a reader of one record, which writes its words from index k on: y is x after it, and r is left
pub record ItemAt (it : Item) (s : List ℕ) (g : Bool) (d k : ℕ) (x y r : List ℕ) : Type 0 where
  pub behind : Behind s r
  pub words : List ℕ
  pub wide : length words ≡ it.width
  pub wrote : y ≡ over k words x
  pub is : (t : List ℕ) (z : Rest) → Stands s d t g z → (it.ok z ≡ true) × (words ≡ it.of z) × Stands r d t false (past_one z)

-- the member that stands next is no such record
unfoldable pub NoItem : Item → List ℕ → Bool → ℕ → Type 0
NoItem it s g d = (t : List ℕ) (z : Rest) → Stands s d t g z → it.ok z ≡ false

-- a reader of all records of a list, from behind its opening bracket: n words of them
pub record ItemsAt (it : Item) (s : List ℕ) (d : ℕ) (x y : List ℕ) (n : ℕ) : Type 0 where
  pub room : n ≤ length x
  pub is : (t : List ℕ) (z : Rest) → Stands s d t true z → (fits it (length x) z ≡ true) × (n ≡ count_of it (length x) z) × (y ≡ over 0 (words_in it z) x)

-- some member is no such record, or their words have no room
unfoldable pub NoItems : Item → List ℕ → ℕ → ℕ → Type 0
NoItems it s d room = (t : List ℕ) (z : Rest) → Stands s d t true z → fits it room z ≡ false

-- the same with the list's brackets, as a field
pub record ListAt (it : Item) (s : List ℕ) (d : ℕ) (x y : List ℕ) (n : ℕ) (r : List ℕ) : Type 0 where
  pub behind : Behind s r
  pub room : n ≤ length x
  pub is : (t : List ℕ) (z : Rest) → Stands s d t false z → (n ≡ count_of it (length x) (list_of z)) × Stands r d t false (past_items it (length x) z)
  pub fit : (t : List ℕ) (z : Rest) → Stands s d t false z → fits it (length x) (list_of z) ≡ true
  pub wrote : (t : List ℕ) (z : Rest) → Stands s d t false z → y ≡ over 0 (words_in it (list_of z)) x

unfoldable pub NoListed : Item → List ℕ → ℕ → ℕ → Type 0
NoListed it s d room = (t : List ℕ) (z : Rest) → Stands s d t false z → past_items it room z ≡ gone

-- on an edge: `((1 set))` is five words, and `((1 set) 2)` is no list of inputs
item-edges : (words_of inputs (sub (word (49 ∷ []) (word w_set none)) none) ≡ 0 ∷ 0 ∷ 0 ∷ 1 ∷ 1 ∷ []) × (all_ok inputs (sub (word (49 ∷ []) (word w_set none)) none) ≡ true)
    × (all_ok inputs (sub (word (49 ∷ []) (word w_set none)) (word (50 ∷ []) none)) ≡ false)
unfolding words_of all_ok inputs input_words is_input list_of word_of past_word ended value past ids either same id_read is_hex is_digits more digit_of id_of_digits
item-edges = (refl, refl, refl)
