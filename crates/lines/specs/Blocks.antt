-- The transactions of a block, `((ID (BOX..))..)`, as the two flat lists that the call takes (D3): "transactions of a block: id (4), number of inputs;
-- their inputs follow in a second list, ids of 4".
use Rattle.std.specs.Prelude.{ℕ, ◌≤◌, ◌≡◌, refl, Bool, true, false, List, [], ◌∷◌, ◌++◌, length, leb}
use Rattle.words.specs.Lists.{pick}
use Rattle.words.specs.Ids.{id_words}
use Rattle.forms.specs.Text.{Members, none, word, sub, Behind}
use Rattle.forms.specs.Nums.{over, id_read, is_hex, is_digits, more, digit_of, id_of_digits}
use Rattle.lines.specs.Fields.{Rest, gone, here, word_of, past_word, list_of, past_list, ended, value, past, ids, Stands}
use Rattle.lines.specs.Items.{Item, list_item, boxes, words_of, all_ok, words_in, all_in, fits, count, count_in, past_one}

-- ---- one transaction, `(ID (BOX..))`: of the members inside its brackets

-- the list of its boxes
unfoldable pub box_list : Rest → Rest
box_list i = list_of (past ids i)

-- its id and the number of its boxes
unfoldable pub tx_words : Rest → List ℕ
tx_words i = id_words (value ids i) ++ (count_in (box_list i) ∷ [])

-- its boxes
unfoldable pub box_words : Rest → List ℕ
box_words i = words_in boxes (box_list i)

-- an id, a list of box ids and no more
unfoldable pub is_tx : Rest → Bool
is_tx i = pick (all_in boxes (box_list i)) (ended (past_list (past ids i))) false

unfoldable pub transactions : Item
unfolding tx_words
transactions = list_item 5 tx_words is_tx (λ i. refl)

-- ---- all of them: the records are `words_in transactions`, and these are their inputs, in order

unfoldable pub inputs_of : Members → List ℕ
inputs_of none = []
inputs_of (word w n) = inputs_of n
inputs_of (sub i n) = box_words (here i) ++ inputs_of n

unfoldable pub inputs_in : Rest → List ℕ
inputs_in gone = []
inputs_in (here m) = inputs_of m

-- each member is a transaction, and the words of both lists have room: a in the first, b in the second
unfoldable pub fits_block : ℕ → ℕ → Rest → Bool
fits_block a b s = pick (fits transactions a s) (leb (length (inputs_in s)) b) false

-- the words of both lists, and what is left behind the block's list
unfoldable pub txs_count : ℕ → ℕ → Rest → ℕ
txs_count a b s = pick (fits_block a b s) (length (words_in transactions s)) 0

unfoldable pub inputs_count : ℕ → ℕ → Rest → ℕ
inputs_count a b s = pick (fits_block a b s) (length (inputs_in s)) 0

unfoldable pub past_block : ℕ → ℕ → Rest → Rest
past_block a b s = pick (fits_block a b (list_of s)) (past_list s) gone

-- ---- what the readers say

-- the members inside brackets are a transaction whose boxes have room
unfoldable pub tx_fits : ℕ → Rest → Bool
tx_fits b i = pick (is_tx i) (leb (length (box_words i)) b) false

-- a reader of one transaction: y is x with its record from index k on, z is v with its boxes in front, n words of them, and r is left
pub record TxAt (s : List ℕ) (g : Bool) (d k : ℕ) (x y v z : List ℕ) (n : ℕ) (r : List ℕ) : Type 0 where
  pub behind : Behind s r
  pub room : n ≤ length v
  pub is : (t : List ℕ) (q : Rest) → Stands s d t g q → (tx_fits (length v) (list_of q) ≡ true) × Stands r d t false (past_one q)
  pub wrote : (t : List ℕ) (q : Rest) → Stands s d t g q
      → (y ≡ over k (tx_words (list_of q)) x) × (z ≡ over 0 (box_words (list_of q)) v) × (n ≡ length (box_words (list_of q)))

-- the member that stands next is no transaction, or its boxes have no room
unfoldable pub NoTx : List ℕ → Bool → ℕ → ℕ → Type 0
NoTx s g d room = (t : List ℕ) (q : Rest) → Stands s d t g q → tx_fits room (list_of q) ≡ false

-- a reader of all transactions: n and m words of both lists
pub record TxsAt (s : List ℕ) (d : ℕ) (x y v z : List ℕ) (n m : ℕ) : Type 0 where
  pub is : (t : List ℕ) (q : Rest) → Stands s d t true q
      → (fits_block (length x) (length v) q ≡ true) × (n ≡ txs_count (length x) (length v) q) × (m ≡ inputs_count (length x) (length v) q)
  pub wrote : (t : List ℕ) (q : Rest) → Stands s d t true q → (y ≡ over 0 (words_in transactions q) x) × (z ≡ over 0 (inputs_in q) v)

unfoldable pub NoTxs : List ℕ → ℕ → ℕ → ℕ → Type 0
NoTxs s d a b = (t : List ℕ) (q : Rest) → Stands s d t true q → fits_block a b q ≡ false

-- the same with the list's brackets, as a field
pub record BlockAt (s : List ℕ) (d : ℕ) (x y v z : List ℕ) (n m : ℕ) (r : List ℕ) : Type 0 where
  pub behind : Behind s r
  pub is : (t : List ℕ) (q : Rest) → Stands s d t false q
      → (n ≡ txs_count (length x) (length v) (list_of q)) × (m ≡ inputs_count (length x) (length v) (list_of q)) × Stands r d t false (past_block (length x) (length v) q)
  pub wrote : (t : List ℕ) (q : Rest) → Stands s d t false q → (y ≡ over 0 (words_in transactions (list_of q)) x) × (z ≡ over 0 (inputs_in (list_of q)) v)

unfoldable pub NoBlock : List ℕ → ℕ → ℕ → ℕ → Type 0
NoBlock s d a b = (t : List ℕ) (q : Rest) → Stands s d t false q → past_block a b q ≡ gone

-- on the edges: an empty block; `((c ()))`, a transaction without boxes; `((a (1 2)) (c (3)))`, whose boxes stand in order; `((a b))` is no transaction,
-- nor are `(())`, `(a ())`, `((a (1) 2))` and `((a ((1))))`
abbrev bare : Members
bare = sub (word (99 ∷ []) (sub none none)) none

abbrev both : Members
both = sub (word (97 ∷ []) (sub (word (49 ∷ []) (word (50 ∷ []) none)) none)) (sub (word (99 ∷ []) (sub (word (51 ∷ []) none) none)) none)

block-edges : (words_of transactions none ≡ []) × (inputs_of none ≡ []) × (all_ok transactions none ≡ true)
    × (words_of transactions bare ≡ 0 ∷ 0 ∷ 0 ∷ 12 ∷ 0 ∷ []) × (inputs_of bare ≡ []) × (all_ok transactions bare ≡ true)
    × (words_of transactions both ≡ 0 ∷ 0 ∷ 0 ∷ 10 ∷ 2 ∷ 0 ∷ 0 ∷ 0 ∷ 12 ∷ 1 ∷ [])
    × (inputs_of both ≡ 0 ∷ 0 ∷ 0 ∷ 1 ∷ 0 ∷ 0 ∷ 0 ∷ 2 ∷ 0 ∷ 0 ∷ 0 ∷ 3 ∷ []) × (all_ok transactions both ≡ true)
unfolding words_of all_ok words_in all_in transactions tx_words is_tx box_list inputs_of box_words count count_in boxes list_of past_list word_of past_word ended value past ids id_read is_hex is_digits more digit_of id_of_digits
block-edges = (refl, refl, refl, refl, refl, refl, refl, refl, refl)

block_refused : (all_ok transactions (sub (word (97 ∷ []) (word (98 ∷ []) none)) none) ≡ false)
    × (all_ok transactions (sub none none) ≡ false)
    × (all_ok transactions (word (97 ∷ []) (sub none none)) ≡ false)
    × (all_ok transactions (sub (word (97 ∷ []) (sub (word (49 ∷ []) none) (word (50 ∷ []) none))) none) ≡ false)
    × (all_ok transactions (sub (word (97 ∷ []) (sub (sub (word (49 ∷ []) none) none) none)) none) ≡ false)
unfolding all_ok words_in all_in transactions is_tx box_list boxes list_of past_list word_of past_word ended value past ids id_read is_hex is_digits more digit_of id_of_digits
block_refused = (refl, refl, refl, refl, refl)
