-- The forms of poolrun, from behind the first word. Document 01: "`pool` has the settings in the order of `MempoolConfig`, without the reward delay"; the
-- other calls' forms are the project's (docs/FORMS.md). A form's members are its fields and no more.
use Rattle.std.specs.Prelude.{ℕ, ◌≡◌, refl, Bool, true, false, [], ◌∷◌, length}
use mathlib.Core.List as ListOf
use Rattle.words.specs.Lists.{pick}
use Rattle.pool_types.specs.declared.FeeStrategy.{FeeStrategy}
use Rattle.pool_types.specs.declared.FeeStrategy.TheVariants.{FeePerByte, FeePerCycle}
use Rattle.lines.specs.declared.read.Form.{Form}
use Rattle.lines.specs.declared.read.Form.TheVariants.{Pool, Tx, Return, Block, Invalidate, Open, Next, Answer, Rebroadcast, List, Top, Len, Contains, Spending, Fee, Wait, Histogram, Charges, Written, Unread}
use Rattle.lines.specs.declared.items.Records.TheVariants.{Boxes, Flags, Inputs, Heights, Outputs}
use Rattle.forms.specs.Text.{Members, none, word, sub, Line}
use Rattle.forms.specs.Nums.{over, decimal, id_read, is_hex, is_digits, more, digit_of, id_of_digits}
use Rattle.lines.specs.Fields.{Rest, here, word_of, past_word, list_of, past_list, ended, Stands, value, past, number64, number32, numbers, ids, Kind, either, optional, same, judged, past_verdict, w_none}
use Rattle.lines.specs.Items.{w_fee, item_of, boxes, words_of, words_in, all_ok, all_in, fits, count, count_in, count_of, past_items}
use Rattle.lines.specs.Blocks.{transactions, tx_words, box_words, is_tx, box_list, inputs_of, inputs_in, fits_block, txs_count, inputs_count, past_block}

abbrev pub is_read : Form → Bool
is_read Unread = false
is_read (Pool f) = true
is_read (Tx f) = true
is_read (Return f) = true
is_read (Block f) = true
is_read (Invalidate a b) = true
is_read (Open a b c) = true
is_read Next = true
is_read (Answer a b) = true
is_read (Rebroadcast a) = true
is_read List = true
is_read (Top a) = true
is_read Len = true
is_read (Contains a b) = true
is_read (Spending a) = true
is_read (Fee a b) = true
is_read (Wait a b c) = true
is_read (Histogram a b c) = true
is_read Charges = true
is_read Written = true

-- the form f, where nothing is left behind its fields
abbrev pub whole : Rest → Form → Form
whole s f = pick (ended s) f Unread

-- one word: `(list)`, `(len)`, `(charges)`, `(written)`, `(next)`
unfoldable pub plain_of : Form → Rest → Form
plain_of f s = whole s f

-- `(invalidate TIME ID)`
unfoldable pub invalidate_of : Rest → Form
invalidate_of s = let s1 = past number64 s in whole (past ids s1) (Invalidate (value number64 s) (value ids s1))

-- `(open TIME LIMIT PREHEADER)`
unfoldable pub open_of : Rest → Form
open_of s =
    let s1 = past number64 s in
    let s2 = past number64 s1 in
    whole (past number32 s2) (Open (value number64 s) (value number64 s1) (value number32 s2))

-- `(top LIMIT)`
unfoldable pub top_of : Rest → Form
top_of s = whole (past number64 s) (Top (value number64 s))

-- `(contains TIME ID)`
unfoldable pub contains_of : Rest → Form
contains_of s = let s1 = past number64 s in whole (past ids s1) (Contains (value number64 s) (value ids s1))

-- `(spending BOX)`
unfoldable pub spending_of : Rest → Form
spending_of s = whole (past ids s) (Spending (value ids s))

-- `(fee MINUTES SIZE)`
unfoldable pub fee_of : Rest → Form
fee_of s = let s1 = past number32 s in whole (past number32 s1) (Fee (value number32 s) (value number32 s1))

-- `(wait TIME FEE SIZE)`
unfoldable pub wait_of : Rest → Form
wait_of s =
    let s1 = past number64 s in
    let s2 = past number64 s1 in
    whole (past number32 s2) (Wait (value number64 s) (value number64 s1) (value number32 s2))

-- `(histogram TIME BINS LONGEST)`
unfoldable pub histogram_of : Rest → Form
histogram_of s =
    let s1 = past number64 s in
    let s2 = past number32 s1 in
    whole (past number64 s2) (Histogram (value number64 s) (value number32 s1) (value number64 s2))

abbrev pub w_byte : ListOf.List ℕ
w_byte = 98 ∷ 121 ∷ 116 ∷ 101 ∷ []

abbrev pub w_cycle : ListOf.List ℕ
w_cycle = 99 ∷ 121 ∷ 99 ∷ 108 ∷ 101 ∷ []

-- what a fee is reckoned by
abbrev pub strategies : Kind FeeStrategy
strategies = either w_byte FeePerByte w_cycle FeePerCycle

-- `(pool CAPACITY MINFEE byte|cycle INTERVAL REBROADCAST TTL CACHE BLOCKLIMIT PEERLIMIT)`
unfoldable pub pool_of : Rest → Form
pool_of s =
    let s1 = past number64 s in
    let s2 = past number64 s1 in
    let s3 = past strategies s2 in
    let s4 = past number64 s3 in
    let s5 = past number64 s4 in
    let s6 = past number64 s5 in
    let s7 = past number64 s6 in
    let s8 = past number64 s7 in
    whole (past number64 s8)
    (Pool (record {
      capacity = value number64 s;
      min_fee = value number64 s1;
      strategy = value strategies s2;
      interval = value number64 s3;
      rebroadcast = value number64 s4;
      ttl = value number64 s5;
      cache = value number64 s6;
      block_limit = value number64 s7;
      peer_limit = value number64 s8;
    }))

-- ---- the forms that have lists: a and b are the words that the two lent slices have room for

abbrev pub w_local : ListOf.List ℕ
w_local = 108 ∷ 111 ∷ 99 ∷ 97 ∷ 108 ∷ []

abbrev pub w_pool : ListOf.List ℕ
w_pool = 112 ∷ 111 ∷ 111 ∷ 108 ∷ []

abbrev pub w_tx : ListOf.List ℕ
w_tx = 116 ∷ 120 ∷ []

abbrev pub w_return : ListOf.List ℕ
w_return = 114 ∷ 101 ∷ 116 ∷ 117 ∷ 114 ∷ 110 ∷ []

abbrev pub w_block : ListOf.List ℕ
w_block = 98 ∷ 108 ∷ 111 ∷ 99 ∷ 107 ∷ []

abbrev pub w_invalidate : ListOf.List ℕ
w_invalidate = 105 ∷ 110 ∷ 118 ∷ 97 ∷ 108 ∷ 105 ∷ 100 ∷ 97 ∷ 116 ∷ 101 ∷ []

abbrev pub w_open : ListOf.List ℕ
w_open = 111 ∷ 112 ∷ 101 ∷ 110 ∷ []

abbrev pub w_next : ListOf.List ℕ
w_next = 110 ∷ 101 ∷ 120 ∷ 116 ∷ []

abbrev pub w_answer : ListOf.List ℕ
w_answer = 97 ∷ 110 ∷ 115 ∷ 119 ∷ 101 ∷ 114 ∷ []

abbrev pub w_rebroadcast : ListOf.List ℕ
w_rebroadcast = 114 ∷ 101 ∷ 98 ∷ 114 ∷ 111 ∷ 97 ∷ 100 ∷ 99 ∷ 97 ∷ 115 ∷ 116 ∷ []

abbrev pub w_list : ListOf.List ℕ
w_list = 108 ∷ 105 ∷ 115 ∷ 116 ∷ []

abbrev pub w_top : ListOf.List ℕ
w_top = 116 ∷ 111 ∷ 112 ∷ []

abbrev pub w_len : ListOf.List ℕ
w_len = 108 ∷ 101 ∷ 110 ∷ []

abbrev pub w_contains : ListOf.List ℕ
w_contains = 99 ∷ 111 ∷ 110 ∷ 116 ∷ 97 ∷ 105 ∷ 110 ∷ 115 ∷ []

abbrev pub w_spending : ListOf.List ℕ
w_spending = 115 ∷ 112 ∷ 101 ∷ 110 ∷ 100 ∷ 105 ∷ 110 ∷ 103 ∷ []

abbrev pub w_wait : ListOf.List ℕ
w_wait = 119 ∷ 97 ∷ 105 ∷ 116 ∷ []

abbrev pub w_histogram : ListOf.List ℕ
w_histogram = 104 ∷ 105 ∷ 115 ∷ 116 ∷ 111 ∷ 103 ∷ 114 ∷ 97 ∷ 109 ∷ []

abbrev pub w_charges : ListOf.List ℕ
w_charges = 99 ∷ 104 ∷ 97 ∷ 114 ∷ 103 ∷ 101 ∷ 115 ∷ []

abbrev pub w_written : ListOf.List ℕ
w_written = 119 ∷ 114 ∷ 105 ∷ 116 ∷ 116 ∷ 101 ∷ 110 ∷ []

-- `(tx TIME ID PEER SIZE PREHEADER ((BOX set|not)..) ((BOX VALUE fee|pay HEIGHT)..) VERDICT)`: what is left before the inputs, and the form
unfoldable pub tx_lists : Rest → Rest
tx_lists s = past number32 (past number64 (past (optional w_local) (past ids (past number64 s))))

unfoldable pub tx_of : ℕ → ℕ → Rest → Form
tx_of a b s =
    let s1 = past number64 s in
    let s2 = past ids s1 in
    let s3 = past (optional w_local) s2 in
    let s4 = past number64 s3 in
    let s5 = past number32 s4 in
    let s6 = past_items (item_of Inputs) a s5 in
    let s7 = past_items (item_of Outputs) b s6 in
    whole (past_verdict s7)
    (Tx (record {
      time = value number64 s;
      id = value ids s1;
      peer = value (optional w_local) s2;
      size = value number64 s3;
      preheader = value number32 s4;
      inputs = count_of (item_of Inputs) a (list_of s5);
      outputs = count_of (item_of Outputs) b (list_of s6);
      verdict = judged (list_of s7);
    }))

-- `(return ID FEE SIZE COST MEASURED CREATED CHECKED PEER (BOX..) ((BOX HEIGHT)..))`, MEASURED a number or `none`
unfoldable pub return_of : ℕ → ℕ → Rest → Form
return_of a b s =
    let s1 = past ids s in
    let s2 = past number64 s1 in
    let s3 = past number64 s2 in
    let s4 = past number32 s3 in
    let s5 = past (optional w_none) s4 in
    let s6 = past number64 s5 in
    let s7 = past number64 s6 in
    let s8 = past (optional w_local) s7 in
    let s9 = past_items (item_of Boxes) a s8 in
    whole (past_items (item_of Heights) b s9)
    (Return (record {
      id = value ids s;
      fee = value number64 s1;
      size = value number64 s2;
      cost = value number32 s3;
      measured = value (optional w_none) s4;
      created = value number64 s5;
      checked = value number64 s6;
      peer = value (optional w_local) s7;
      inputs = count_of (item_of Boxes) a (list_of s8);
      outputs = count_of (item_of Heights) b (list_of s9);
    }))

unfoldable pub return_lists : Rest → Rest
return_lists s = past (optional w_local) (past number64 (past number64 (past (optional w_none) (past number32 (past number64 (past number64 (past ids s)))))))

-- `(block TIME ((ID (BOX..))..))`
unfoldable pub block_of : ℕ → ℕ → Rest → Form
block_of a b s =
    let s1 = past number64 s in
    whole (past_block a b s1) (Block (record { time = value number64 s; transactions = txs_count a b (list_of s1); inputs = inputs_count a b (list_of s1) }))

-- `(answer (set|not ..) VERDICT)`
unfoldable pub answer_of : ℕ → Rest → Form
answer_of a s = let s1 = past_items (item_of Flags) a s in whole (past_verdict s1) (Answer (count_of (item_of Flags) a (list_of s)) (judged (list_of s1)))

-- `(rebroadcast (BOX..))`
unfoldable pub rebroadcast_of : ℕ → Rest → Form
rebroadcast_of a s = whole (past_items (item_of Boxes) a s) (Rebroadcast (count_of (item_of Boxes) a (list_of s)))

-- ---- by the first word

module _ (w : ListOf.List ℕ) (s : Rest) where
  unfoldable pub measure_of : Form
  measure_of =
      pick (same w w_fee) (fee_of s)
      (pick (same w w_wait) (wait_of s) (pick (same w w_histogram) (histogram_of s) (pick (same w w_charges) (plain_of Charges s) (pick (same w w_written) (plain_of Written s) Unread))))

  unfoldable pub query_of : Form
  query_of =
      pick (same w w_list) (plain_of List s)
      (pick (same w w_top) (top_of s) (pick (same w w_len) (plain_of Len s) (pick (same w w_contains) (contains_of s) (pick (same w w_spending) (spending_of s) measure_of))))

  unfoldable pub change_of : Form
  change_of =
      pick (same w w_pool) (pool_of s) (pick (same w w_invalidate) (invalidate_of s) (pick (same w w_open) (open_of s) (pick (same w w_next) (plain_of Next s) query_of)))

  unfoldable pub worded_of : ℕ → ℕ → Form
  worded_of a b =
      pick (same w w_tx) (tx_of a b s) (pick (same w w_return) (return_of a b s) (pick (same w w_block) (block_of a b s) (pick (same w w_answer) (answer_of a s) (pick (same w w_rebroadcast) (rebroadcast_of a s) change_of))))

-- THE SPECIFICATION: the form that a list's members are
unfoldable pub form_of : ℕ → ℕ → Members → Form
form_of a b m = worded_of (word_of (here m)) (past_word (here m)) a b

-- what a form's reader says of its answer, for whatever members are left behind the form's first word
unfoldable pub FormAt : (Rest → Form) → ListOf.List ℕ → Form → Type 0
FormAt of l r = (d : ℕ) (t : ListOf.List ℕ) (s : Rest) → Stands l d t false s → r ≡ of s

-- the same of a form that has lists: y and z are the slices u and v after it
pub record ListsAt (of : ℕ → ℕ → Rest → Form) (l : ListOf.List ℕ) (u y v z : ListOf.List ℕ) (first second : Rest → ListOf.List ℕ) (r : Form) : Type 0 where
  pub is : (t : ListOf.List ℕ) (s : Rest) → Stands l 7 t false s → r ≡ of (length u) (length v) s
  pub one : is_read r ≡ true → (t : ListOf.List ℕ) (s : Rest) → Stands l 7 t false s → y ≡ over 0 (first s) u
  pub two : is_read r ≡ true → (t : ListOf.List ℕ) (s : Rest) → Stands l 7 t false s → z ≡ over 0 (second s) v

-- the words of each form's lists
unfoldable pub tx_one : Rest → ListOf.List ℕ
tx_one s = words_in (item_of Inputs) (list_of (tx_lists s))

unfoldable pub tx_two : ℕ → Rest → ListOf.List ℕ
tx_two a s = words_in (item_of Outputs) (list_of (past_items (item_of Inputs) a (tx_lists s)))

unfoldable pub return_one : Rest → ListOf.List ℕ
return_one s = words_in (item_of Boxes) (list_of (return_lists s))

unfoldable pub return_two : ℕ → Rest → ListOf.List ℕ
return_two a s = words_in (item_of Heights) (list_of (past_items (item_of Boxes) a (return_lists s)))

unfoldable pub block_one : Rest → ListOf.List ℕ
block_one s = words_in transactions (list_of (past number64 s))

unfoldable pub block_two : Rest → ListOf.List ℕ
block_two s = inputs_in (list_of (past number64 s))

unfoldable pub answer_one : Rest → ListOf.List ℕ
answer_one s = words_in (item_of Flags) (list_of s)

unfoldable pub rebroadcast_one : Rest → ListOf.List ℕ
rebroadcast_one s = words_in (item_of Boxes) (list_of s)

-- by the first word w: the words in the first slice, and in the second
unfoldable pub one_of : ListOf.List ℕ → Rest → ListOf.List ℕ
one_of w s = pick (same w w_tx) (tx_one s) (pick (same w w_return) (return_one s) (pick (same w w_block) (block_one s) (pick (same w w_answer) (answer_one s) (pick (same w w_rebroadcast) (rebroadcast_one s) []))))

unfoldable pub two_of : ListOf.List ℕ → ℕ → Rest → ListOf.List ℕ
two_of w a s = pick (same w w_tx) (tx_two a s) (pick (same w w_return) (return_two a s) (pick (same w w_block) (block_two s) []))

abbrev pub worded : ListOf.List ℕ → ℕ → ℕ → Rest → Form
worded w a b s = worded_of w s a b

-- THE SPECIFICATION of a line's reader: the line l is read as r, and y and z are the slices u and v after it
pub record ReadAt (l u y v z : ListOf.List ℕ) (r : Form) : Type 0 where
  pub is : (m : Members) → Line m l → r ≡ form_of (length u) (length v) m
  pub unread : ((m : Members) → Line m l → ⊥) → r ≡ Unread
  pub one : is_read r ≡ true → (m : Members) → Line m l → y ≡ over 0 (one_of (word_of (here m)) (past_word (here m))) u
  pub two : is_read r ≡ true → (m : Members) → Line m l → z ≡ over 0 (two_of (word_of (here m)) (length u) (past_word (here m))) v

-- a form of one list
pub record AnswerAt (of : ℕ → Rest → Form) (l x y : ListOf.List ℕ) (first : Rest → ListOf.List ℕ) (r : Form) : Type 0 where
  pub is : (t : ListOf.List ℕ) (s : Rest) → Stands l 7 t false s → r ≡ of (length x) s
  pub one : is_read r ≡ true → (t : ListOf.List ℕ) (s : Rest) → Stands l 7 t false s → y ≡ over 0 (first s) x

-- on the edges: `(list)` is a form and `(list 0)` is none; `(top 08)` is `(top 8)`; of `(fee 4294967296 1)` the first number is beyond its field; a list of
-- lists has no first word
form-edges : (form_of 0 0 (word w_list none) ≡ List) × (form_of 0 0 (word w_list (word (48 ∷ []) none)) ≡ Unread) × (form_of 0 0 (word w_top (word (48 ∷ 56 ∷ []) none)) ≡ Top 8)
    × (form_of 0 0 (word w_fee (word (52 ∷ 50 ∷ 57 ∷ 52 ∷ 57 ∷ 54 ∷ 55 ∷ 50 ∷ 57 ∷ 54 ∷ []) (word (49 ∷ []) none))) ≡ Unread) × (form_of 0 0 (sub none none) ≡ Unread)
unfolding form_of worded_of change_of query_of measure_of plain_of top_of fee_of word_of past_word ended same value past numbers decimal is_digits more digit_of
form-edges = (refl, refl, refl, refl, refl)

-- the members `(a (1 2)) (c ())`
abbrev two : Members
two = sub (word (97 ∷ []) (sub (word (49 ∷ []) (word (50 ∷ []) none)) none)) (sub (word (99 ∷ []) (sub none none)) none)

-- `(block 50 ((a (1 2)) (c ())))` has 10 and 8 words; with room for 9 it is not read; `(block 50 ())` is a block without transactions; `((a b))` holds none
block-edges : (form_of 10 8 (word w_block (word (53 ∷ 48 ∷ []) (sub two none))) ≡ Block (record { time = 50; transactions = 10; inputs = 8 }))
    × (form_of 9 8 (word w_block (word (53 ∷ 48 ∷ []) (sub two none))) ≡ Unread) × (form_of 10 7 (word w_block (word (53 ∷ 48 ∷ []) (sub two none))) ≡ Unread)
    × (form_of 0 0 (word w_block (word (53 ∷ 48 ∷ []) (sub none none))) ≡ Block (record { time = 50; transactions = 0; inputs = 0 }))
    × (form_of 99 99 (word w_block (word (53 ∷ 48 ∷ []) (sub (sub (word (97 ∷ []) (word (98 ∷ []) none)) none) none))) ≡ Unread)
unfolding form_of worded_of block_of txs_count inputs_count past_block fits_block fits words_in words_of all_in all_ok inputs_in inputs_of transactions tx_words box_words is_tx box_list boxes count count_in list_of past_list word_of past_word ended same value past numbers ids decimal id_read is_hex is_digits more digit_of id_of_digits
block-edges = (refl, refl, refl, refl, refl)
