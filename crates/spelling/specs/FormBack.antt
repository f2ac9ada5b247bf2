-- THEOREM `read_back`: a readable form, tidied, is read as the same form with the same words of its lists.
use Rattle.std.specs.Prelude.{ℕ, ◌≡◌, refl, Bool, true, false, []}
use Rattle.std.proofs.Common.{sym, ap, ◌∙◌, subst}
use mathlib.Core.List as ListOf
use Rattle.words.specs.Lists.{pick}
use Rattle.pool_types.specs.declared.FeeStrategy.TheVariants.{FeePerByte, FeePerCycle}
use Rattle.words.specs.Sums.{cap}
use Rattle.forms.specs.Text.{Members, none, word, sub}
use Rattle.forms.specs.TextLaws.{by_bool, true-false}
use Rattle.forms.specs.Nums.{decimal, is_digits, digit_of}
use Rattle.lines.specs.declared.items.Records.TheVariants.{Boxes, Flags, Inputs, Heights, Outputs}
use Rattle.lines.specs.declared.read.Form.{Form}
use Rattle.lines.specs.declared.read.Form.TheVariants.{Pool, Tx, Return, Block, Invalidate, Open, Next, Answer, Rebroadcast, List, Top, Len, Contains, Spending, Fee, Wait, Histogram, Charges, Written}
use Rattle.lines.specs.Fields.{Rest, gone, here, word_of, past_word, list_of, ended, value, past, is_value, number64, number32, ids, same, optional, w_none, judged, past_verdict}
use Rattle.lines.specs.Items.{w_fee, item_of, words_in}
use Rattle.lines.specs.Blocks.{transactions, inputs_in, txs_count, inputs_count, past_block}
use Rattle.lines.specs.Forms.{is_read, whole, plain_of, invalidate_of, open_of, top_of, contains_of, spending_of, fee_of, wait_of, histogram_of, w_byte, w_cycle, strategies, pool_of, w_local, w_pool, w_tx, w_return, w_block, w_invalidate, w_open, w_next, w_answer, w_rebroadcast, w_list, w_top, w_len, w_contains, w_spending, w_wait, w_histogram, w_charges, w_written, tx_lists, tx_of, return_of, return_lists, block_of, answer_of, rebroadcast_of, measure_of, query_of, change_of, worded_of, form_of, tx_one, tx_two, return_one, return_two, block_one, block_two, answer_one, rebroadcast_one, one_of, two_of}
use Rattle.spelling.specs.Spelling.{lower, lowered, plain, tidied}
use Rattle.spelling.specs.ReadBack.{tidied_in, same_numbers, same-ids, same-either, same-optional, same_item, same_true, plain-none, Keeps, keeps-field, keeps-items, keeps-verdict, keeps-block}

-- what a line is read to: the form and the words of its two lists
pub record Out : Type 0 where
  pub form : Form
  pub one : ListOf.List ℕ
  pub two : ListOf.List ℕ

abbrev pub readable : Out → Bool
readable r = is_read r.form

abbrev pub out : Form → ListOf.List ℕ → ListOf.List ℕ → Out
out f u v = record { form = f; one = u; two = v }

keeps-whole : (f : Form) (u v : ListOf.List ℕ) → Keeps readable (λ s. out (whole s f) u v)
unfolding ended tidied_in tidied
keeps-whole f u v = record { off = refl; on = λ s e. go s }
  where
    go : (s : Rest) → out (whole (tidied_in s) f) u v ≡ out (whole s f) u v
    go gone = refl
    go (here none) = refl
    go (here (word w n)) = refl
    go (here (sub i n)) = refl

-- ---- fields of the forms

abbrev then64 : (R : ℕ → Rest → Out) → ((v : ℕ) → Keeps readable (R v)) → Keeps readable (λ s. R (value number64 s) (past number64 s))
then64 R r = keeps-field readable number64 (same_numbers cap) R r

abbrev then32 : (R : ℕ → Rest → Out) → ((v : ℕ) → Keeps readable (R v)) → Keeps readable (λ s. R (value number32 s) (past number32 s))
then32 R r = keeps-field readable number32 (same_numbers 4294967295) R r

-- ---- the forms without lists

keeps-plain : (f : Form) → Keeps readable (λ s. out (plain_of f s) [] [])
unfolding plain_of
keeps-plain f = keeps-whole f [] []

keeps-top : Keeps readable (λ s. out (top_of s) [] [])
unfolding top_of
keeps-top =
    keeps-field readable number64 (same_numbers cap) (λ v s. out (whole s (Top v)) [] []) (λ v. keeps-whole _ [] [])

keeps-spending : Keeps readable (λ s. out (spending_of s) [] [])
unfolding spending_of
keeps-spending =
    keeps-field readable ids same-ids (λ x s. out (whole s (Spending x)) [] []) (λ x. keeps-whole _ [] [])

keeps-invalidate : Keeps readable (λ s. out (invalidate_of s) [] [])
unfolding invalidate_of
keeps-invalidate =
    keeps-field readable number64 (same_numbers cap) _
    (λ v. keeps-field readable ids same-ids (λ x s. out (whole s (Invalidate v x)) [] []) (λ x. keeps-whole _ [] []))

keeps-contains : Keeps readable (λ s. out (contains_of s) [] [])
unfolding contains_of
keeps-contains =
    keeps-field readable number64 (same_numbers cap) _
    (λ v. keeps-field readable ids same-ids (λ x s. out (whole s (Contains v x)) [] []) (λ x. keeps-whole _ [] []))

keeps-fee : Keeps readable (λ s. out (fee_of s) [] [])
unfolding fee_of
keeps-fee =
    keeps-field readable number32 (same_numbers 4294967295) _
    (λ v. keeps-field readable number32 (same_numbers 4294967295) (λ x s. out (whole s (Fee v x)) [] []) (λ x. keeps-whole _ [] []))

keeps-open : Keeps readable (λ s. out (open_of s) [] [])
unfolding open_of
keeps-open =
    keeps-field readable number64 (same_numbers cap) _
    (λ v. keeps-field readable number64 (same_numbers cap) _
    (λ x. keeps-field readable number32 (same_numbers 4294967295) (λ y s. out (whole s (Open v x y)) [] []) (λ y. keeps-whole _ [] [])))

keeps-wait : Keeps readable (λ s. out (wait_of s) [] [])
unfolding wait_of
keeps-wait =
    keeps-field readable number64 (same_numbers cap) _
    (λ v. keeps-field readable number64 (same_numbers cap) _
    (λ x. keeps-field readable number32 (same_numbers 4294967295) (λ y s. out (whole s (Wait v x y)) [] []) (λ y. keeps-whole _ [] [])))

keeps-histogram : Keeps readable (λ s. out (histogram_of s) [] [])
unfolding histogram_of
keeps-histogram =
    keeps-field readable number64 (same_numbers cap) _
    (λ v. keeps-field readable number32 (same_numbers 4294967295) _
    (λ x. keeps-field readable number64 (same_numbers cap) (λ y s. out (whole s (Histogram v x y)) [] []) (λ y. keeps-whole _ [] [])))

plain_byte : plain w_byte ≡ w_byte
unfolding plain lowered lower
plain_byte = refl

plain-cycle : plain w_cycle ≡ w_cycle
unfolding plain lowered lower
plain-cycle = refl

keeps-pool : Keeps readable (λ s. out (pool_of s) [] [])
unfolding pool_of
keeps-pool =
    keeps-field readable number64 (same_numbers cap) _
    (λ a. keeps-field readable number64 (same_numbers cap) _
    (λ b. keeps-field readable strategies (same-either w_byte FeePerByte w_cycle FeePerCycle plain_byte plain-cycle) _
    (λ c. keeps-field readable number64 (same_numbers cap) _
    (λ d. keeps-field readable number64 (same_numbers cap) _
    (λ e. keeps-field readable number64 (same_numbers cap) _
    (λ f. keeps-field readable number64 (same_numbers cap) _
    (λ g. keeps-field readable number64 (same_numbers cap) _
    (λ h. keeps-field readable number64 (same_numbers cap) (λ i s. out (whole s (Pool (record { capacity = a; min_fee = b; strategy = c; interval = d; rebroadcast = e; ttl = f; cache = g; block_limit = h; peer_limit = i }))) [] []) (λ i. keeps-whole _ [] [])))))))))

-- ---- the forms with lists

plain_local : plain w_local ≡ w_local
unfolding plain lowered lower
plain_local = refl

no_number : is_value (decimal cap w_local) ≡ false
unfolding decimal is_digits digit_of
no_number = refl

no-number-2 : is_value (decimal cap w_none) ≡ false
unfolding decimal is_digits digit_of
no-number-2 = refl

module _ (a b : ℕ) where
  keeps-rebroadcast : Keeps readable (λ s. out (rebroadcast_of a s) (rebroadcast_one s) [])
  unfolding rebroadcast_of rebroadcast_one
  keeps-rebroadcast = keeps-items readable (item_of Boxes) (same_item Boxes) a (λ n w s. out (whole s (Rebroadcast n)) w []) (λ n w. keeps-whole (Rebroadcast n) w [])

  keeps-answer : Keeps readable (λ s. out (answer_of a s) (answer_one s) [])
  unfolding answer_of answer_one
  keeps-answer =
      keeps-items readable (item_of Flags) (same_item Flags) a (λ n w s. out (whole (past_verdict s) (Answer n (judged (list_of s)))) w [])
      (λ n w. keeps-verdict readable (λ v s. out (whole s (Answer n v)) w []) (λ v. keeps-whole (Answer n v) w []))

  keeps-blocks : Keeps readable (λ s. out (block_of a b s) (block_one s) (block_two s))
  unfolding block_of block_one block_two
  keeps-blocks =
      keeps-field readable number64 (same_numbers cap)
      (λ t s. out (whole (past_block a b s) (Block (record { time = t; transactions = txs_count a b (list_of s); inputs = inputs_count a b (list_of s) }))) (words_in transactions (list_of s)) (inputs_in (list_of s)))
      (λ t. keeps-block readable a b (λ n m u v s. out (whole s (Block (record { time = t; transactions = n; inputs = m }))) u v) (λ n m u v. keeps-whole _ u v))

  keeps-tx : Keeps readable (λ s. out (tx_of a b s) (tx_one s) (tx_two a s))
  unfolding tx_of tx_one tx_two tx_lists
  keeps-tx =
      keeps-field readable number64 (same_numbers cap) _
      (λ t. keeps-field readable ids same-ids _
      (λ x. keeps-field readable (optional w_local) (same-optional w_local plain_local no_number) _
      (λ p. keeps-field readable number64 (same_numbers cap) _
      (λ z. keeps-field readable number32 (same_numbers 4294967295) _
      (λ h. keeps-items readable (item_of Inputs) (same_item Inputs) a _
      (λ n u. keeps-items readable (item_of Outputs) (same_item Outputs) b _
      (λ m v. keeps-verdict readable (λ j s. out (whole s (Tx (record { time = t; id = x; peer = p; size = z; preheader = h; inputs = n; outputs = m; verdict = j }))) u v) (λ j. keeps-whole _ u v))))))))

  keeps-return : Keeps readable (λ s. out (return_of a b s) (return_one s) (return_two a s))
  unfolding return_of return_one return_two return_lists
  keeps-return =
      keeps-field readable ids same-ids _
      (λ x. keeps-field readable number64 (same_numbers cap) _
      (λ f. keeps-field readable number64 (same_numbers cap) _
      (λ z. keeps-field readable number32 (same_numbers 4294967295) _
      (λ c. keeps-field readable (optional w_none) (same-optional w_none plain-none no-number-2) _
      (λ e. keeps-field readable number64 (same_numbers cap) _
      (λ g. keeps-field readable number64 (same_numbers cap) _
      (λ h. keeps-field readable (optional w_local) (same-optional w_local plain_local no_number) _
      (λ p. keeps-items readable (item_of Boxes) (same_item Boxes) a _
      (λ n u. keeps-items readable (item_of Heights) (same_item Heights) b
      (λ m v s. out (whole s (Return (record { id = x; fee = f; size = z; cost = c; measured = e; created = g; checked = h; peer = p; inputs = n; outputs = m }))) u v) (λ m v. keeps-whole _ u v))))))))))

-- ---- by the first word

abbrev pub out_of : ℕ → ℕ → Members → Out
out_of a b m = out (form_of a b m) (one_of (word_of (here m)) (past_word (here m))) (two_of (word_of (here m)) a (past_word (here m)))

-- what holds of every first word of a form holds of the first word of one that is read
layer : (P : ListOf.List ℕ → Type 0) (w v : ListOf.List ℕ) (x y : Form) → P v → (is_read y ≡ true → P w) → is_read (pick (same w v) x y) ≡ true → P w
layer P w v x y p f e =
    by_bool (same w v) (λ t. subst P (sym (same_true w v t)) p) (λ t. f (sym (ap (λ (b : Bool). is_read (pick b x y)) t) ∙ e))

pub record Each (P : ListOf.List ℕ → Type 0) : Type 0 where
  pub tx : P w_tx
  pub return : P w_return
  pub block : P w_block
  pub answer : P w_answer
  pub rebroadcast : P w_rebroadcast
  pub pool : P w_pool
  pub invalidate : P w_invalidate
  pub «open» : P w_open
  pub next : P w_next
  pub list : P w_list
  pub top : P w_top
  pub len : P w_len
  pub contains : P w_contains
  pub spending : P w_spending
  pub fee : P w_fee
  pub wait : P w_wait
  pub histogram : P w_histogram
  pub charges : P w_charges
  pub written : P w_written

pub by_word : (P : ListOf.List ℕ → Type 0) → Each P → (a b : ℕ) (w : ListOf.List ℕ) (s : Rest) → is_read (worded_of w s a b) ≡ true → P w
unfolding worded_of change_of query_of measure_of
by_word P h a b w s =
    layer P w w_tx _ _ h.tx (layer P w w_return _ _ h.return (layer P w w_block _ _ h.block (layer P w w_answer _ _ h.answer (layer P w w_rebroadcast _ _ h.rebroadcast (layer P w w_pool _ _ h.pool (layer P w w_invalidate _ _ h.invalidate (layer P w w_open _ _ h.«open» (layer P w w_next _ _ h.next (layer P w w_list _ _ h.list (layer P w w_top _ _ h.top (layer P w w_len _ _ h.len (layer P w w_contains _ _ h.contains (layer P w w_spending _ _ h.spending (layer P w w_fee _ _ h.fee (layer P w w_wait _ _ h.wait (layer P w w_histogram _ _ h.histogram (layer P w w_charges _ _ h.charges (layer P w w_written _ _ h.written (λ e. true-false e refl)))))))))))))))))))

module _ (a b : ℕ) where
  abbrev Back : ListOf.List ℕ → Type 0
  Back w = (n : Members) → is_read (form_of a b (word w n)) ≡ true → out_of a b (word (plain w) (tidied n)) ≡ out_of a b (word w n)

  back-tx : Back w_tx
  unfolding form_of worded_of change_of query_of measure_of one_of two_of same word_of past_word plain lowered lower tidied_in
  back-tx n e = (keeps-tx a b).on (here n) e

  back-return : Back w_return
  unfolding form_of worded_of change_of query_of measure_of one_of two_of same word_of past_word plain lowered lower tidied_in
  back-return n e = (keeps-return a b).on (here n) e

  back-block : Back w_block
  unfolding form_of worded_of change_of query_of measure_of one_of two_of same word_of past_word plain lowered lower tidied_in
  back-block n e = (keeps-blocks a b).on (here n) e

  back-answer : Back w_answer
  unfolding form_of worded_of change_of query_of measure_of one_of two_of same word_of past_word plain lowered lower tidied_in
  back-answer n e = (keeps-answer a b).on (here n) e

  back-rebroadcast : Back w_rebroadcast
  unfolding form_of worded_of change_of query_of measure_of one_of two_of same word_of past_word plain lowered lower tidied_in
  back-rebroadcast n e = (keeps-rebroadcast a b).on (here n) e

  back-pool : Back w_pool
  unfolding form_of worded_of change_of query_of measure_of one_of two_of same word_of past_word plain lowered lower tidied_in
  back-pool n e = keeps-pool.on (here n) e

  back-invalidate : Back w_invalidate
  unfolding form_of worded_of change_of query_of measure_of one_of two_of same word_of past_word plain lowered lower tidied_in
  back-invalidate n e = keeps-invalidate.on (here n) e

  back-open : Back w_open
  unfolding form_of worded_of change_of query_of measure_of one_of two_of same word_of past_word plain lowered lower tidied_in
  back-open n e = keeps-open.on (here n) e

  back-next : Back w_next
  unfolding form_of worded_of change_of query_of measure_of one_of two_of same word_of past_word plain lowered lower tidied_in
  back-next n e = (keeps-plain Next).on (here n) e

  back-list : Back w_list
  unfolding form_of worded_of change_of query_of measure_of one_of two_of same word_of past_word plain lowered lower tidied_in
  back-list n e = (keeps-plain List).on (here n) e

  back-top : Back w_top
  unfolding form_of worded_of change_of query_of measure_of one_of two_of same word_of past_word plain lowered lower tidied_in
  back-top n e = keeps-top.on (here n) e

  back_len : Back w_len
  unfolding form_of worded_of change_of query_of measure_of one_of two_of same word_of past_word plain lowered lower tidied_in
  back_len n e = (keeps-plain Len).on (here n) e

  back-contains : Back w_contains
  unfolding form_of worded_of change_of query_of measure_of one_of two_of same word_of past_word plain lowered lower tidied_in
  back-contains n e = keeps-contains.on (here n) e

  back-spending : Back w_spending
  unfolding form_of worded_of change_of query_of measure_of one_of two_of same word_of past_word plain lowered lower tidied_in
  back-spending n e = keeps-spending.on (here n) e

  back-fee : Back w_fee
  unfolding form_of worded_of change_of query_of measure_of one_of two_of same word_of past_word plain lowered lower tidied_in
  back-fee n e = keeps-fee.on (here n) e

  back-wait : Back w_wait
  unfolding form_of worded_of change_of query_of measure_of one_of two_of same word_of past_word plain lowered lower tidied_in
  back-wait n e = keeps-wait.on (here n) e

  back-histogram : Back w_histogram
  unfolding form_of worded_of change_of query_of measure_of one_of two_of same word_of past_word plain lowered lower tidied_in
  back-histogram n e = keeps-histogram.on (here n) e

  back-charges : Back w_charges
  unfolding form_of worded_of change_of query_of measure_of one_of two_of same word_of past_word plain lowered lower tidied_in
  back-charges n e = (keeps-plain Charges).on (here n) e

  back-written : Back w_written
  unfolding form_of worded_of change_of query_of measure_of one_of two_of same word_of past_word plain lowered lower tidied_in
  back-written n e = (keeps-plain Written).on (here n) e

  back-each : Each Back
  back-each =
      record {
        tx = back-tx;
        return = back-return;
        block = back-block;
        answer = back-answer;
        rebroadcast = back-rebroadcast;
        pool = back-pool;
        invalidate = back-invalidate;
        «open» = back-open;
        next = back-next;
        list = back-list;
        top = back-top;
        len = back_len;
        contains = back-contains;
        spending = back-spending;
        fee = back-fee;
        wait = back-wait;
        histogram = back-histogram;
        charges = back-charges;
        written = back-written;
      }

-- THEOREM: a readable form, tidied, is the same form with the same words of its lists
pub read_back : (a b : ℕ) (m : Members) → is_read (form_of a b m) ≡ true → out_of a b (tidied m) ≡ out_of a b m
unfolding tidied form_of word_of past_word worded_of change_of query_of measure_of same
read_back a b none e = true-false e refl
read_back a b (sub i n) e = true-false e refl
read_back a b (word w n) e = by_word (Back a b) (back-each a b) a b w (here n) e n e
