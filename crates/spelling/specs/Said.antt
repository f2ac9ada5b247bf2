-- The spelling from the form (`spelled-said`): each form's members, its numbers and ids as poolrun prints them, and the records of its lists from their words. So
-- two readable lines that are the same form with equal members in order come out as the same bytes, and only they (`same_bytes`, Same).
use Rattle.std.specs.Prelude.{ℕ, zero, suc, ◌*◌, ◌/◌, ◌^◌, ◌<◌, ◌≡◌, Bool, [], ◌∷◌, ◌++◌, take, drop, get_or, eqb, leb, Option, Some, None}
use Rattle.std.proofs.Math.Path.{refl, sym, ap, ap₂}
use Rattle.std.proofs.Common.{◌∙◌, arith, take_at, drop_at}
use Rattle.std.proofs.Math.Bool.{true, false}
use mathlib.Core.List as ListOf
use Rattle.std.proofs.Math.ListN.{length}
use Rattle.words.specs.Lists.{pick}
use Rattle.words.specs.Sums.{cap}
use Rattle.words.specs.Ids.{id_words}
use Rattle.words.specs.declared.ids.Id.{Id}
use Rattle.forms.specs.Text.{Members, none, word, sub}
use Rattle.forms.specs.TextLaws.{by_bool, true-false}
use Rattle.forms.specs.Nums.{decimal, id_read, is_hex, id_of_digits, id_number, decimal_text, id_text}
use Rattle.forms.specs.NumLaws.{decimal-le}
use Rattle.pool_types.specs.declared.FeeStrategy.{FeeStrategy}
use Rattle.pool_types.specs.declared.FeeStrategy.TheVariants.{FeePerByte, FeePerCycle}
use Rattle.pool_types.specs.declared.Verdict.{Verdict}
use Rattle.pool_types.specs.declared.Verdict.TheVariants.{Valid, Invalid, Absent}
use Rattle.lines.specs.declared.items.Records.TheVariants.{Boxes, Flags, Inputs, Heights, Outputs}
use Rattle.lines.specs.declared.read.Form.{Form}
use Rattle.lines.specs.declared.read.Form.TheVariants.{Pool, Tx, Return, Block, Invalidate, Open, Next, Answer, Rebroadcast, List, Top, Len, Contains, Spending, Fee, Wait, Histogram, Charges, Written, Unread}
use Rattle.lines.specs.Fields.{Rest, gone, here, word_of, past_word, list_of, past_list, ended, Kind, value, past, value_or0, is_value, numbers, number64, number32, id_or0, is_of, ids, same, either, choices, optional, w_ok, w_bad, w_none, judged, is_judged, past_verdict}
use Rattle.lines.specs.Items.{Item, w_set, w_not, w_fee, w_pay, boxes, flags, input_words, is_input, inputs, height_words, is_height, heights, output_words, is_output, outputs, item_of, words_of, all_ok, words_in, all_in, fits, count_of, past_items, count, count_in}
use Rattle.lines.specs.ItemLaws.{past-gone, words-in-length}
use Rattle.lines.specs.Blocks.{box_list, tx_words, box_words, is_tx, transactions, inputs_of, inputs_in, fits_block, txs_count, inputs_count, past_block}
use Rattle.lines.specs.Forms.{is_read, whole, plain_of, invalidate_of, open_of, top_of, contains_of, spending_of, fee_of, wait_of, histogram_of, w_byte, w_cycle, strategies, pool_of, w_local, w_pool, w_tx, w_return, w_block, w_invalidate, w_open, w_next, w_answer, w_rebroadcast, w_list, w_top, w_len, w_contains, w_spending, w_wait, w_histogram, w_charges, w_written, tx_lists, tx_of, return_of, return_lists, block_of, answer_of, rebroadcast_of, measure_of, query_of, change_of, worded_of, form_of, tx_one, tx_two, return_one, return_two, block_one, block_two, answer_one, rebroadcast_one, one_of, two_of}
use Rattle.spelling.specs.Spelling.{lower, lowered, plain, tidied}
use Rattle.spelling.specs.Printed.{plain-number, plain-hex}
use Rattle.spelling.specs.ReadBack.{tidied_in, same_true, Seen}
use Rattle.spelling.specs.FormBack.{Out, out, out_of, readable, Each, by_word}

-- ---- THE DEFINITION

-- a number, an id, one of two words, a number or a word in its place
abbrev pub hex_text : Id → ListOf.List ℕ
hex_text x = id_text (id_number x)

abbrev pub choice_text : ListOf.List ℕ → ListOf.List ℕ → ℕ → ListOf.List ℕ
choice_text y n v = pick (eqb v 1) y n

abbrev pub strategy_text : FeeStrategy → ListOf.List ℕ
strategy_text FeePerByte = w_byte
strategy_text FeePerCycle = w_cycle

abbrev pub option_text : ListOf.List ℕ → Option ℕ → ListOf.List ℕ
option_text w (Some v) = decimal_text v
option_text w None = w

abbrev pub verdict_said : Verdict → Members
verdict_said (Valid c) = word w_ok (word (decimal_text c) none)
verdict_said Invalid = word w_bad none
verdict_said Absent = word w_none none

-- the records of a list: n of them, of w words each, and the member that f makes of a record
unfoldable pub items_said : (ListOf.List ℕ → Members → Members) → ℕ → ℕ → ListOf.List ℕ → Members
items_said f w zero l = none
items_said f w (suc n) l = f (take w l) (items_said f w n (drop w l))

abbrev pub id_in : ListOf.List ℕ → Id
id_in r = record { a = get_or r 0 0; b = get_or r 1 0; c = get_or r 2 0; d = get_or r 3 0 }

abbrev pub box_said : ListOf.List ℕ → Members → Members
box_said r m = word (hex_text (id_in r)) m

abbrev pub flag_said : ListOf.List ℕ → Members → Members
flag_said r m = word (choice_text w_set w_not (get_or r 0 0)) m

abbrev pub input_said : ListOf.List ℕ → Members → Members
input_said r m = sub (word (hex_text (id_in r)) (word (choice_text w_set w_not (get_or r 4 0)) none)) m

abbrev pub height_said : ListOf.List ℕ → Members → Members
height_said r m = sub (word (hex_text (id_in r)) (word (decimal_text (get_or r 4 0)) none)) m

abbrev pub output_said : ListOf.List ℕ → Members → Members
output_said r m = sub (word (hex_text (id_in r)) (word (decimal_text (get_or r 4 0)) (word (choice_text w_fee w_pay (get_or r 5 0)) (word (decimal_text (get_or r 6 0)) none)))) m

-- all records that the words l are
abbrev pub list_said : (ListOf.List ℕ → Members → Members) → ℕ → ListOf.List ℕ → Members
list_said f w l = items_said f w (length l / w) l

-- a block's transactions: n records, and the boxes of each behind one another
unfoldable pub txs_said : ℕ → ListOf.List ℕ → ListOf.List ℕ → Members
txs_said zero l b = none
txs_said (suc n) l b = sub (word (hex_text (id_in l)) (sub (items_said box_said 4 (get_or l 4 0) (take (get_or l 4 0 * 4) b)) none)) (txs_said n (drop 5 l) (drop (get_or l 4 0 * 4) b))

-- THE SPECIFICATION: the members of a form, whose lists have the words u and v
unfoldable pub said : Form → ListOf.List ℕ → ListOf.List ℕ → Members
said (Pool f) u v =
    word w_pool (word (decimal_text f.capacity) (word (decimal_text f.min_fee) (word (strategy_text f.strategy) (word (decimal_text f.interval) (word (decimal_text f.rebroadcast) (word (decimal_text f.ttl) (word (decimal_text f.cache) (word (decimal_text f.block_limit) (word (decimal_text f.peer_limit) none)))))))))
said (Tx f) u v =
    word w_tx (word (decimal_text f.time) (word (hex_text f.id) (word (option_text w_local f.peer) (word (decimal_text f.size) (word (decimal_text f.preheader) (sub (list_said input_said 5 u) (sub (list_said output_said 7 v) (sub (verdict_said f.verdict) none))))))))
said (Return f) u v =
    word w_return (word (hex_text f.id) (word (decimal_text f.fee) (word (decimal_text f.size) (word (decimal_text f.cost) (word (option_text w_none f.measured) (word (decimal_text f.created) (word (decimal_text f.checked) (word (option_text w_local f.peer) (sub (list_said box_said 4 u) (sub (list_said height_said 5 v) none))))))))))
said (Block f) u v = word w_block (word (decimal_text f.time) (sub (txs_said (length u / 5) u v) none))
said (Invalidate t x) u v = word w_invalidate (word (decimal_text t) (word (hex_text x) none))
said (Open t l p) u v = word w_open (word (decimal_text t) (word (decimal_text l) (word (decimal_text p) none)))
said Next u v = word w_next none
said (Answer n j) u v = word w_answer (sub (list_said flag_said 1 u) (sub (verdict_said j) none))
said (Rebroadcast n) u v = word w_rebroadcast (sub (list_said box_said 4 u) none)
said List u v = word w_list none
said (Top n) u v = word w_top (word (decimal_text n) none)
said Len u v = word w_len none
said (Contains t x) u v = word w_contains (word (decimal_text t) (word (hex_text x) none))
said (Spending x) u v = word w_spending (word (hex_text x) none)
said (Fee m z) u v = word w_fee (word (decimal_text m) (word (decimal_text z) none))
said (Wait t f z) u v = word w_wait (word (decimal_text t) (word (decimal_text f) (word (decimal_text z) none)))
said (Histogram t b l) u v = word w_histogram (word (decimal_text t) (word (decimal_text b) (word (decimal_text l) none)))
said Charges u v = word w_charges none
said Written u v = word w_written none
said Unread u v = none

-- ---- the kinds of fields

-- a word that may stand there is spelled as what it stands for is printed
record Says {A : Type 0} (k : Kind A) (t : A → ListOf.List ℕ) : Type 0 where
  pub on : (w : ListOf.List ℕ) → k.ok w ≡ true → plain w ≡ t (k.of w)

says-numbers : (limit : ℕ) → limit < 10 ^ 20 → Says (numbers limit) decimal_text
unfolding numbers
says-numbers limit h = record { on = λ w e. go w (decimal limit w) refl e }
  where
    go : (w : ListOf.List ℕ) (n : Option ℕ) → decimal limit w ≡ n → is_value n ≡ true → plain w ≡ decimal_text (value_or0 (decimal limit w))
    go w (Some v) q e = plain-number limit w v q (let l = decimal-le limit w v q in omega arith) ∙ ap (λ (z : Option ℕ). decimal_text (value_or0 z)) (sym q)
    go w None q e = true-false e refl

says-64 : Says number64 decimal_text
says-64 = says-numbers cap (omega arith)

says-32 : Says number32 decimal_text
says-32 = says-numbers 4294967295 (omega arith)

says-ids : Says ids hex_text
unfolding ids id_read
says-ids = record { on = λ w e. go w (is_hex w) refl e }
  where
    go : (w : ListOf.List ℕ) (b : Bool) → is_hex w ≡ b → is_of (pick b (Some (id_of_digits w)) None) ≡ true → plain w ≡ hex_text (id_or0 (pick b (Some (id_of_digits w)) None))
    go w true q e = plain-hex w q
    go w false q e = true-false e refl

says-either : {A : Type 0} (y : ListOf.List ℕ) (a : A) (n : ListOf.List ℕ) (b : A) (t : A → ListOf.List ℕ) → plain y ≡ t a → plain n ≡ t b → Says (either y a n b) t
unfolding either
says-either y a n b t p q = record { on = λ w e. go w (same w y) refl e }
  where
    go : (w : ListOf.List ℕ) (c : Bool) → same w y ≡ c → pick c true (same w n) ≡ true → plain w ≡ t (pick c a b)
    go w true r e = ap plain (same_true w y r) ∙ p
    go w false r e = ap plain (same_true w n e) ∙ q

says-choices : (y n : ListOf.List ℕ) → plain y ≡ y → plain n ≡ n → Says (choices y n) (choice_text y n)
says-choices y n p q = says-either y 1 n 0 (choice_text y n) p q

number_is : (w : ListOf.List ℕ) → is_value (decimal cap w) ≡ true → plain w ≡ decimal_text (value_or0 (decimal cap w))
unfolding numbers
number_is w e = says-64.on w e

says-optional : (v : ListOf.List ℕ) → plain v ≡ v → Says (optional v) (option_text v)
unfolding optional
says-optional v p = record { on = λ w e. go w (same w v) refl e }
  where
    go : (w : ListOf.List ℕ) (b : Bool) → same w v ≡ b → pick b true (is_value (decimal cap w)) ≡ true → plain w ≡ option_text v (pick b None (Some (value_or0 (decimal cap w))))
    go w true r e = ap plain (same_true w v r) ∙ p
    go w false r e = number_is w e

-- ---- what is read from the members behind one another

-- a reader R of what is left: if it can be read, it is spelled as C says
record Tells {X : Type 0} (rd : X → Bool) (R : Rest → X) (C : Rest → Members) : Type 0 where
  pub off : rd (R gone) ≡ false
  pub on : (s : Rest) → rd (R s) ≡ true → tidied_in s ≡ here (C s)

here-is : {m n : Members} → here m ≡ here n → m ≡ n
here-is e = cc

module _ {X : Type 0} (rd : X → Bool) where
  tells-field : {A : Type 0} (k : Kind A) (t : A → ListOf.List ℕ) → Says k t → (R : A → Rest → X) (C : A → Rest → Members) → ((v : A) → Tells rd (R v) (C v))
      → Tells rd (λ s. R (value k s) (past k s)) (λ s. word (t (value k s)) (C (value k s) (past k s)))
  unfolding tidied_in tidied past value word_of past_word
  tells-field k t h R C r = record { off = at-gone gone refl; on = go }
    where
      lost : (b : Bool) → pick b gone gone ≡ gone
      lost true = refl
      lost false = refl

      at-gone : (s : Rest) → word_of s ≡ [] → rd (R (k.of []) (pick (k.ok []) gone gone)) ≡ false
      at-gone s e = ap (λ (z : Rest). rd (R (k.of []) z)) (lost (k.ok [])) ∙ (r (k.of [])).off

      go : (s : Rest) → rd (R (value k s) (past k s)) ≡ true → tidied_in s ≡ here (word (t (value k s)) (C (value k s) (past k s)))
      go gone e = true-false e (at-gone gone refl)
      go (here none) e = true-false e (at-gone gone refl)
      go (here (sub i n)) e = true-false e (at-gone gone refl)
      go (here (word w n)) e =
          by_bool (k.ok w)
          (λ q. let f = (r (k.of w)).on (pick (k.ok w) (here n) gone) e in
          ap here (ap₂ word (h.on w q) (here-is (sym (ap (λ (b : Bool). tidied_in (pick b (here n) gone)) q) ∙ f))))
          (λ q. true-false e (ap (λ (b : Bool). rd (R (k.of w) (pick b (here n) gone))) q ∙ (r (k.of w)).off))

tells-end : {A : Type 0} (x : A) → Tells (λ (z : Seen A). z.ok) (λ s. record { what = x; ok = ended s }) (λ s. none)
unfolding ended tidied_in tidied
tells-end x = record { off = refl; on = go }
  where
    go : (s : Rest) → ended s ≡ true → tidied_in s ≡ here none
    go gone e = true-false e refl
    go (here none) e = refl
    go (here (word w n)) e = true-false e refl
    go (here (sub i n)) e = true-false e refl

tells-whole : (f : Form) (u v : ListOf.List ℕ) → Tells readable (λ s. out (whole s f) u v) (λ s. none)
unfolding ended tidied_in tidied
tells-whole f u v = record { off = refl; on = go }
  where
    go : (s : Rest) → is_read (whole s f) ≡ true → tidied_in s ≡ here none
    go gone e = true-false e refl
    go (here none) e = refl
    go (here (word w n)) e = true-false e refl
    go (here (sub i n)) e = true-false e refl

-- ---- keywords

kept_set : plain w_set ≡ w_set
unfolding plain lowered lower
kept_set = refl

kept-not : plain w_not ≡ w_not
unfolding plain lowered lower
kept-not = refl

kept-fee : plain w_fee ≡ w_fee
unfolding plain lowered lower
kept-fee = refl

kept-pay : plain w_pay ≡ w_pay
unfolding plain lowered lower
kept-pay = refl

kept-ok : plain w_ok ≡ w_ok
unfolding plain lowered lower
kept-ok = refl

kept-bad : plain w_bad ≡ w_bad
unfolding plain lowered lower
kept-bad = refl

kept-none : plain w_none ≡ w_none
unfolding plain lowered lower
kept-none = refl

kept-local : plain w_local ≡ w_local
unfolding plain lowered lower
kept-local = refl

kept_byte : plain w_byte ≡ w_byte
unfolding plain lowered lower
kept_byte = refl

kept-cycle : plain w_cycle ≡ w_cycle
unfolding plain lowered lower
kept-cycle = refl

says-strategies : Says strategies strategy_text
says-strategies = says-either w_byte FeePerByte w_cycle FeePerCycle strategy_text kept_byte kept-cycle

-- ---- records

abbrev seen_ok : Seen (ListOf.List ℕ) → Bool
seen_ok z = z.ok

tells-input : Tells seen_ok (λ i. record { what = input_words i; ok = is_input i }) (λ i. word (hex_text (value ids i)) (word (choice_text w_set w_not (value (choices w_set w_not) (past ids i))) none))
unfolding input_words is_input
tells-input =
    tells-field seen_ok ids hex_text says-ids _ _
    (λ x. tells-field seen_ok (choices w_set w_not) (choice_text w_set w_not) (says-choices w_set w_not kept_set kept-not) (λ v i. record { what = id_words x ++ (v ∷ []); ok = ended i }) (λ v i. none) (λ v. tells-end (id_words x ++ (v ∷ []))))

tells-height : Tells seen_ok (λ i. record { what = height_words i; ok = is_height i }) (λ i. word (hex_text (value ids i)) (word (decimal_text (value number32 (past ids i))) none))
unfolding height_words is_height
tells-height =
    tells-field seen_ok ids hex_text says-ids _ _
    (λ x. tells-field seen_ok number32 decimal_text says-32 (λ v i. record { what = id_words x ++ (v ∷ []); ok = ended i }) (λ v i. none) (λ v. tells-end (id_words x ++ (v ∷ []))))

tells-output : Tells seen_ok (λ i. record { what = output_words i; ok = is_output i })
    (λ i. let i1 = past ids i in let i2 = past number64 i1 in word (hex_text (value ids i)) (word (decimal_text (value number64 i1)) (word (choice_text w_fee w_pay (value (choices w_fee w_pay) i2)) (word (decimal_text (value number32 (past (choices w_fee w_pay) i2))) none))))
unfolding output_words is_output
tells-output =
    tells-field seen_ok ids hex_text says-ids _ _
    (λ x. tells-field seen_ok number64 decimal_text says-64 _ _
    (λ v. tells-field seen_ok (choices w_fee w_pay) (choice_text w_fee w_pay) (says-choices w_fee w_pay kept-fee kept-pay) _ _
    (λ u. tells-field seen_ok number32 decimal_text says-32 (λ t i. record { what = id_words x ++ (v ∷ u ∷ t ∷ []); ok = ended i }) (λ t i. none) (λ t. tells-end (id_words x ++ (v ∷ u ∷ t ∷ []))))))

-- a member that is a record is spelled as its words say
record SaysItem (it : Item) (f : ListOf.List ℕ → Members → Members) : Type 0 where
  pub on_word : (w : ListOf.List ℕ) (n r : Members) → it.ok (here (word w n)) ≡ true → word (plain w) r ≡ f (it.of (here (word w n))) r
  pub on-sub : (i n r : Members) → it.ok (here (sub i n)) ≡ true → sub (tidied i) r ≡ f (it.of (here (sub i n))) r

no-id : ids.ok [] ≡ false
unfolding ids id_read is_hex
no-id = refl

no_flag : (choices w_set w_not).ok [] ≡ false
unfolding either same
no_flag = refl

says-boxes : SaysItem boxes box_said
unfolding boxes value word_of
says-boxes = record { on_word = λ w n r e. ap (λ (z : ListOf.List ℕ). word z r) (says-ids.on w e); on-sub = λ i n r e. true-false e no-id }

says-flags : SaysItem flags flag_said
unfolding flags value word_of
says-flags = record { on_word = λ w n r e. ap (λ (z : ListOf.List ℕ). word z r) ((says-choices w_set w_not kept_set kept-not).on w e); on-sub = λ i n r e. true-false e no_flag }

says-inputs : SaysItem inputs input_said
unfolding inputs input_words list_of tidied_in
says-inputs = record { on_word = λ w n r e. true-false e tells-input.off; on-sub = λ i n r e. ap (λ (z : Members). sub z r) (here-is (tells-input.on (here i) e)) }

says-heights : SaysItem heights height_said
unfolding heights height_words list_of tidied_in
says-heights = record { on_word = λ w n r e. true-false e tells-height.off; on-sub = λ i n r e. ap (λ (z : Members). sub z r) (here-is (tells-height.on (here i) e)) }

says-outputs : SaysItem outputs output_said
unfolding outputs output_words list_of tidied_in
says-outputs = record { on_word = λ w n r e. true-false e tells-output.off; on-sub = λ i n r e. ap (λ (z : Members). sub z r) (here-is (tells-output.on (here i) e)) }

-- ---- lists of records

module _ (it : Item) (f : ListOf.List ℕ → Members → Members) (h : SaysItem it f) where
  one_more : (s : Rest) (n : ℕ) (ws : ListOf.List ℕ) → f (it.of s) (items_said f it.width n ws) ≡ items_said f it.width (suc n) (it.of s ++ ws)
  unfolding items_said
  one_more s n ws =
      sym (ap₂ (λ (x y : ListOf.List ℕ). f x (items_said f it.width n y)) (take_at (it.of s) ws it.width (it.wide s)) (drop_at (it.of s) ws it.width (it.wide s)))

  all_said : (m : Members) → all_ok it m ≡ true → tidied m ≡ items_said f it.width (count m) (words_of it m)
  unfolding all_ok words_of tidied count items_said
  all_said none e = refl
  all_said (word w n) e =
      by_bool (it.ok (here (word w n)))
      (λ q. h.on_word w n (tidied n) q ∙ ap (f (it.of (here (word w n)))) (all_said n (sym (ap (λ (b : Bool). pick b (all_ok it n) false) q) ∙ e)) ∙ one_more (here (word w n)) (count n) (words_of it n))
      (λ q. true-false e (ap (λ (b : Bool). pick b (all_ok it n) false) q))
  all_said (sub i n) e =
      by_bool (it.ok (here (sub i n)))
      (λ q. h.on-sub i n (tidied n) q ∙ ap (f (it.of (here (sub i n)))) (all_said n (sym (ap (λ (b : Bool). pick b (all_ok it n) false) q) ∙ e)) ∙ one_more (here (sub i n)) (count n) (words_of it n))
      (λ q. true-false e (ap (λ (b : Bool). pick b (all_ok it n) false) q))

fits_all : (it : Item) (room : ℕ) (s : Rest) → fits it room s ≡ true → all_in it s ≡ true
unfolding fits
fits_all it room s e = by_bool (all_in it s) (λ t. t) (λ t. true-false e (ap (λ (b : Bool). pick b (leb (length (words_in it s)) room) false) t))

-- its number of records is told from its words
module _ {X : Type 0} (rd : X → Bool) (it : Item) (f : ListOf.List ℕ → Members → Members) (h : SaysItem it f) (w : ℕ) (width : it.width ≡ w) (div : (n : ℕ) → (n * w) / w ≡ n) where
  list-said : (i : Members) → all_ok it i ≡ true → tidied i ≡ list_said f w (words_of it i)
  unfolding words_in count_in
  list-said i e =
      let c : count i ≡ length (words_of it i) / w = sym (div (count i)) ∙ ap (λ (z : ℕ). z / w) (sym (words-in-length it (here i) ∙ ap (λ (z : ℕ). count i * z) width)) in
      all_said it f h i e ∙ ap₂ (λ (a b : ℕ). items_said f a b (words_of it i)) width c

  tells-items : (room : ℕ) (R : ℕ → ListOf.List ℕ → Rest → X) (C : ℕ → ListOf.List ℕ → Rest → Members) → ((n : ℕ) (u : ListOf.List ℕ) → Tells rd (R n u) (C n u))
      → Tells rd (λ s. R (count_of it room (list_of s)) (words_in it (list_of s)) (past_items it room s)) (λ s. sub (list_said f w (words_in it (list_of s))) (C (count_of it room (list_of s)) (words_in it (list_of s)) (past_items it room s)))
  unfolding past_items list_of past_list tidied_in tidied words_in all_in fits
  tells-items room R C r = record { off = (r _ _).off; on = go }
    where
      go : (s : Rest) → rd (R (count_of it room (list_of s)) (words_in it (list_of s)) (past_items it room s)) ≡ true
          → tidied_in s ≡ here (sub (list_said f w (words_in it (list_of s))) (C (count_of it room (list_of s)) (words_in it (list_of s)) (past_items it room s)))
      go gone e = true-false e (r _ _).off
      go (here none) e = true-false e (r _ _).off
      go (here (word x n)) e = true-false e (r _ _).off
      go (here (sub i n)) e =
          by_bool (fits it room (here i))
          (λ q. let g = (r (count_of it room (here i)) (words_of it i)).on (pick (fits it room (here i)) (here n) gone) e in
          ap here (ap₂ sub (list-said i (fits_all it room (here i) q)) (here-is (sym (ap (λ (b : Bool). tidied_in (pick b (here n) gone)) q) ∙ g))))
          (λ q. true-false e (ap (λ (b : Bool). rd (R (count_of it room (here i)) (words_of it i) (pick b (here n) gone))) q ∙ (r _ _).off))

-- ---- a verdict

judged-said : (w : ListOf.List ℕ) (n : Members) → is_judged (here (word w n)) ≡ true → word (plain w) (tidied n) ≡ verdict_said (judged (here (word w n)))
unfolding is_judged judged word_of past_word tidied_in
judged-said w n e = go (same w w_ok) refl (same w w_bad) refl (same w w_none) refl e
  where
    go : (a : Bool) → same w w_ok ≡ a → (b : Bool) → same w w_bad ≡ b → (c : Bool) → same w w_none ≡ c
        → pick a (ended (past number64 (here n))) (pick b (ended (here n)) (pick c (ended (here n)) false)) ≡ true
        → word (plain w) (tidied n) ≡ verdict_said (pick a (Valid (value number64 (here n))) (pick b Invalid Absent))
    go true p b q c r f =
        ap₂ word (ap plain (same_true w w_ok p) ∙ kept-ok)
        (here-is ((tells-field (λ (z : Seen Verdict). z.ok) number64 decimal_text says-64 (λ v i. record { what = Valid v; ok = ended i }) (λ v i. none) (λ v. tells-end (Valid v))).on (here n) f))
    go false p true q c r f = ap₂ word (ap plain (same_true w w_bad q) ∙ kept-bad) (here-is ((tells-end Invalid).on (here n) f))
    go false p false q true r f = ap₂ word (ap plain (same_true w w_none r) ∙ kept-none) (here-is ((tells-end Absent).on (here n) f))
    go false p false q false r f = true-false f refl

verdict-in : (i : Rest) → is_judged i ≡ true → tidied_in i ≡ here (verdict_said (judged i))
unfolding tidied_in tidied is_judged word_of same
verdict-in gone e = true-false e refl
verdict-in (here none) e = true-false e refl
verdict-in (here (word w n)) e = ap here (judged-said w n e)
verdict-in (here (sub i n)) e = true-false e refl

not-judged : is_judged gone ≡ false
unfolding is_judged word_of same
not-judged = refl

module _ {X : Type 0} (rd : X → Bool) where
  tells-verdict : (R : Verdict → Rest → X) (C : Verdict → Rest → Members) → ((v : Verdict) → Tells rd (R v) (C v))
      → Tells rd (λ s. R (judged (list_of s)) (past_verdict s)) (λ s. sub (verdict_said (judged (list_of s))) (C (judged (list_of s)) (past_verdict s)))
  unfolding past_verdict list_of past_list tidied_in tidied
  tells-verdict R C r = record { off = ap (λ (b : Bool). rd (R (judged gone) (pick b gone gone))) not-judged ∙ (r _).off; on = go }
    where
      go : (s : Rest) → rd (R (judged (list_of s)) (past_verdict s)) ≡ true → tidied_in s ≡ here (sub (verdict_said (judged (list_of s))) (C (judged (list_of s)) (past_verdict s)))
      go gone e = true-false e (ap (λ (b : Bool). rd (R (judged gone) (pick b gone gone))) not-judged ∙ (r _).off)
      go (here none) e = true-false e (ap (λ (b : Bool). rd (R (judged gone) (pick b gone gone))) not-judged ∙ (r _).off)
      go (here (word x n)) e = true-false e (ap (λ (b : Bool). rd (R (judged gone) (pick b gone gone))) not-judged ∙ (r _).off)
      go (here (sub i n)) e =
          by_bool (is_judged (here i))
          (λ q. let g = (r (judged (here i))).on (pick (is_judged (here i)) (here n) gone) e in
          ap here (ap₂ sub (here-is (verdict-in (here i) q)) (here-is (sym (ap (λ (b : Bool). tidied_in (pick b (here n) gone)) q) ∙ g))))
          (λ q. true-false e (ap (λ (b : Bool). rd (R (judged (here i)) (pick b (here n) gone))) q ∙ (r _).off))

-- ---- a block's transactions

no-here : {A : Type 0} {n : Members} (b : Bool) → pick b gone gone ≡ here n → A
no-here true q = absurd (let z : ◌≡◌ {A = ℕ} 0 1 = cc in omega arith)
no-here false q = absurd (let z : ◌≡◌ {A = ℕ} 0 1 = cc in omega arith)

never : (b : Bool) → pick b false false ≡ false
never true = refl
never false = refl

-- one: its id and the list of its boxes
-- behind its id
front-said : (i n : Members) → past ids (here i) ≡ here n → tidied i ≡ word (hex_text (value ids (here i))) (tidied n)
unfolding past value word_of past_word tidied
front-said none n q = no-here (ids.ok []) q
front-said (sub j m) n q = no-here (ids.ok []) q
front-said (word w m) n q =
    by_bool (ids.ok w)
    (λ t. ap₂ word (says-ids.on w t) (ap tidied (here-is (sym (ap (λ (b : Bool). pick b (here m) gone) t) ∙ q))))
    (λ t. no-here true (sym (ap (λ (b : Bool). pick b (here m) gone) t) ∙ q))

-- a list of boxes, and no more
inside : (p : Rest) → pick (all_in boxes (list_of p)) (ended (past_list p)) false ≡ true
    → (n : Members) × (p ≡ here n) × (tidied n ≡ sub (items_said box_said 4 (count_in (list_of p)) (words_in boxes (list_of p))) none)
unfolding all_in list_of past_list ended tidied count_in words_in boxes
inside gone f = true-false f refl
inside (here none) f = true-false f refl
inside (here (word w n)) f = true-false f refl
inside (here (sub b none)) f =
    by_bool (all_ok boxes b) (λ t. (sub b none, refl, ap (λ (z : Members). sub z none) (all_said boxes box_said says-boxes b t))) (λ t. true-false f (ap (λ (z : Bool). pick z true false) t))
inside (here (sub b (word w n))) f = true-false f (never (all_ok boxes b))
inside (here (sub b (sub i n))) f = true-false f (never (all_ok boxes b))

tx-said : (i : Members) → is_tx (here i) ≡ true
    → tidied i ≡ word (hex_text (value ids (here i))) (sub (items_said box_said 4 (count_in (box_list (here i))) (box_words (here i))) none)
unfolding is_tx box_list box_words
tx-said i e = go (past ids (here i)) refl e
  where
    front : (i : Members) (n : Members) → past ids (here i) ≡ here n → tidied i ≡ word (hex_text (value ids (here i))) (tidied n)
    front i n q = front-said i n q

    go : (p : Rest) → past ids (here i) ≡ p → pick (all_in boxes (list_of p)) (ended (past_list p)) false ≡ true
        → tidied i ≡ word (hex_text (value ids (here i))) (sub (items_said box_said 4 (count_in (list_of p)) (words_in boxes (list_of p))) none)
    go p q f = front i (inside p f).0 (q ∙ (inside p f).1) ∙ ap (word (hex_text (value ids (here i)))) (inside p f).2

box-length : (s : Rest) → length (words_in boxes s) ≡ count_in s * 4
unfolding boxes
box-length s = words-in-length boxes s

not-tx : is_tx gone ≡ false
unfolding is_tx box_list all_in list_of
not-tx = ap (λ (z : Rest). pick (all_in boxes (list_of z)) (ended (past_list z)) false) (past-gone ids)

tx-count : (i : Members) → count i ≡ length (words_of transactions i) / 5
unfolding transactions words_in count_in
tx-count i = omega (arith, words-in-length transactions (here i))

-- the words of one behind those of the others
tx-next : (i n : Members) (k : ℕ) (us vs : ListOf.List ℕ) → is_tx (here i) ≡ true
    → sub (tidied i) (txs_said k us vs) ≡ txs_said (suc k) (tx_words (here i) ++ us) (box_words (here i) ++ vs)
unfolding txs_said tx_words box_words box_list
tx-next i n k us vs e =
    let b = words_in boxes (list_of (past ids (here i))) in
    let c = count_in (list_of (past ids (here i))) in
    let l : length b ≡ c * 4 = box-length (list_of (past ids (here i))) in
    ap₂ (λ (x : Members) (y : ListOf.List ℕ). sub x (txs_said k us y)) (tx-said i e ∙ ap (λ (z : ListOf.List ℕ). word (hex_text (value ids (here i))) (sub (items_said box_said 4 c z) none)) (sym (take_at b vs (c * 4) l))) (sym (drop_at b vs (c * 4) l))

txs-said : (m : Members) → all_ok transactions m ≡ true → tidied m ≡ txs_said (count m) (words_of transactions m) (inputs_of m)
unfolding all_ok transactions words_of inputs_of tidied count txs_said list_of
txs-said none e = refl
txs-said (word w n) e = true-false e (ap (λ (b : Bool). pick b (all_ok transactions n) false) not-tx)
txs-said (sub i n) e =
    by_bool (is_tx (here i))
    (λ q. ap (sub (tidied i)) (txs-said n (sym (ap (λ (b : Bool). pick b (all_ok transactions n) false) q) ∙ e)) ∙ tx-next i n (count n) (words_of transactions n) (inputs_of n) q)
    (λ q. true-false e (ap (λ (b : Bool). pick b (all_ok transactions n) false) q))

block-fits : (a b : ℕ) (s : Rest) → fits_block a b s ≡ true → all_in transactions s ≡ true
unfolding fits_block
block-fits a b s e = by_bool (fits transactions a s) (λ t. fits_all transactions a s t) (λ t. true-false e (ap (λ (c : Bool). pick c (leb (length (inputs_in s)) b) false) t))

block-said : (i : Members) → all_ok transactions i ≡ true → tidied i ≡ txs_said (length (words_of transactions i) / 5) (words_of transactions i) (inputs_of i)
block-said i e = txs-said i e ∙ ap (λ (n : ℕ). txs_said n (words_of transactions i) (inputs_of i)) (tx-count i)

module _ {X : Type 0} (rd : X → Bool) (a b : ℕ) where
  tells-block : (R : ℕ → ℕ → ListOf.List ℕ → ListOf.List ℕ → Rest → X) (C : ℕ → ℕ → ListOf.List ℕ → ListOf.List ℕ → Rest → Members) → ((n m : ℕ) (u v : ListOf.List ℕ) → Tells rd (R n m u v) (C n m u v))
      → Tells rd (λ s. R (txs_count a b (list_of s)) (inputs_count a b (list_of s)) (words_in transactions (list_of s)) (inputs_in (list_of s)) (past_block a b s))
      (λ s. sub (txs_said (length (words_in transactions (list_of s)) / 5) (words_in transactions (list_of s)) (inputs_in (list_of s))) (C (txs_count a b (list_of s)) (inputs_count a b (list_of s)) (words_in transactions (list_of s)) (inputs_in (list_of s)) (past_block a b s)))
  unfolding past_block list_of past_list tidied_in tidied words_in inputs_in all_in fits fits_block
  tells-block R C r = record { off = (r _ _ _ _).off; on = go }
    where
      go : (s : Rest) → rd (R (txs_count a b (list_of s)) (inputs_count a b (list_of s)) (words_in transactions (list_of s)) (inputs_in (list_of s)) (past_block a b s)) ≡ true
          → tidied_in s ≡ here (sub (txs_said (length (words_in transactions (list_of s)) / 5) (words_in transactions (list_of s)) (inputs_in (list_of s))) (C (txs_count a b (list_of s)) (inputs_count a b (list_of s)) (words_in transactions (list_of s)) (inputs_in (list_of s)) (past_block a b s)))
      go gone e = true-false e (r _ _ _ _).off
      go (here none) e = true-false e (r _ _ _ _).off
      go (here (word x n)) e = true-false e (r _ _ _ _).off
      go (here (sub i n)) e =
          by_bool (fits_block a b (here i))
          (λ q. let g = (r _ _ (words_of transactions i) (inputs_of i)).on (pick (fits_block a b (here i)) (here n) gone) e in
          ap here (ap₂ sub (block-said i (block-fits a b (here i) q)) (here-is (sym (ap (λ (c : Bool). tidied_in (pick c (here n) gone)) q) ∙ g))))
          (λ q. true-false e (ap (λ (c : Bool). rd (R (txs_count a b (here i)) (inputs_count a b (here i)) (words_of transactions i) (inputs_of i) (pick c (here n) gone))) q ∙ (r _ _ _ _).off))

-- ---- the forms

tells-plain : (f : Form) → Tells readable (λ s. out (plain_of f s) [] []) (λ s. none)
unfolding plain_of
tells-plain f = tells-whole f [] []

tells-top : Tells readable (λ s. out (top_of s) [] []) (λ s. word (decimal_text (value number64 s)) none)
unfolding top_of
tells-top =
    tells-field readable number64 decimal_text says-64 (λ v s. out (whole s (Top v)) [] []) (λ v s. none) (λ v. tells-whole _ [] [])

tells-spending : Tells readable (λ s. out (spending_of s) [] []) (λ s. word (hex_text (value ids s)) none)
unfolding spending_of
tells-spending =
    tells-field readable ids hex_text says-ids (λ x s. out (whole s (Spending x)) [] []) (λ x s. none) (λ x. tells-whole _ [] [])

tells-invalidate : Tells readable (λ s. out (invalidate_of s) [] []) (λ s. let s1 = past number64 s in word (decimal_text (value number64 s)) (word (hex_text (value ids s1)) none))
unfolding invalidate_of
tells-invalidate =
    tells-field readable number64 decimal_text says-64 _ _
    (λ v. tells-field readable ids hex_text says-ids (λ x s. out (whole s (Invalidate v x)) [] []) (λ x s. none) (λ x. tells-whole _ [] []))

tells-contains : Tells readable (λ s. out (contains_of s) [] []) (λ s. let s1 = past number64 s in word (decimal_text (value number64 s)) (word (hex_text (value ids s1)) none))
unfolding contains_of
tells-contains =
    tells-field readable number64 decimal_text says-64 _ _
    (λ v. tells-field readable ids hex_text says-ids (λ x s. out (whole s (Contains v x)) [] []) (λ x s. none) (λ x. tells-whole _ [] []))

tells-fee : Tells readable (λ s. out (fee_of s) [] []) (λ s. let s1 = past number32 s in word (decimal_text (value number32 s)) (word (decimal_text (value number32 s1)) none))
unfolding fee_of
tells-fee =
    tells-field readable number32 decimal_text says-32 _ _
    (λ v. tells-field readable number32 decimal_text says-32 (λ x s. out (whole s (Fee v x)) [] []) (λ x s. none) (λ x. tells-whole _ [] []))

tells-open : Tells readable (λ s. out (open_of s) [] []) (λ s. let s1 = past number64 s in let s2 = past number64 s1 in word (decimal_text (value number64 s)) (word (decimal_text (value number64 s1)) (word (decimal_text (value number32 s2)) none)))
unfolding open_of
tells-open =
    tells-field readable number64 decimal_text says-64 _ _
    (λ v. tells-field readable number64 decimal_text says-64 _ _
    (λ x. tells-field readable number32 decimal_text says-32 (λ y s. out (whole s (Open v x y)) [] []) (λ y s. none) (λ y. tells-whole _ [] [])))

tells-wait : Tells readable (λ s. out (wait_of s) [] []) (λ s. let s1 = past number64 s in let s2 = past number64 s1 in word (decimal_text (value number64 s)) (word (decimal_text (value number64 s1)) (word (decimal_text (value number32 s2)) none)))
unfolding wait_of
tells-wait =
    tells-field readable number64 decimal_text says-64 _ _
    (λ v. tells-field readable number64 decimal_text says-64 _ _
    (λ x. tells-field readable number32 decimal_text says-32 (λ y s. out (whole s (Wait v x y)) [] []) (λ y s. none) (λ y. tells-whole _ [] [])))

tells-histogram : Tells readable (λ s. out (histogram_of s) [] []) (λ s. let s1 = past number64 s in let s2 = past number32 s1 in word (decimal_text (value number64 s)) (word (decimal_text (value number32 s1)) (word (decimal_text (value number64 s2)) none)))
unfolding histogram_of
tells-histogram =
    tells-field readable number64 decimal_text says-64 _ _
    (λ v. tells-field readable number32 decimal_text says-32 _ _
    (λ x. tells-field readable number64 decimal_text says-64 (λ y s. out (whole s (Histogram v x y)) [] []) (λ y s. none) (λ y. tells-whole _ [] [])))

tells-pool : Tells readable (λ s. out (pool_of s) [] []) (λ s. let s1 = past number64 s in let s2 = past number64 s1 in let s3 = past strategies s2 in let s4 = past number64 s3 in let s5 = past number64 s4 in let s6 = past number64 s5 in let s7 = past number64 s6 in let s8 = past number64 s7 in word (decimal_text (value number64 s)) (word (decimal_text (value number64 s1)) (word (strategy_text (value strategies s2)) (word (decimal_text (value number64 s3)) (word (decimal_text (value number64 s4)) (word (decimal_text (value number64 s5)) (word (decimal_text (value number64 s6)) (word (decimal_text (value number64 s7)) (word (decimal_text (value number64 s8)) none)))))))))
unfolding pool_of
tells-pool =
    tells-field readable number64 decimal_text says-64 _ _
    (λ a. tells-field readable number64 decimal_text says-64 _ _
    (λ b. tells-field readable strategies strategy_text says-strategies _ _
    (λ c. tells-field readable number64 decimal_text says-64 _ _
    (λ d. tells-field readable number64 decimal_text says-64 _ _
    (λ e. tells-field readable number64 decimal_text says-64 _ _
    (λ f. tells-field readable number64 decimal_text says-64 _ _
    (λ g. tells-field readable number64 decimal_text says-64 _ _
    (λ h. tells-field readable number64 decimal_text says-64 (λ i s. out (whole s (Pool (record { capacity = a; min_fee = b; strategy = c; interval = d; rebroadcast = e; ttl = f; cache = g; block_limit = h; peer_limit = i }))) [] []) (λ i s. none) (λ i. tells-whole _ [] [])))))))))

says-item-boxes : SaysItem (item_of Boxes) box_said
unfolding item_of
says-item-boxes = says-boxes

says-item-flags : SaysItem (item_of Flags) flag_said
unfolding item_of
says-item-flags = says-flags

says-item-inputs : SaysItem (item_of Inputs) input_said
unfolding item_of
says-item-inputs = says-inputs

says-item-heights : SaysItem (item_of Heights) height_said
unfolding item_of
says-item-heights = says-heights

says-item-outputs : SaysItem (item_of Outputs) output_said
unfolding item_of
says-item-outputs = says-outputs

width-boxes : (item_of Boxes).width ≡ 4
unfolding item_of boxes
width-boxes = refl

width-flags : (item_of Flags).width ≡ 1
unfolding item_of flags
width-flags = refl

width-inputs : (item_of Inputs).width ≡ 5
unfolding item_of inputs
width-inputs = refl

width-heights : (item_of Heights).width ≡ 5
unfolding item_of heights
width-heights = refl

width-outputs : (item_of Outputs).width ≡ 7
unfolding item_of outputs
width-outputs = refl

module _ (a b : ℕ) where
  tells-rebroadcast : Tells readable (λ s. out (rebroadcast_of a s) (rebroadcast_one s) []) (λ s. sub (list_said box_said 4 (rebroadcast_one s)) none)
  unfolding rebroadcast_of rebroadcast_one
  tells-rebroadcast = tells-items readable (item_of Boxes) box_said says-item-boxes 4 width-boxes (λ z. omega arith) a (λ n w s. out (whole s (Rebroadcast n)) w []) (λ n w s. none) (λ n w. tells-whole _ w [])

  tells-answer : Tells readable (λ s. out (answer_of a s) (answer_one s) []) (λ s. sub (list_said flag_said 1 (answer_one s)) (sub (verdict_said (judged (list_of (past_items (item_of Flags) a s)))) none))
  unfolding answer_of answer_one
  tells-answer = tells-items readable (item_of Flags) flag_said says-item-flags 1 width-flags (λ z. omega arith) a _ _ (λ n w. tells-verdict readable (λ v s. out (whole s (Answer n v)) w []) (λ v s. none) (λ v. tells-whole _ w []))

  tells-blocks : Tells readable (λ s. out (block_of a b s) (block_one s) (block_two s)) (λ s. word (decimal_text (value number64 s)) (sub (txs_said (length (block_one s) / 5) (block_one s) (block_two s)) none))
  unfolding block_of block_one block_two
  tells-blocks =
      tells-field readable number64 decimal_text says-64 _ _
      (λ t. tells-block readable a b (λ n m u v s. out (whole s (Block (record { time = t; transactions = n; inputs = m }))) u v) (λ n m u v s. none) (λ n m u v. tells-whole _ u v))

  tells-tx : Tells readable (λ s. out (tx_of a b s) (tx_one s) (tx_two a s))
      (λ s. let s1 = past number64 s in let s2 = past ids s1 in let s3 = past (optional w_local) s2 in let s4 = past number64 s3 in let s5 = past number32 s4 in word (decimal_text (value number64 s)) (word (hex_text (value ids s1)) (word (option_text w_local (value (optional w_local) s2)) (word (decimal_text (value number64 s3)) (word (decimal_text (value number32 s4)) (sub (list_said input_said 5 (tx_one s)) (sub (list_said output_said 7 (tx_two a s)) (sub (verdict_said (judged (list_of (past_items (item_of Outputs) b (past_items (item_of Inputs) a s5))))) none))))))))
  unfolding tx_of tx_one tx_two tx_lists
  tells-tx =
      tells-field readable number64 decimal_text says-64 _ _
      (λ t. tells-field readable ids hex_text says-ids _ _
      (λ x. tells-field readable (optional w_local) (option_text w_local) (says-optional w_local kept-local) _ _
      (λ p. tells-field readable number64 decimal_text says-64 _ _
      (λ z. tells-field readable number32 decimal_text says-32 _ _
      (λ h. tells-items readable (item_of Inputs) input_said says-item-inputs 5 width-inputs (λ z. omega arith) a _ _
      (λ n u. tells-items readable (item_of Outputs) output_said says-item-outputs 7 width-outputs (λ z. omega arith) b _ _
      (λ m v. tells-verdict readable (λ j s. out (whole s (Tx (record { time = t; id = x; peer = p; size = z; preheader = h; inputs = n; outputs = m; verdict = j }))) u v) (λ j s. none) (λ j. tells-whole _ u v))))))))

  tells-return : Tells readable (λ s. out (return_of a b s) (return_one s) (return_two a s))
      (λ s. let s1 = past ids s in let s2 = past number64 s1 in let s3 = past number64 s2 in let s4 = past number32 s3 in let s5 = past (optional w_none) s4 in let s6 = past number64 s5 in let s7 = past number64 s6 in let s8 = past (optional w_local) s7 in word (hex_text (value ids s)) (word (decimal_text (value number64 s1)) (word (decimal_text (value number64 s2)) (word (decimal_text (value number32 s3)) (word (option_text w_none (value (optional w_none) s4)) (word (decimal_text (value number64 s5)) (word (decimal_text (value number64 s6)) (word (option_text w_local (value (optional w_local) s7)) (sub (list_said box_said 4 (return_one s)) (sub (list_said height_said 5 (return_two a s)) none))))))))))
  unfolding return_of return_one return_two return_lists
  tells-return =
      tells-field readable ids hex_text says-ids _ _
      (λ x. tells-field readable number64 decimal_text says-64 _ _
      (λ f. tells-field readable number64 decimal_text says-64 _ _
      (λ z. tells-field readable number32 decimal_text says-32 _ _
      (λ c. tells-field readable (optional w_none) (option_text w_none) (says-optional w_none kept-none) _ _
      (λ e. tells-field readable number64 decimal_text says-64 _ _
      (λ g. tells-field readable number64 decimal_text says-64 _ _
      (λ h. tells-field readable (optional w_local) (option_text w_local) (says-optional w_local kept-local) _ _
      (λ p. tells-items readable (item_of Boxes) box_said says-item-boxes 4 width-boxes (λ z. omega arith) a _ _
      (λ n u. tells-items readable (item_of Heights) height_said says-item-heights 5 width-heights (λ z. omega arith) b (λ m v s. out (whole s (Return (record { id = x; fee = f; size = z; cost = c; measured = e; created = g; checked = h; peer = p; inputs = n; outputs = m }))) u v) (λ m v s. none) (λ m v. tells-whole _ u v))))))))))

-- ---- by the first word

abbrev said_of : Out → Members
said_of o = said o.form o.one o.two

-- a form that is read
whole-said : (z : Rest) (f : Form) (u v : ListOf.List ℕ) → is_read (whole z f) ≡ true → said f u v ≡ said (whole z f) u v
whole-said z f u v e = by_bool (ended z) (λ q. sym (ap (λ (b : Bool). said (pick b f Unread) u v) q)) (λ q. true-false e (ap (λ (b : Bool). is_read (pick b f Unread)) q))

module _ (a b : ℕ) where
  abbrev Said : ListOf.List ℕ → Type 0
  Said w = (n : Members) → is_read (form_of a b (word w n)) ≡ true → word (plain w) (tidied n) ≡ said_of (out_of a b (word w n))

  said-tx : Said w_tx
  unfolding said form_of worded_of change_of query_of measure_of one_of two_of same word_of past_word plain lowered lower tidied_in tx_of
  said-tx n e = ap (word w_tx) (here-is ((tells-tx a b).on (here n) e)) ∙ whole-said _ _ _ _ e

  said-return : Said w_return
  unfolding said form_of worded_of change_of query_of measure_of one_of two_of same word_of past_word plain lowered lower tidied_in return_of
  said-return n e = ap (word w_return) (here-is ((tells-return a b).on (here n) e)) ∙ whole-said _ _ _ _ e

  said-block : Said w_block
  unfolding said form_of worded_of change_of query_of measure_of one_of two_of same word_of past_word plain lowered lower tidied_in block_of
  said-block n e = ap (word w_block) (here-is ((tells-blocks a b).on (here n) e)) ∙ whole-said _ _ _ _ e

  said-answer : Said w_answer
  unfolding said form_of worded_of change_of query_of measure_of one_of two_of same word_of past_word plain lowered lower tidied_in answer_of
  said-answer n e = ap (word w_answer) (here-is ((tells-answer a b).on (here n) e)) ∙ whole-said _ _ _ _ e

  said-rebroadcast : Said w_rebroadcast
  unfolding said form_of worded_of change_of query_of measure_of one_of two_of same word_of past_word plain lowered lower tidied_in rebroadcast_of
  said-rebroadcast n e = ap (word w_rebroadcast) (here-is ((tells-rebroadcast a b).on (here n) e)) ∙ whole-said _ _ _ _ e

  said-pool : Said w_pool
  unfolding said form_of worded_of change_of query_of measure_of one_of two_of same word_of past_word plain lowered lower tidied_in pool_of
  said-pool n e = ap (word w_pool) (here-is (tells-pool.on (here n) e)) ∙ whole-said _ _ _ _ e

  said-invalidate : Said w_invalidate
  unfolding said form_of worded_of change_of query_of measure_of one_of two_of same word_of past_word plain lowered lower tidied_in invalidate_of
  said-invalidate n e = ap (word w_invalidate) (here-is (tells-invalidate.on (here n) e)) ∙ whole-said _ _ _ _ e

  said-open : Said w_open
  unfolding said form_of worded_of change_of query_of measure_of one_of two_of same word_of past_word plain lowered lower tidied_in open_of
  said-open n e = ap (word w_open) (here-is (tells-open.on (here n) e)) ∙ whole-said _ _ _ _ e

  said-next : Said w_next
  unfolding said form_of worded_of change_of query_of measure_of one_of two_of same word_of past_word plain lowered lower tidied_in plain_of
  said-next n e = ap (word w_next) (here-is ((tells-plain Next).on (here n) e)) ∙ whole-said _ _ _ _ e

  said-list : Said w_list
  unfolding said form_of worded_of change_of query_of measure_of one_of two_of same word_of past_word plain lowered lower tidied_in plain_of
  said-list n e = ap (word w_list) (here-is ((tells-plain List).on (here n) e)) ∙ whole-said _ _ _ _ e

  said-top : Said w_top
  unfolding said form_of worded_of change_of query_of measure_of one_of two_of same word_of past_word plain lowered lower tidied_in top_of
  said-top n e = ap (word w_top) (here-is (tells-top.on (here n) e)) ∙ whole-said _ _ _ _ e

  said-len : Said w_len
  unfolding said form_of worded_of change_of query_of measure_of one_of two_of same word_of past_word plain lowered lower tidied_in plain_of
  said-len n e = ap (word w_len) (here-is ((tells-plain Len).on (here n) e)) ∙ whole-said _ _ _ _ e

  said-contains : Said w_contains
  unfolding said form_of worded_of change_of query_of measure_of one_of two_of same word_of past_word plain lowered lower tidied_in contains_of
  said-contains n e = ap (word w_contains) (here-is (tells-contains.on (here n) e)) ∙ whole-said _ _ _ _ e

  said-spending : Said w_spending
  unfolding said form_of worded_of change_of query_of measure_of one_of two_of same word_of past_word plain lowered lower tidied_in spending_of
  said-spending n e = ap (word w_spending) (here-is (tells-spending.on (here n) e)) ∙ whole-said _ _ _ _ e

  said-fee : Said w_fee
  unfolding said form_of worded_of change_of query_of measure_of one_of two_of same word_of past_word plain lowered lower tidied_in fee_of
  said-fee n e = ap (word w_fee) (here-is (tells-fee.on (here n) e)) ∙ whole-said _ _ _ _ e

  said-wait : Said w_wait
  unfolding said form_of worded_of change_of query_of measure_of one_of two_of same word_of past_word plain lowered lower tidied_in wait_of
  said-wait n e = ap (word w_wait) (here-is (tells-wait.on (here n) e)) ∙ whole-said _ _ _ _ e

  said-histogram : Said w_histogram
  unfolding said form_of worded_of change_of query_of measure_of one_of two_of same word_of past_word plain lowered lower tidied_in histogram_of
  said-histogram n e = ap (word w_histogram) (here-is (tells-histogram.on (here n) e)) ∙ whole-said _ _ _ _ e

  said-charges : Said w_charges
  unfolding said form_of worded_of change_of query_of measure_of one_of two_of same word_of past_word plain lowered lower tidied_in plain_of
  said-charges n e = ap (word w_charges) (here-is ((tells-plain Charges).on (here n) e)) ∙ whole-said _ _ _ _ e

  said-written : Said w_written
  unfolding said form_of worded_of change_of query_of measure_of one_of two_of same word_of past_word plain lowered lower tidied_in plain_of
  said-written n e = ap (word w_written) (here-is ((tells-plain Written).on (here n) e)) ∙ whole-said _ _ _ _ e

  said_each : Each Said
  said_each =
      record {
        tx = said-tx;
        return = said-return;
        block = said-block;
        answer = said-answer;
        rebroadcast = said-rebroadcast;
        pool = said-pool;
        invalidate = said-invalidate;
        «open» = said-open;
        next = said-next;
        list = said-list;
        top = said-top;
        len = said-len;
        contains = said-contains;
        spending = said-spending;
        fee = said-fee;
        wait = said-wait;
        histogram = said-histogram;
        charges = said-charges;
        written = said-written;
      }

-- THEOREM: a readable form is spelled from what it is read as
pub spelled-said : (a b : ℕ) (m : Members) → is_read (form_of a b m) ≡ true → tidied m ≡ said_of (out_of a b m)
unfolding tidied form_of word_of past_word worded_of change_of query_of measure_of same
spelled-said a b none e = true-false e refl
spelled-said a b (sub i n) e = true-false e refl
spelled-said a b (word w n) e = by_word (Said a b) (said_each a b) a b w (here n) e n e
