-- Reading a form's single spelling gives the form back (`read_back`): the same call with the same words of its lists. Each kind of field is shown to read a
-- tidied word as it read the word; the forms are put together from their fields as crate lines puts them together.
use Rattle.std.specs.Prelude.{ℕ, suc, ◌≡◌, Bool, length, eqb, leb, Option, Some, None}
use Rattle.std.proofs.Math.Path.{refl, sym, ap, ap₂}
use Rattle.std.proofs.Common.{◌∙◌, eqb-true}
use Rattle.std.proofs.Math.Bool.{true, false}
use mathlib.Core.List.{[], ◌∷◌, ◌++◌}
use mathlib.Core.List as ListOf
use Rattle.words.specs.Lists.{pick}
use Rattle.words.specs.Sums.{cap}
use Rattle.words.specs.Ids.{id_words}
use Rattle.words.specs.declared.ids.Id.{Id}
use Rattle.forms.specs.Text.{Members, none, word, sub}
use Rattle.forms.specs.TextLaws.{by_bool, true-false}
use Rattle.forms.specs.Nums.{decimal, id_read, is_hex, id_of_digits}
use Rattle.pool_types.specs.declared.Verdict.{Verdict}
use Rattle.pool_types.specs.declared.Verdict.TheVariants.{Valid, Invalid, Absent}
use Rattle.lines.specs.declared.items.Records.{Records}
use Rattle.lines.specs.declared.items.Records.TheVariants.{Boxes, Flags, Inputs, Heights, Outputs}
use Rattle.lines.specs.Fields.{Rest, gone, here, word_of, past_word, list_of, past_list, ended, Kind, value, past, value_or0, is_value, numbers, number64, number32, id_or0, is_of, ids, same, either, choices, optional, w_ok, w_bad, w_none, judged, is_judged, past_verdict}
use Rattle.lines.specs.Items.{Item, w_set, w_not, w_fee, w_pay, boxes, flags, input_words, is_input, inputs, height_words, is_height, heights, output_words, is_output, outputs, item_of, words_of, all_ok, words_in, all_in, fits, count_of, past_items, count, count_in}
use Rattle.lines.specs.ItemLaws.{past-gone}
use Rattle.lines.specs.Blocks.{box_list, tx_words, box_words, is_tx, transactions, inputs_of, inputs_in, fits_block, txs_count, inputs_count, past_block}
use Rattle.spelling.specs.Spelling.{lower, lowered, plain, tidied}
use Rattle.spelling.specs.WordLaws.{plain-decimal, plain-id}

-- what is left of the members, tidied
unfoldable pub tidied_in : Rest → Rest
tidied_in gone = gone
tidied_in (here m) = here (tidied m)

-- ---- the kinds of fields

-- a word that may stand there may stand there tidied, for the same
pub record Same {A : Type 0} (k : Kind A) : Type 0 where
  pub kept : (w : ListOf.List ℕ) → k.ok w ≡ true → (k.ok (plain w) ≡ true) × (k.of (plain w) ≡ k.of w)

pub same_numbers : (limit : ℕ) → Same (numbers limit)
unfolding numbers
same_numbers limit = record { kept = λ w e. (ap is_value (plain-decimal limit w) ∙ e, ap value_or0 (plain-decimal limit w)) }

id-is : (w : ListOf.List ℕ) → is_of (id_read w) ≡ true → is_hex w ≡ true
unfolding id_read
id-is w e = go (is_hex w) e
  where
    go : (b : Bool) → is_of (pick b (Some (id_of_digits w)) None) ≡ true → b ≡ true
    go true e = refl
    go false e = e

pub same-ids : Same ids
unfolding ids
same-ids = record { kept = λ w e. let p = (plain-id w (id-is w e)).1 in (ap is_of p ∙ e, ap id_or0 p) }

pub same_true : (s t : ListOf.List ℕ) → same s t ≡ true → s ≡ t
unfolding same
same_true [] [] e = refl
same_true [] (b ∷ t) e = true-false e refl
same_true (a ∷ s) [] e = true-false e refl
same_true (a ∷ s) (b ∷ t) e =
    by_bool (eqb a b) (λ q. ap₂ ◌∷◌ (eqb-true a b q) (same_true s t (sym (ap (λ (z : Bool). pick z (same s t) false) q) ∙ e))) (λ q. true-false e (ap (λ (z : Bool). pick z (same s t) false) q))

-- a keyword stays as it is
stays : (w v : ListOf.List ℕ) → plain v ≡ v → same w v ≡ true → plain w ≡ w
stays w v p e = let q = same_true w v e in ap plain q ∙ p ∙ sym q

as-it-is : {A : Type 0} (k : Kind A) (w : ListOf.List ℕ) → k.ok w ≡ true → plain w ≡ w → (k.ok (plain w) ≡ true) × (k.of (plain w) ≡ k.of w)
as-it-is k w e p = (ap k.ok p ∙ e, ap k.of p)

pub same-either : {A : Type 0} (y : ListOf.List ℕ) (a : A) (n : ListOf.List ℕ) (b : A) → plain y ≡ y → plain n ≡ n → Same (either y a n b)
unfolding either
same-either y a n b p q =
    record { kept = λ w e. as-it-is (either y a n b) w e (by_bool (same w y) (λ t. stays w y p t) (λ t. stays w n q (sym (ap (λ (b : Bool). pick b true (same w n)) t) ∙ e))) }

pub same-choices : (y n : ListOf.List ℕ) → plain y ≡ y → plain n ≡ n → Same (choices y n)
same-choices y n p q = same-either y 1 n 0 p q

-- a word that is no number
pub same-optional : (v : ListOf.List ℕ) → plain v ≡ v → is_value (decimal cap v) ≡ false → Same (optional v)
unfolding optional
same-optional v p q =
    record {
      kept = λ w e. by_bool (same w v) (λ t. as-it-is (optional v) w e (stays w v p t))
          (λ t. let d = plain-decimal cap w in
          let num : is_value (decimal cap w) ≡ true = sym (ap (λ (b : Bool). pick b true (is_value (decimal cap w))) t) ∙ e in
          by_bool (same (plain w) v)
          (λ u. true-false (ap is_value d ∙ num) (ap (λ (z : ListOf.List ℕ). is_value (decimal cap z)) (same_true (plain w) v u) ∙ q))
          (λ u. (
            ap (λ (b : Bool). pick b true (is_value (decimal cap (plain w)))) u ∙ ap is_value d ∙ num,
            ap (λ (b : Bool). pick b None (Some (value_or0 (decimal cap (plain w))))) u ∙ ap (λ (n : Option ℕ). Some (value_or0 n)) d ∙ sym (ap (λ (b : Bool). pick b None (Some (value_or0 (decimal cap w)))) t),
          )));
    }

-- ---- what is read from the members behind one another

-- a reader R of what is left, whose answer says (rd) whether it could be read: it reads the tidied members as it reads the members
pub record Keeps {X : Type 0} (rd : X → Bool) (R : Rest → X) : Type 0 where
  pub off : rd (R gone) ≡ false
  pub on : (s : Rest) → rd (R s) ≡ true → R (tidied_in s) ≡ R s

-- either nothing is left behind a field, or what is left and its value are as they were
by-past : {A P : Type 0} (k : Kind A) → Same k → (s : Rest) → (past k s ≡ gone → P) → (past k (tidied_in s) ≡ tidied_in (past k s) → value k (tidied_in s) ≡ value k s → P) → P
unfolding past value tidied_in tidied word_of past_word
by-past k h gone f g = by_bool (k.ok []) (λ e. f (ap (λ (b : Bool). pick b gone gone) e)) (λ e. f (ap (λ (b : Bool). pick b gone gone) e))
by-past k h (here none) f g = by_bool (k.ok []) (λ e. f (ap (λ (b : Bool). pick b gone gone) e)) (λ e. f (ap (λ (b : Bool). pick b gone gone) e))
by-past k h (here (sub i n)) f g = by_bool (k.ok []) (λ e. f (ap (λ (b : Bool). pick b gone gone) e)) (λ e. f (ap (λ (b : Bool). pick b gone gone) e))
by-past k h (here (word w n)) f g =
    by_bool (k.ok w)
    (λ e. let q = h.kept w e in
    g (ap (λ (b : Bool). pick b (here (tidied n)) gone) q.0 ∙ sym (ap (λ (b : Bool). tidied_in (pick b (here n) gone)) e)) q.1)
    (λ e. f (ap (λ (b : Bool). pick b (here n) gone) e))

module _ {X : Type 0} (rd : X → Bool) where
  -- a field, and what is read behind it
  pub keeps-field : {A : Type 0} (k : Kind A) → Same k → (R : A → Rest → X) → ((v : A) → Keeps rd (R v)) → Keeps rd (λ s. R (value k s) (past k s))
  keeps-field k h R r =
      record {
        off = ap (λ (z : Rest). rd (R (value k gone) z)) (past-gone k) ∙ (r (value k gone)).off;
        on = λ s e. by-past k h s (λ p. true-false e (ap (λ (z : Rest). rd (R (value k s) z)) p ∙ (r (value k s)).off))
            (λ p q. ap₂ (λ (v : _) (z : Rest). R v z) q p ∙ (r (value k s)).on (past k s) e);
      }

-- ---- records

-- what is read of a record or a verdict, and whether it is one
pub record Seen (A : Type 0) : Type 0 where
  pub what : A
  pub ok : Bool

keeps-end : {A : Type 0} (x : A) → Keeps (λ (z : Seen A). z.ok) (λ s. record { what = x; ok = ended s })
unfolding ended tidied_in tidied
keeps-end x = record { off = refl; on = λ s e. go s }
  where
    go : (s : Rest) → ◌≡◌ {A = Seen _} (record { what = x; ok = ended (tidied_in s) }) (record { what = x; ok = ended s })
    go gone = refl
    go (here none) = refl
    go (here (word w n)) = refl
    go (here (sub i n)) = refl

plain-set : plain w_set ≡ w_set
unfolding plain lowered lower
plain-set = refl

plain-not : plain w_not ≡ w_not
unfolding plain lowered lower
plain-not = refl

plain-fee : plain w_fee ≡ w_fee
unfolding plain lowered lower
plain-fee = refl

plain-pay : plain w_pay ≡ w_pay
unfolding plain lowered lower
plain-pay = refl

keeps-input : Keeps (λ (z : Seen (ListOf.List ℕ)). z.ok) (λ i. record { what = input_words i; ok = is_input i })
unfolding input_words is_input
keeps-input = keeps-field (λ z. z.ok) ids same-ids (λ x i. record { what = id_words x ++ (value (choices w_set w_not) i ∷ []); ok = ended (past (choices w_set w_not) i) })
    (λ x. keeps-field (λ z. z.ok) (choices w_set w_not) (same-choices w_set w_not plain-set plain-not) (λ v i. record { what = id_words x ++ (v ∷ []); ok = ended i }) (λ v. keeps-end (id_words x ++ (v ∷ []))))

keeps-height : Keeps (λ (z : Seen (ListOf.List ℕ)). z.ok) (λ i. record { what = height_words i; ok = is_height i })
unfolding height_words is_height
keeps-height = keeps-field (λ z. z.ok) ids same-ids (λ x i. record { what = id_words x ++ (value number32 i ∷ []); ok = ended (past number32 i) })
    (λ x. keeps-field (λ z. z.ok) number32 (same_numbers 4294967295) (λ v i. record { what = id_words x ++ (v ∷ []); ok = ended i }) (λ v. keeps-end (id_words x ++ (v ∷ []))))

keeps_output : Keeps (λ (z : Seen (ListOf.List ℕ)). z.ok) (λ i. record { what = output_words i; ok = is_output i })
unfolding output_words is_output
keeps_output = keeps-field (λ z. z.ok) ids same-ids
    (λ x i. record { what = id_words x ++ (value number64 i ∷ value (choices w_fee w_pay) (past number64 i) ∷ value number32 (past (choices w_fee w_pay) (past number64 i)) ∷ []); ok = ended (past number32 (past (choices w_fee w_pay) (past number64 i))) })
    (λ x. keeps-field (λ z. z.ok) number64 (same_numbers cap)
    (λ v i. record { what = id_words x ++ (v ∷ value (choices w_fee w_pay) i ∷ value number32 (past (choices w_fee w_pay) i) ∷ []); ok = ended (past number32 (past (choices w_fee w_pay) i)) })
    (λ v. keeps-field (λ z. z.ok) (choices w_fee w_pay) (same-choices w_fee w_pay plain-fee plain-pay)
    (λ u i. record { what = id_words x ++ (v ∷ u ∷ value number32 i ∷ []); ok = ended (past number32 i) })
    (λ u. keeps-field (λ z. z.ok) number32 (same_numbers 4294967295) (λ t i. record { what = id_words x ++ (v ∷ u ∷ t ∷ []); ok = ended i }) (λ t. keeps-end (id_words x ++ (v ∷ u ∷ t ∷ []))))))

-- a member that is a record is the same record tidied
pub record SameItem (it : Item) : Type 0 where
  pub kept : (s : Rest) → it.ok s ≡ true → (it.ok (tidied_in s) ≡ true) × (it.of (tidied_in s) ≡ it.of s)

word_in : {A : Type 0} (k : Kind A) → Same k → (s : Rest) → k.ok (word_of s) ≡ true → (k.ok (word_of (tidied_in s)) ≡ true) × (value k (tidied_in s) ≡ value k s)
unfolding word_of tidied_in tidied value
word_in k h gone e = (e, refl)
word_in k h (here none) e = (e, refl)
word_in k h (here (word w n)) e = h.kept w e
word_in k h (here (sub i n)) e = (e, refl)

list-in : (s : Rest) → list_of (tidied_in s) ≡ tidied_in (list_of s)
unfolding list_of tidied_in tidied
list-in gone = refl
list-in (here none) = refl
list-in (here (word w n)) = refl
list-in (here (sub i n)) = refl

seen-item : (of : Rest → ListOf.List ℕ) (ok : Rest → Bool) → Keeps (λ (z : Seen (ListOf.List ℕ)). z.ok) (λ i. record { what = of i; ok = ok i })
    → (s : Rest) → ok (list_of s) ≡ true → (ok (list_of (tidied_in s)) ≡ true) × (of (list_of (tidied_in s)) ≡ of (list_of s))
seen-item of ok h s e =
    let q = h.on (list_of s) e in
    let l = list-in s in
    (ap ok l ∙ ap (λ (z : Seen (ListOf.List ℕ)). z.ok) q ∙ e, ap of l ∙ ap (λ (z : Seen (ListOf.List ℕ)). z.what) q)

same-boxes : SameItem boxes
unfolding boxes
same-boxes = record { kept = λ s e. let q = word_in ids same-ids s e in (q.0, ap id_words q.1) }

same_flags : SameItem flags
unfolding flags
same_flags = record { kept = λ s e. let q = word_in (choices w_set w_not) (same-choices w_set w_not plain-set plain-not) s e in (q.0, ap (λ (v : ℕ). v ∷ []) q.1) }

same_inputs : SameItem inputs
unfolding inputs
same_inputs = record { kept = λ s e. seen-item input_words is_input keeps-input s e }

same-heights : SameItem heights
unfolding heights
same-heights = record { kept = λ s e. seen-item height_words is_height keeps-height s e }

same-outputs : SameItem outputs
unfolding outputs
same-outputs = record { kept = λ s e. seen-item output_words is_output keeps_output s e }

pub same_item : (k : Records) → SameItem (item_of k)
unfolding item_of
same_item Boxes = same-boxes
same_item Flags = same_flags
same_item Inputs = same_inputs
same_item Heights = same-heights
same_item Outputs = same-outputs

-- ---- lists of records

module _ (it : Item) (h : SameItem it) where
  all_same : (m : Members) → all_ok it m ≡ true → (all_ok it (tidied m) ≡ true) × (words_of it (tidied m) ≡ words_of it m)
  unfolding all_ok words_of tidied tidied_in
  all_same none e = (refl, refl)
  all_same (word w n) e =
      by_bool (it.ok (here (word w n)))
      (λ t. let q = h.kept (here (word w n)) t in
      let r = all_same n (sym (ap (λ (b : Bool). pick b (all_ok it n) false) t) ∙ e) in
      (ap (λ (b : Bool). pick b (all_ok it (tidied n)) false) q.0 ∙ r.0, ap₂ ◌++◌ q.1 r.1))
      (λ t. true-false e (ap (λ (b : Bool). pick b (all_ok it n) false) t))
  all_same (sub i n) e =
      by_bool (it.ok (here (sub i n)))
      (λ t. let q = h.kept (here (sub i n)) t in
      let r = all_same n (sym (ap (λ (b : Bool). pick b (all_ok it n) false) t) ∙ e) in
      (ap (λ (b : Bool). pick b (all_ok it (tidied n)) false) q.0 ∙ r.0, ap₂ ◌++◌ q.1 r.1))
      (λ t. true-false e (ap (λ (b : Bool). pick b (all_ok it n) false) t))

  all_in_tidied : (s : Rest) → all_in it s ≡ true → (all_in it (tidied_in s) ≡ true) × (words_in it (tidied_in s) ≡ words_in it s)
  unfolding all_in words_in tidied_in
  all_in_tidied gone e = true-false e refl
  all_in_tidied (here m) e = all_same m e

  fits_in : (room : ℕ) (s : Rest) → fits it room s ≡ true → (fits it room (tidied_in s) ≡ true) × (words_in it (tidied_in s) ≡ words_in it s)
  unfolding fits
  fits_in room s e =
      by_bool (all_in it s)
      (λ t. let q = all_in_tidied s t in
      (ap₂ (λ (b : Bool) (w : ListOf.List ℕ). pick b (leb (length w) room) false) q.0 q.1 ∙ sym (ap (λ (b : Bool). pick b (leb (length (words_in it s)) room) false) t) ∙ e, q.1))
      (λ t. true-false e (ap (λ (b : Bool). pick b (leb (length (words_in it s)) room) false) t))

-- behind a list stands the same, tidied
past-list-in : (s : Rest) → past_list (tidied_in s) ≡ tidied_in (past_list s)
unfolding past_list tidied_in tidied
past-list-in gone = refl
past-list-in (here none) = refl
past-list-in (here (word w n)) = refl
past-list-in (here (sub i n)) = refl

module _ {X : Type 0} (rd : X → Bool) where
  pub keeps-items : (it : Item) → SameItem it → (room : ℕ) (R : ℕ → ListOf.List ℕ → Rest → X) → ((n : ℕ) (w : ListOf.List ℕ) → Keeps rd (R n w))
      → Keeps rd (λ s. R (count_of it room (list_of s)) (words_in it (list_of s)) (past_items it room s))
  unfolding past_items count_of past_list
  keeps-items it h room R r =
      record {
        off = ap (λ (z : Rest). rd (R (count_of it room (list_of gone)) (words_in it (list_of gone)) z)) (none-behind (fits it room (list_of gone))) ∙ (r _ _).off;
        on = λ s e. by_bool (fits it room (list_of s))
            (λ t. let q = fits_in it h room (list_of s) t in
            let l = list-in s in
            let words : words_in it (list_of (tidied_in s)) ≡ words_in it (list_of s) = ap (words_in it) l ∙ q.1 in
            let fit : fits it room (list_of (tidied_in s)) ≡ fits it room (list_of s) = ap (fits it room) l ∙ q.0 ∙ sym t in
            let left : pick (fits it room (list_of s)) (past_list (tidied_in s)) gone ≡ tidied_in (pick (fits it room (list_of s)) (past_list s) gone) =
            ap (λ (b : Bool). pick b (past_list (tidied_in s)) gone) t ∙ past-list-in s ∙ sym (ap (λ (b : Bool). tidied_in (pick b (past_list s) gone)) t) in
            ap₂ (λ (b : Bool) (w : ListOf.List ℕ). R (pick b (length w) 0) w (pick b (past_list (tidied_in s)) gone)) fit words
            ∙ ap (λ (z : Rest). R (pick (fits it room (list_of s)) (length (words_in it (list_of s))) 0) (words_in it (list_of s)) z) left
            ∙ (r _ _).on (pick (fits it room (list_of s)) (past_list s) gone) e)
            (λ t. true-false e (ap (λ (b : Bool). rd (R (count_of it room (list_of s)) (words_in it (list_of s)) (pick b (past_list s) gone))) t ∙ (r _ _).off));
      }
    where
      none-behind : (b : Bool) → pick b (past_list gone) gone ≡ gone
      none-behind true = refl
      none-behind false = refl

-- ---- a verdict

plain_ok : plain w_ok ≡ w_ok
unfolding plain lowered lower
plain_ok = refl

plain-bad : plain w_bad ≡ w_bad
unfolding plain lowered lower
plain-bad = refl

pub plain-none : plain w_none ≡ w_none
unfolding plain lowered lower
plain-none = refl

abbrev judged_as : Rest → Seen Verdict
judged_as i = record { what = judged i; ok = is_judged i }

-- each behind its word
ok-back : (n : Members) → is_judged (here (word w_ok n)) ≡ true → judged_as (here (word w_ok (tidied n))) ≡ judged_as (here (word w_ok n))
unfolding judged is_judged word_of past_word same tidied_in
ok-back n e = (keeps-field (λ z. z.ok) number64 (same_numbers cap) (λ v i. record { what = Valid v; ok = ended i }) (λ v. keeps-end (Valid v))).on (here n) e

bad-back : (n : Members) → is_judged (here (word w_bad n)) ≡ true → judged_as (here (word w_bad (tidied n))) ≡ judged_as (here (word w_bad n))
unfolding judged is_judged word_of past_word same tidied_in
bad-back n e = (keeps-end Invalid).on (here n) e

none-back : (n : Members) → is_judged (here (word w_none n)) ≡ true → judged_as (here (word w_none (tidied n))) ≡ judged_as (here (word w_none n))
unfolding judged is_judged word_of past_word same tidied_in
none-back n e = (keeps-end Absent).on (here n) e

judged-word : (w : ListOf.List ℕ) (n : Members) → is_judged (here (word w n)) ≡ true → judged_as (here (word (plain w) (tidied n))) ≡ judged_as (here (word w n))
unfolding is_judged word_of past_word
judged-word w n e =
    by_bool (same w w_ok) (λ t. at w_ok plain_ok ok-here (same_true w w_ok t))
    (λ t. by_bool (same w w_bad) (λ u. at w_bad plain-bad bad-here (same_true w w_bad u))
    (λ u. by_bool (same w w_none) (λ v. at w_none plain-none none_here (same_true w w_none v))
    (λ v. true-false e (λ i. pick (t i) (ended (past number64 (here n))) (pick (u i) (ended (here n)) (pick (v i) (ended (here n)) false))))))
  where
    at : (v : ListOf.List ℕ) → plain v ≡ v → (is_judged (here (word v n)) ≡ true → judged_as (here (word v (tidied n))) ≡ judged_as (here (word v n))) → w ≡ v → judged_as (here (word (plain w) (tidied n))) ≡ judged_as (here (word w n))
    at v p f q =
        ap (λ (z : ListOf.List ℕ). judged_as (here (word z (tidied n)))) (ap plain q ∙ p) ∙ f (ap (λ (z : ListOf.List ℕ). is_judged (here (word z n))) (sym q) ∙ e) ∙ ap (λ (z : ListOf.List ℕ). judged_as (here (word z n))) (sym q)

    ok-here : is_judged (here (word w_ok n)) ≡ true → judged_as (here (word w_ok (tidied n))) ≡ judged_as (here (word w_ok n))
    ok-here f = ok-back n f

    bad-here : is_judged (here (word w_bad n)) ≡ true → judged_as (here (word w_bad (tidied n))) ≡ judged_as (here (word w_bad n))
    bad-here f = bad-back n f

    none_here : is_judged (here (word w_none n)) ≡ true → judged_as (here (word w_none (tidied n))) ≡ judged_as (here (word w_none n))
    none_here f = none-back n f

keeps-judged : (i : Rest) → is_judged i ≡ true → judged_as (tidied_in i) ≡ judged_as i
unfolding tidied_in tidied is_judged word_of same
keeps-judged gone e = true-false e refl
keeps-judged (here none) e = true-false e refl
keeps-judged (here (word w n)) e = judged-word w n e
keeps-judged (here (sub i n)) e = true-false e refl

module _ {X : Type 0} (rd : X → Bool) where
  pub keeps-verdict : (R : Verdict → Rest → X) → ((v : Verdict) → Keeps rd (R v)) → Keeps rd (λ s. R (judged (list_of s)) (past_verdict s))
  unfolding past_verdict past_list
  keeps-verdict R r =
      record {
        off = ap (λ (z : Rest). rd (R (judged (list_of gone)) z)) (none-behind (is_judged (list_of gone))) ∙ (r _).off;
        on = λ s e. by_bool (is_judged (list_of s))
            (λ t. let q = keeps-judged (list_of s) t in
            let l = list-in s in
            let v : judged (list_of (tidied_in s)) ≡ judged (list_of s) = ap judged l ∙ ap (λ (z : Seen Verdict). z.what) q in
            let y : is_judged (list_of (tidied_in s)) ≡ is_judged (list_of s) = ap is_judged l ∙ ap (λ (z : Seen Verdict). z.ok) q in
            let left : pick (is_judged (list_of s)) (past_list (tidied_in s)) gone ≡ tidied_in (pick (is_judged (list_of s)) (past_list s) gone) =
            ap (λ (b : Bool). pick b (past_list (tidied_in s)) gone) t ∙ past-list-in s ∙ sym (ap (λ (b : Bool). tidied_in (pick b (past_list s) gone)) t) in
            ap₂ (λ (u : Verdict) (b : Bool). R u (pick b (past_list (tidied_in s)) gone)) v y ∙ ap (R (judged (list_of s))) left ∙ (r _).on (pick (is_judged (list_of s)) (past_list s) gone) e)
            (λ t. true-false e (ap (λ (b : Bool). rd (R (judged (list_of s)) (pick b (past_list s) gone))) t ∙ (r _).off));
      }
    where
      none-behind : (b : Bool) → pick b gone gone ≡ gone
      none-behind true = refl
      none-behind false = refl

-- ---- a block's transactions

ended-in : (s : Rest) → ended (tidied_in s) ≡ ended s
unfolding ended tidied_in tidied
ended-in gone = refl
ended-in (here none) = refl
ended-in (here (word w n)) = refl
ended-in (here (sub i n)) = refl

count_same : (m : Members) → count (tidied m) ≡ count m
unfolding count tidied
count_same none = refl
count_same (word w n) = ap suc (count_same n)
count_same (sub i n) = ap suc (count_same n)

count-in : (s : Rest) → count_in (tidied_in s) ≡ count_in s
unfolding count_in tidied_in
count-in gone = refl
count-in (here m) = count_same m

tx-in : (i : Rest) → is_tx i ≡ true → (is_tx (tidied_in i) ≡ true) × (tx_words (tidied_in i) ≡ tx_words i) × (box_words (tidied_in i) ≡ box_words i)
unfolding is_tx tx_words box_words box_list all_in list_of
tx-in i e =
    by-past ids same-ids i
    (λ p. true-false e (ap (λ (z : Rest). pick (all_in boxes (list_of z)) (ended (past_list z)) false) p ∙ refl))
    (λ p v. let l : list_of (past ids (tidied_in i)) ≡ tidied_in (list_of (past ids i)) = ap list_of p ∙ list-in (past ids i) in
    by_bool (all_in boxes (list_of (past ids i)))
    (λ t. let q = all_in_tidied boxes same-boxes (list_of (past ids i)) t in
    let f : ended (past_list (past ids i)) ≡ true = sym (ap (λ (b : Bool). pick b (ended (past_list (past ids i))) false) t) ∙ e in (
      ap₂ (λ (a b : Bool). pick a b false) (ap (all_in boxes) l ∙ q.0) (ap (λ (z : Rest). ended (past_list z)) p ∙ ap ended (past-list-in (past ids i)) ∙ ended-in (past_list (past ids i)) ∙ f),
      ap₂ (λ (x : Id) (n : ℕ). id_words x ++ (n ∷ [])) v (ap count_in l ∙ count-in (list_of (past ids i))),
      ap (words_in boxes) l ∙ q.1,
    ))
    (λ t. true-false e (ap (λ (b : Bool). pick b (ended (past_list (past ids i))) false) t)))

same-transactions : SameItem transactions
unfolding transactions
same-transactions = record { kept = λ s e. let l = list-in s in let q = tx-in (list_of s) e in (ap is_tx l ∙ q.0, ap tx_words l ∙ q.1) }

inputs-same : (m : Members) → all_ok transactions m ≡ true → inputs_of (tidied m) ≡ inputs_of m
unfolding all_ok transactions inputs_of tidied list_of tidied_in
inputs-same none e = refl
inputs-same (word w n) e =
    by_bool (is_tx gone) (λ t. inputs-same n (sym (ap (λ (b : Bool). pick b (all_ok transactions n) false) t) ∙ e)) (λ t. true-false e (ap (λ (b : Bool). pick b (all_ok transactions n) false) t))
inputs-same (sub i n) e =
    by_bool (is_tx (here i))
    (λ t. ap₂ ◌++◌ (tx-in (here i) t).2 (inputs-same n (sym (ap (λ (b : Bool). pick b (all_ok transactions n) false) t) ∙ e)))
    (λ t. true-false e (ap (λ (b : Bool). pick b (all_ok transactions n) false) t))

inputs_in_map : (s : Rest) → all_in transactions s ≡ true → inputs_in (tidied_in s) ≡ inputs_in s
unfolding all_in inputs_in tidied_in
inputs_in_map gone e = refl
inputs_in_map (here m) e = inputs-same m e

fits_all : (it : Item) (room : ℕ) (s : Rest) → fits it room s ≡ true → all_in it s ≡ true
unfolding fits
fits_all it room s e = by_bool (all_in it s) (λ t. t) (λ t. true-false e (ap (λ (b : Bool). pick b (leb (length (words_in it s)) room) false) t))

block_in : (a b : ℕ) (s : Rest) → fits_block a b s ≡ true
    → (fits_block a b (tidied_in s) ≡ true) × (words_in transactions (tidied_in s) ≡ words_in transactions s) × (inputs_in (tidied_in s) ≡ inputs_in s)
unfolding fits_block
block_in a b s e =
    by_bool (fits transactions a s)
    (λ t. let q = fits_in transactions same-transactions a s t in
    let p = inputs_in_map s (fits_all transactions a s t) in
    (ap₂ (λ (c : Bool) (w : ListOf.List ℕ). pick c (leb (length w) b) false) q.0 p ∙ sym (ap (λ (c : Bool). pick c (leb (length (inputs_in s)) b) false) t) ∙ e, q.1, p))
    (λ t. true-false e (ap (λ (c : Bool). pick c (leb (length (inputs_in s)) b) false) t))

module _ {X : Type 0} (rd : X → Bool) (a b : ℕ) where
  pub keeps-block : (R : ℕ → ℕ → ListOf.List ℕ → ListOf.List ℕ → Rest → X) → ((n m : ℕ) (u v : ListOf.List ℕ) → Keeps rd (R n m u v))
      → Keeps rd (λ s. R (txs_count a b (list_of s)) (inputs_count a b (list_of s)) (words_in transactions (list_of s)) (inputs_in (list_of s)) (past_block a b s))
  unfolding past_block past_list txs_count inputs_count
  keeps-block R r =
      record {
        off = ap (λ (z : Rest). rd (R (txs_count a b (list_of gone)) (inputs_count a b (list_of gone)) (words_in transactions (list_of gone)) (inputs_in (list_of gone)) z)) (none-behind (fits_block a b (list_of gone))) ∙ (r _ _ _ _).off;
        on = λ s e. by_bool (fits_block a b (list_of s))
            (λ t. let q = block_in a b (list_of s) t in
            let l = list-in s in
            let one : words_in transactions (list_of (tidied_in s)) ≡ words_in transactions (list_of s) = ap (words_in transactions) l ∙ q.1 in
            let two : inputs_in (list_of (tidied_in s)) ≡ inputs_in (list_of s) = ap inputs_in l ∙ q.2 in
            let fit : fits_block a b (list_of (tidied_in s)) ≡ fits_block a b (list_of s) = ap (fits_block a b) l ∙ q.0 ∙ sym t in
            let left : pick (fits_block a b (list_of s)) (past_list (tidied_in s)) gone ≡ tidied_in (pick (fits_block a b (list_of s)) (past_list s) gone) =
            ap (λ (c : Bool). pick c (past_list (tidied_in s)) gone) t ∙ past-list-in s ∙ sym (ap (λ (c : Bool). tidied_in (pick c (past_list s) gone)) t) in
            (λ i. R (pick (fit i) (length (one i)) 0) (pick (fit i) (length (two i)) 0) (one i) (two i) (pick (fit i) (past_list (tidied_in s)) gone))
            ∙ ap (λ (z : Rest). R (txs_count a b (list_of s)) (inputs_count a b (list_of s)) (words_in transactions (list_of s)) (inputs_in (list_of s)) z) left
            ∙ (r _ _ _ _).on (pick (fits_block a b (list_of s)) (past_list s) gone) e)
            (λ t. true-false e (ap (λ (c : Bool). rd (R (txs_count a b (list_of s)) (inputs_count a b (list_of s)) (words_in transactions (list_of s)) (inputs_in (list_of s)) (pick c (past_list s) gone))) t ∙ (r _ _ _ _).off));
      }
    where
      none-behind : (c : Bool) → pick c gone gone ≡ gone
      none-behind true = refl
      none-behind false = refl
