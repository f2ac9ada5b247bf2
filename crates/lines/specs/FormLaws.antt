-- Laws of forms: a form that is read has lists that have room, its first word decides, and a line says one thing.
use Rattle.std.specs.Prelude.{ℕ, ◌≡◌, refl, Bool, false, length, Option, Some, None, unwrap_or}
use Rattle.std.proofs.Math.Path.{sym, ap, subst}
use Rattle.std.proofs.Common.{◌∙◌}
use Rattle.std.proofs.Math.Bool.{true}
use mathlib.Core.List.{List, []}
use Rattle.words.specs.Lists.{pick}
use Rattle.forms.specs.Nums.{over}
use Rattle.forms.specs.TextLaws.{true-false}
use Rattle.lines.specs.declared.read.Form.{Form}
use Rattle.lines.specs.declared.read.Form.TheVariants.{Unread}
use Rattle.lines.specs.Fields.{Rest, gone, here, word_of, past_word, list_of, past_list, ended, Stands, same, is_judged, past_verdict}
use Rattle.lines.specs.Items.{Item, all_in, fits, past_items}
use Rattle.forms.specs.Text.{Members, Line, Reads, Opened, NoLine, WordHere, NoWord}
use Rattle.forms.specs.TextLaws.{line-once}
use Rattle.lines.specs.FieldLaws.{stands_word, stands-no-word}
use Rattle.lines.specs.Forms.{is_read, whole, FormAt, ListsAt, AnswerAt, ReadAt, tx_one, tx_two, return_one, return_two, block_one, block_two, answer_one, rebroadcast_one, one_of, two_of, worded, tx_of, return_of, block_of, answer_of, rebroadcast_of, change_of, query_of, measure_of, worded_of, form_of, w_tx, w_return, w_block, w_answer, w_rebroadcast}

-- ---- nothing is left behind a list that has no room

fits-gone : (it : Item) (a : ℕ) → fits it a gone ≡ false
unfolding fits all_in
fits-gone it a = refl

items-gone : (it : Item) (a : ℕ) → past_items it a gone ≡ gone
unfolding past_items list_of
items-gone it a = ap (λ (b : Bool). pick b (past_list gone) gone) (fits-gone it a)

end-gone : ended gone ≡ false
unfolding ended
end-gone = refl

-- a form whose last field leaves nothing is none
pub unread-gone : (z : Rest) (f : Form) → z ≡ gone → Unread ≡ whole z f
unread-gone z f e = sym (ap (λ (b : Bool). pick b f Unread) (ap ended e ∙ end-gone))

-- nothing is left behind nothing
pub items-then : (it : Item) (a : ℕ) (z : Rest) → z ≡ gone → past_items it a z ≡ gone
items-then it a z e = ap (past_items it a) e ∙ items-gone it a

verdict-gone : past_verdict gone ≡ gone
unfolding past_verdict is_judged list_of word_of same
verdict-gone = refl

pub verdict-then : (z : Rest) → z ≡ gone → past_verdict z ≡ gone
verdict-then z e = ap past_verdict e ∙ verdict-gone

pub whole-as : (z : Rest) (f g r : Form) → r ≡ whole z f → f ≡ g → r ≡ whole z g
whole-as z f g r e q = e ∙ ap (λ (x : Form). whole z x) q

-- what was read, or no form
pub or-unread : (z : Rest) (f : Form) (o : Option Form) → o ≡ pick (ended z) (Some f) None → unwrap_or o Unread ≡ whole z f
or-unread z f o e = ap (λ (x : Option Form). unwrap_or x Unread) e ∙ go (ended z)
  where
    go : (b : Bool) → unwrap_or (pick b (Some f) None) Unread ≡ pick b f Unread
    go true = refl
    go false = refl

pub none-unread : (o : Option Form) → o ≡ None → unwrap_or o Unread ≡ Unread
none-unread o e = ap (λ (x : Option Form). unwrap_or x Unread) e

pub none-no : {A : Type 0} (o : Option Form) → o ≡ None → is_read (unwrap_or o Unread) ≡ true → A
none-no o e i = true-false (sym (ap is_read (none-unread o e)) ∙ i) refl

-- a line that is not read says nothing of the slices
pub unread-no : {A : Type 0} → is_read Unread ≡ true → A
unread-no e = true-false e refl

-- ---- one of several by a test

pub first_of : (b : Bool) (r x y : Form) → b ≡ true → r ≡ x → r ≡ pick b x y
first_of b r x y e p = p ∙ sym (ap (λ (z : Bool). pick z x y) e)

pub next_of : (b : Bool) (r x y : Form) → b ≡ false → r ≡ y → r ≡ pick b x y
next_of b r x y e p = p ∙ sym (ap (λ (z : Bool). pick z x y) e)

-- ---- the first word decides

at_first : {A : Type 0} (b : Bool) (x y : A) → b ≡ true → pick b x y ≡ x
at_first b x y e = ap (λ (z : Bool). pick z x y) e

at_next : {A : Type 0} (b : Bool) (x y : A) → b ≡ false → pick b x y ≡ y
at_next b x y e = ap (λ (z : Bool). pick z x y) e

module _ (w l u y v z : List ℕ) (r : Form) where
  pub worded-tx : same w w_tx ≡ true → ListsAt tx_of l u y v z tx_one (tx_two (length u)) r → ListsAt (worded w) l u y v z (one_of w) (two_of w (length u)) r
  unfolding worded_of one_of two_of
  worded-tx e a =
      record {
        is = λ t s h. a.is t s h ∙ sym (at_first (same w w_tx) _ _ e);
        one = λ o t s h. a.one o t s h ∙ ap (λ (x : List ℕ). over 0 x u) (sym (at_first (same w w_tx) (tx_one s) _ e));
        two = λ o t s h. a.two o t s h ∙ ap (λ (x : List ℕ). over 0 x v) (sym (at_first (same w w_tx) (tx_two (length u) s) _ e));
      }

  module _ (e1 : same w w_tx ≡ false) where
    pub worded-return : same w w_return ≡ true → ListsAt return_of l u y v z return_one (return_two (length u)) r → ListsAt (worded w) l u y v z (one_of w) (two_of w (length u)) r
    unfolding worded_of one_of two_of
    worded-return e a =
        record {
          is = λ t s h. a.is t s h ∙ sym (at_next (same w w_tx) _ _ e1 ∙ at_first (same w w_return) _ _ e);
          one = λ o t s h. a.one o t s h ∙ ap (λ (x : List ℕ). over 0 x u) (sym (at_next (same w w_tx) (tx_one s) _ e1 ∙ at_first (same w w_return) (return_one s) _ e));
          two = λ o t s h. a.two o t s h ∙ ap (λ (x : List ℕ). over 0 x v) (sym (at_next (same w w_tx) (tx_two (length u) s) _ e1 ∙ at_first (same w w_return) (return_two (length u) s) _ e));
        }

    module _ (e2 : same w w_return ≡ false) where
      pub worded-block : same w w_block ≡ true → ListsAt block_of l u y v z block_one block_two r → ListsAt (worded w) l u y v z (one_of w) (two_of w (length u)) r
      unfolding worded_of one_of two_of
      worded-block e a =
          record {
            is = λ t s h. a.is t s h ∙ sym (at_next (same w w_tx) _ _ e1 ∙ at_next (same w w_return) _ _ e2 ∙ at_first (same w w_block) _ _ e);
            one = λ o t s h. a.one o t s h ∙ ap (λ (x : List ℕ). over 0 x u) (sym (at_next (same w w_tx) (tx_one s) _ e1 ∙ at_next (same w w_return) (return_one s) _ e2 ∙ at_first (same w w_block) (block_one s) _ e));
            two = λ o t s h. a.two o t s h ∙ ap (λ (x : List ℕ). over 0 x v) (sym (at_next (same w w_tx) (tx_two (length u) s) _ e1 ∙ at_next (same w w_return) (return_two (length u) s) _ e2 ∙ at_first (same w w_block) (block_two s) [] e));
          }

      module _ (e3 : same w w_block ≡ false) (un : z ≡ v) where
        -- the second slice is as it was
        none-two : (s : Rest) → z ≡ over 0 (two_of w (length u) s) v
        unfolding two_of
        none-two s = un ∙ ap (λ (x : List ℕ). over 0 x v) (sym (at_next (same w w_tx) (tx_two (length u) s) _ e1 ∙ at_next (same w w_return) (return_two (length u) s) _ e2 ∙ at_next (same w w_block) (block_two s) [] e3))

        pub worded-answer : same w w_answer ≡ true → AnswerAt answer_of l u y answer_one r → ListsAt (worded w) l u y v z (one_of w) (two_of w (length u)) r
        unfolding worded_of one_of
        worded-answer e a =
            record {
              is = λ t s h. a.is t s h ∙ sym (at_next (same w w_tx) _ _ e1 ∙ at_next (same w w_return) _ _ e2 ∙ at_next (same w w_block) _ _ e3 ∙ at_first (same w w_answer) _ _ e);
              one = λ o t s h. a.one o t s h ∙ ap (λ (x : List ℕ). over 0 x u) (sym (at_next (same w w_tx) (tx_one s) _ e1 ∙ at_next (same w w_return) (return_one s) _ e2 ∙ at_next (same w w_block) (block_one s) _ e3 ∙ at_first (same w w_answer) (answer_one s) _ e));
              two = λ o t s h. none-two s;
            }

        module _ (e4 : same w w_answer ≡ false) where
          pub worded-rebroadcast : same w w_rebroadcast ≡ true → AnswerAt rebroadcast_of l u y rebroadcast_one r → ListsAt (worded w) l u y v z (one_of w) (two_of w (length u)) r
          unfolding worded_of one_of
          worded-rebroadcast e a =
              record {
                is = λ t s h. a.is t s h ∙ sym (at_next (same w w_tx) _ _ e1 ∙ at_next (same w w_return) _ _ e2 ∙ at_next (same w w_block) _ _ e3 ∙ at_next (same w w_answer) _ _ e4 ∙ at_first (same w w_rebroadcast) _ _ e);
                one = λ o t s h. a.one o t s h
                    ∙ ap (λ (x : List ℕ). over 0 x u) (sym (at_next (same w w_tx) (tx_one s) _ e1 ∙ at_next (same w w_return) (return_one s) _ e2 ∙ at_next (same w w_block) (block_one s) _ e3 ∙ at_next (same w w_answer) (answer_one s) _ e4 ∙ at_first (same w w_rebroadcast) (rebroadcast_one s) [] e));
                two = λ o t s h. none-two s;
              }

          pub worded-change : same w w_rebroadcast ≡ false → y ≡ u → FormAt (change_of w) l r → ListsAt (worded w) l u y v z (one_of w) (two_of w (length u)) r
          unfolding worded_of one_of FormAt
          worded-change e k a =
              record {
                is = λ t s h. a 7 t s h ∙ sym (at_next (same w w_tx) _ _ e1 ∙ at_next (same w w_return) _ _ e2 ∙ at_next (same w w_block) _ _ e3 ∙ at_next (same w w_answer) _ _ e4 ∙ at_next (same w w_rebroadcast) _ _ e);
                one = λ o t s h. k
                    ∙ ap (λ (x : List ℕ). over 0 x u) (sym (at_next (same w w_tx) (tx_one s) _ e1 ∙ at_next (same w w_return) (return_one s) _ e2 ∙ at_next (same w w_block) (block_one s) _ e3 ∙ at_next (same w w_answer) (answer_one s) _ e4 ∙ at_next (same w w_rebroadcast) (rebroadcast_one s) [] e));
                two = λ o t s h. none-two s;
              }

-- ---- the line

module _ (l u y v z : List ℕ) (r : Form) where
  pub read-not : NoLine l → r ≡ Unread → ReadAt l u y v z r
  read-not n p = record { is = λ m h. absurd (n m h); unread = λ f. p; one = λ i m h. absurd (n m h); two = λ i m h. absurd (n m h) }

  -- a is what is left behind the opening bracket of the line's form
  module _ (a : List ℕ) (o : Opened l a) where
    stands : (m : Members) → Line m l → (t : List ℕ) × Stands a 7 t true (here m)
    unfolding Opened Stands
    stands m p = (o.1, subst (λ (n : Members). Reads 7 true a n o.1) (line-once l o.0 m o.2 p) o.3)

    -- there is a form
    no_other : ((m : Members) → Line m l → ⊥) → r ≡ Unread
    unfolding Opened
    no_other f = absurd (f o.0 o.2)

    pub read-no-word : NoWord a true → r ≡ Unread → ReadAt l u y v z r
    unfolding form_of worded_of change_of query_of measure_of same
    read-no-word f p =
        record {
          is = λ m h. let st = stands m h in
              let w = stands-no-word a true 7 st.0 f (here m) st.1 in p ∙ sym (ap (λ (x : List ℕ). worded_of x (past_word (here m)) (length u) (length v)) w.0);
          unread = λ k. p;
          one = λ i. true-false (sym (ap is_read p) ∙ i) refl;
          two = λ i. true-false (sym (ap is_read p) ∙ i) refl;
        }

    pub read_word : (w b : List ℕ) → WordHere a true w b → ListsAt (worded w) b u y v z (one_of w) (two_of w (length u)) r → ReadAt l u y v z r
    unfolding form_of
    read_word w b f k =
        record {
          is = λ m h. let st = stands m h in
              let x = stands_word a true 7 st.0 w b f (here m) st.1 in
              k.is st.0 (past_word (here m)) x.1 ∙ ap (λ (c : List ℕ). worded_of c (past_word (here m)) (length u) (length v)) (sym x.0);
          unread = no_other;
          one = λ i m h. let st = stands m h in
              let x = stands_word a true 7 st.0 w b f (here m) st.1 in
              k.one i st.0 (past_word (here m)) x.1 ∙ ap (λ (c : List ℕ). over 0 (one_of c (past_word (here m))) u) (sym x.0);
          two = λ i m h. let st = stands m h in
              let x = stands_word a true 7 st.0 w b f (here m) st.1 in
              k.two i st.0 (past_word (here m)) x.1 ∙ ap (λ (c : List ℕ). over 0 (two_of c (length u) (past_word (here m))) v) (sym x.0);
        }

-- THEOREM: two spellings of one form are read equal, whatever spaces part their members
pub two_spellings : (m : Members) (l k u y v z y' z' : List ℕ) (r q : Form) → Line m l → Line m k → ReadAt l u y v z r → ReadAt k u y' v z' q → r ≡ q
two_spellings m l k u y v z y' z' r q p h a b = a.is m p ∙ sym (b.is m h)
