-- A line of a file, tidied: document 02, "reads such a file and writes each form in a single spelling .. Unreadable lines and line ends are copied unchanged".
-- Readable is what poolrun reads, whose lists have room for 14,336 words.
use Rattle.std.specs.Prelude.{ℕ, ◌+◌, ◌≤◌, ◌<◌, ◌≡◌, Bool, length, get_or, drop}
use Rattle.std.proofs.Math.Path.{refl, sym, subst}
use Rattle.std.proofs.Common.{ap, ap₂, ◌∙◌, arith, add-one, drop_of_length-le, drop-cons, ne_eqb}
use Rattle.std.proofs.Math.Bool.{true, false}
use mathlib.Core.List.{List, [], ◌∷◌, ◌++◌, append_assoc, append-nil}
use Rattle.words.specs.Lists.{pick}
use Rattle.forms.specs.Text.{Members, Line, Opened, NoLine, is_word}
use Rattle.forms.specs.TextLaws.{true-false, line-once}
use Rattle.forms.specs.Nums.{Prints}
use Rattle.replies.specs.ReplyLaws.{prints-none, prints-then, Printing, printing-none}
use Rattle.lines.specs.declared.read.Form.{Form}
use Rattle.lines.specs.Forms.{is_read, form_of, ReadAt}
use Rattle.spelling.specs.declared.Before.{Before}
use Rattle.spelling.specs.declared.Before.TheVariants.{Start, Member, Space}
use Rattle.spelling.specs.declared.Place.{Place}
use Rattle.spelling.specs.Spelling.{tidied, text, spelled, lower, goes, leads, owes, put, joins, squeezed}
use Rattle.spelling.specs.SqueezeLaws.{due, due-le, none-due, put-length, at-space, at-lead, at_byte, not-longer, line-tidied, tidied-twice, squeezed-line}
use Rattle.spelling.specs.FormBack.{Out, read_back}

-- the line l comes out as t
pub data Tidied (l : List ℕ) : List ℕ → Type 0 where
  read : (m : Members) → Line m l → is_read (form_of 14336 14336 m) ≡ true → Tidied l (spelled m)
  kept : ((m : Members) → Line m l → is_read (form_of 14336 14336 m) ≡ false) → Tidied l l

-- ---- THEOREMS of one line

-- there is one
pub tidied-once : {l t u : List ℕ} → Tidied l t → Tidied l u → t ≡ u
tidied-once {l} (read m p e) (read n q f) = ap spelled (line-once l m n p q)
tidied-once (read m p e) (kept n) = true-false e (n m p)
tidied-once (kept n) (read m p e) = true-false e (n m p)
tidied-once (kept n) (kept m) = refl

-- "tidying twice equals tidying once"
pub tidied-again : {l t : List ℕ} → Tidied l t → Tidied t t
unfolding spelled
tidied-again {l} (read m p e) =
    let b = ap (λ (r : Out). is_read r.form) (read_back 14336 14336 m e) ∙ e in
    subst (λ (z : List ℕ). Tidied (spelled m) z) (ap (λ (z : Members). 40 ∷ text true z) (tidied-twice m)) (read (tidied m) (line-tidied m l p) b)
tidied-again (kept n) = kept n

-- a tidied line is never longer
pub tidied-short : {l t : List ℕ} → Tidied l t → length t ≤ length l
tidied-short {l} (read m p e) = not-longer m l p
tidied-short (kept n) = omega arith

-- a line of more than 4,096 bytes stays
pub tidied-long : {l t : List ℕ} → 4096 < length l → Tidied l t → t ≡ l
unfolding Line
tidied-long h (read m p e) = absurd (omega (arith, p.4))
tidied-long h (kept n) = refl

-- ---- what the functions promise

-- a byte of a member stands right before the next byte
abbrev pub is_tight : Before → Bool
is_tight Start = false
is_tight Member = true
is_tight Space = false

-- a space is owed to the next member
abbrev pub is_owed : Before → Bool
is_owed Start = false
is_owed Member = false
is_owed Space = true

pub record Spaces (b r : Before) : Type 0 where
  pub tight : is_tight r ≡ false
  pub owed : is_owed r ≡ pick (is_tight b) true (is_owed b)

-- what is left from byte i of l on, squeezed
abbrev pub ahead : List ℕ → ℕ → Place → List ℕ
ahead l i p = squeezed (is_tight p.before) (is_owed p.before) (drop i l)

-- the byte at i of l: `text` is printed
pub record Takes (l : List ℕ) (i : ℕ) (x : List ℕ) (p : Place) (y : List ℕ) (r : Place) : Type 0 where
  pub text : List ℕ
  pub is : ahead l i p ≡ text ++ ahead l (i + 1) r
  pub prints : Prints text p.at x y r.at
  pub room : r.at + due (is_owed r.before) ≤ p.at + due (is_owed p.before) + 1

pub record Tidies (l x y : List ℕ) (r : ℕ) : Type 0 where
  pub text : List ℕ
  pub is : Tidied l text
  pub prints : Prints text 0 x y r

-- ---- the laws that their proofs cite

module _ (l : List ℕ) (i : ℕ) (x : List ℕ) (p : Place) (h : i < length l) where
  here-is : (t o : Bool) → squeezed t o (drop i l) ≡ squeezed t o (get_or l i 0 ∷ drop (i + 1) l)
  here-is t o = ap (squeezed t o) (drop-cons l i 0 h ∙ ap (λ (n : ℕ). get_or l i 0 ∷ drop n l) (sym (add-one i)))

  pub take-space : (b : Before) → get_or l i 0 ≡ 32 → Spaces p.before b → Takes l i x p x (record { at = p.at; before = b })
  take-space b e s =
      record {
        text = [];
        is = here-is (is_tight p.before) (is_owed p.before) ∙ at-space (is_tight p.before) (is_owed p.before) (get_or l i 0) (drop (i + 1) l) e ∙ ap₂ (λ (t o : Bool). squeezed t o (drop (i + 1) l)) (sym s.tight) (sym s.owed);
        prints = prints-none p.at x;
        room = omega (arith, due-le (is_owed b));
      }

  pub take-lead : (get_or l i 0 ≡ 32 → ⊥) → leads (is_tight p.before) (get_or l i 0) (drop (i + 1) l) ≡ true → Takes l i x p x p
  take-lead n e =
      record {
        text = [];
        is = here-is (is_tight p.before) (is_owed p.before) ∙ at-lead (is_tight p.before) (is_owed p.before) (get_or l i 0) (drop (i + 1) l) (ne_eqb _ 32 n) e;
        prints = prints-none p.at x;
        room = omega arith;
      }

  pub take_put : (y : List ℕ) (r : Place) → (get_or l i 0 ≡ 32 → ⊥) → leads (is_tight p.before) (get_or l i 0) (drop (i + 1) l) ≡ false → Prints (put (is_owed p.before) (get_or l i 0)) p.at x y r.at
      → is_tight r.before ≡ joins (get_or l i 0) → is_owed r.before ≡ false → Takes l i x p y r
  take_put y r n e w t o =
      record {
        text = put (is_owed p.before) (get_or l i 0);
        is = here-is (is_tight p.before) (is_owed p.before) ∙ at_byte (is_tight p.before) (is_owed p.before) (get_or l i 0) (drop (i + 1) l) (ne_eqb _ 32 n) e
            ∙ ap₂ (λ (a b : Bool). put (is_owed p.before) (get_or l i 0) ++ squeezed a b (drop (i + 1) l)) (sym t) (sym o);
        prints = w;
        room = omega (arith, w.ends, put-length (is_owed p.before) (get_or l i 0), ap due o ∙ none-due);
      }

-- what is printed and what is left are the whole
pub squeeze-start : (l x : List ℕ) → Printing (squeezed false false l) (squeezed false false (drop 0 l)) 0 x x 0
squeeze-start l x = printing-none (squeezed false false l) 0 x

pub squeeze-turn : {w x y z : List ℕ} (l : List ℕ) (i : ℕ) (p r : Place) → p.at ≤ length x → Printing w (ahead l i p) 0 x y p.at → Takes l i y p z r → Printing w (ahead l (i + 1) r) 0 x z r.at
squeeze-turn l i p r h g k =
    record { text = g.text ++ k.text; joins = append_assoc g.text k.text _ ∙ ap (λ (s : List ℕ). g.text ++ s) (sym k.is) ∙ g.joins; prints = prints-then h g.prints k.prints }

pub squeeze-end : {w x y : List ℕ} (l : List ℕ) (i : ℕ) (p : Place) → length l ≤ i → Printing w (ahead l i p) 0 x y p.at → Prints w 0 x y p.at
unfolding squeezed
squeeze-end {w} {x} {y} l i p h g =
    let e : g.text ≡ w = sym (append-nil g.text) ∙ ap (λ (s : List ℕ). g.text ++ squeezed (is_tight p.before) (is_owed p.before) s) (sym (drop_of_length-le l {i = i} h)) ∙ g.joins in
    subst (λ (s : List ℕ). Prints s 0 x y p.at) e g.prints

-- the answers

module _ (l x y : List ℕ) (k : ℕ) where
  pub tidies-not : NoLine l → Prints l 0 x y k → Tidies l x y k
  tidies-not n w = record { text = l; is = kept (λ m p. absurd (n m p)); prints = w }

  -- the form that the line is read as
  module _ (u f v s : List ℕ) (form : Form) (one : length u ≡ 14336) (two : length v ≡ 14336) (q : ReadAt l u f v s form) where
    form-is : (m : Members) → Line m l → is_read form ≡ is_read (form_of 14336 14336 m)
    form-is m p = ap is_read (q.is m p ∙ ap₂ (λ (a b : ℕ). form_of a b m) one two)

    pub tidies-read : (a : List ℕ) (b : Bool) → Opened l a → b ≡ is_read form → b ≡ true → Prints (squeezed false false l) 0 x y k → Tidies l x y k
    unfolding Opened
    tidies-read a b z t h w =
        record { text = spelled z.0; is = read z.0 z.2 (sym (form-is z.0 z.2) ∙ sym t ∙ h); prints = subst (λ (c : List ℕ). Prints c 0 x y k) (squeezed-line z.0 l z.2) w }

    pub tidies-kept : (b : Bool) → b ≡ is_read form → b ≡ false → Prints l 0 x y k → Tidies l x y k
    tidies-kept b t h w = record { text = l; is = kept (λ m p. sym (form-is m p) ∙ sym t ∙ h); prints = w }

-- ---- tests of one byte

module _ (c : ℕ) where
  pub put_two : (o : Bool) → owes o c ≡ true → 32 ∷ lower c ∷ [] ≡ put o c
  unfolding put
  put_two o e = sym (ap (λ (b : Bool). pick b (32 ∷ lower c ∷ []) (lower c ∷ [])) e)

  pub put_one : (o : Bool) → owes o c ≡ false → lower c ∷ [] ≡ put o c
  unfolding put
  put_one o e = sym (ap (λ (b : Bool). pick b (32 ∷ lower c ∷ []) (lower c ∷ [])) e)

  pub owed-due : (o : Bool) → owes o c ≡ true → due o ≡ 1
  unfolding owes due
  owed-due true e = refl
  owed-due false e = true-false e refl

pub goes_at : (l : List ℕ) (j : ℕ) → j < length l → is_word (get_or l j 0) ≡ goes (drop j l)
unfolding goes
goes_at l j h = sym (ap goes (drop-cons l j 0 h))

pub goes_end : (l : List ℕ) (j : ℕ) → length l ≤ j → false ≡ goes (drop j l)
unfolding goes
goes_end l j h = sym (ap goes (drop_of_length-le l {i = j} h))

module _ {x y : List ℕ} {at r b : ℕ} (c : ℕ) (o : Bool) where
  pub put_both : {z : List ℕ} {k : ℕ} → owes o c ≡ true → b ≡ lower c → k ≤ length x → Prints (32 ∷ []) at x y k → Prints (b ∷ []) k y z r → Prints (put o c) at x z r
  put_both {z} {k} e f h p q = subst (λ (t : List ℕ). Prints t at x z r) (ap (λ (n : ℕ). 32 ∷ n ∷ []) f ∙ put_two c o e) (prints-then h p q)

  pub put-single : owes o c ≡ false → b ≡ lower c → Prints (b ∷ []) at x y r → Prints (put o c) at x y r
  put-single e f p = subst (λ (t : List ℕ). Prints t at x y r) (ap (λ (n : ℕ). n ∷ []) f ∙ put_one c o e) p
