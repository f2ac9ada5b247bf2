-- Laws of the spelling of a line: the bytes squeezed are the form's single spelling (`squeezed-line`), no longer than the line (`not-longer`), and
-- themselves a line of the form with tidied members (`line-tidied`).
use Rattle.std.specs.Prelude.{ℕ, zero, suc, ◌+◌, ◌<◌, ◌≤◌, ◌≡◌, Bool, List, [], ◌∷◌, ◌++◌, length, eqb}
use Rattle.std.proofs.Math.Path.{refl, ap, ap₂}
use Rattle.std.proofs.Common.{sym, ◌∙◌, append_assoc, append-nil, arith, length-append, eqb-true, ne_eqb}
use Rattle.std.proofs.Math.Bool.{true, false}
use Rattle.std.proofs.lemmas.Bool.{eqb-false}
use Rattle.words.specs.Lists.{pick}
use Rattle.forms.specs.Text.{Members, none, word, sub, is_word, All, Stops, IsWord, spaces, Gap, Spells, Line}
use Rattle.forms.specs.TextLaws.{by_bool, word-space, word-open, word-close, reads_of, reads-stops}
use Rattle.spelling.specs.Spelling.{lower, lowered, plain, tidied, gap, text, spelled, goes, leads, owes, put, joins, squeezed}
use Rattle.spelling.specs.WordLaws.{plain_word, plain-twice}

-- ---- one byte

module _ (t o : Bool) (c : ℕ) (s : List ℕ) where
  pub at-space : c ≡ 32 → squeezed t o (c ∷ s) ≡ squeezed false (pick t true o) s
  unfolding squeezed
  at-space e = ap (λ (n : ℕ). pick (eqb n 32) (squeezed false (pick t true o) s) (pick (leads t n s) (squeezed t o s) (put o n ++ squeezed (joins n) false s))) e

  pub at-lead : eqb c 32 ≡ false → leads t c s ≡ true → squeezed t o (c ∷ s) ≡ squeezed t o s
  unfolding squeezed
  at-lead e f = ap₂ (λ (a b : Bool). pick a (squeezed false (pick t true o) s) (pick b (squeezed t o s) (put o c ++ squeezed (joins c) false s))) e f

  pub at_byte : eqb c 32 ≡ false → leads t c s ≡ false → squeezed t o (c ∷ s) ≡ put o c ++ squeezed (joins c) false s
  unfolding squeezed
  at_byte e f = ap₂ (λ (a b : Bool). pick a (squeezed false (pick t true o) s) (pick b (squeezed t o s) (put o c ++ squeezed (joins c) false s))) e f

-- a byte of a word
module _ (c : ℕ) (e : is_word c ≡ true) where
  put_word : (o : Bool) → put o c ≡ pick o (32 ∷ []) [] ++ (lower c ∷ [])
  unfolding put owes
  put_word true = ap (λ (b : Bool). pick (pick b false true) (32 ∷ lower c ∷ []) (lower c ∷ [])) (ne_eqb c 41 (word-close c e))
  put_word false = refl

  joins-word : joins c ≡ true
  unfolding joins
  joins-word = ap (λ (b : Bool). pick b false true) (ne_eqb c 40 (word-open c e))

no_lead : (c : ℕ) (s : List ℕ) → (c ≡ 48 → ⊥) → leads false c s ≡ false
unfolding leads
no_lead c s n = ap (λ (b : Bool). pick b (goes s) false) (ne_eqb c 48 n)

last-lead : (c : ℕ) (s : List ℕ) → Stops is_word s → leads false c s ≡ false
unfolding leads goes Stops
last-lead c [] h = any (eqb c 48)
  where
    any : (b : Bool) → pick b false false ≡ false
    any true = refl
    any false = refl
last-lead c (a ∷ s) h = ap (λ (t : Bool). pick (eqb c 48) t false) h ∙ any (eqb c 48)
  where
    any : (b : Bool) → pick b false false ≡ false
    any true = refl
    any false = refl

-- ---- a word

in-word : (w u : List ℕ) → All is_word w → squeezed true false (w ++ u) ≡ lowered w ++ squeezed true false u
unfolding lowered All leads
in-word [] u a = refl
in-word (c ∷ w) u a =
    at_byte true false c (w ++ u) (word-space c a.0) refl
    ∙ ap₂ (λ (p : List ℕ) (j : Bool). p ++ squeezed j false (w ++ u)) (put_word c a.0 false) (joins-word c a.0)
    ∙ ap (λ (z : List ℕ). lower c ∷ z) (in-word w u a.1)

-- the byte that begins one
starts : (o : Bool) (c : ℕ) (w u : List ℕ) → All is_word (c ∷ w) → leads false c (w ++ u) ≡ false
    → squeezed false o ((c ∷ w) ++ u) ≡ pick o (32 ∷ []) [] ++ (lowered (c ∷ w) ++ squeezed true false u)
unfolding lowered All
starts o c w u a f =
    at_byte false o c (w ++ u) (word-space c a.0) f
    ∙ ap₂ (λ (p : List ℕ) (j : Bool). p ++ squeezed j false (w ++ u)) (put_word c a.0 o) (joins-word c a.0)
    ∙ append_assoc (pick o (32 ∷ []) []) (lower c ∷ []) (squeezed true false (w ++ u))
    ∙ ap (λ (z : List ℕ). pick o (32 ∷ []) [] ++ (lower c ∷ z)) (in-word w u a.1)

goes-word : (a : ℕ) (s : List ℕ) → is_word a ≡ true → leads false 48 (a ∷ s) ≡ true
unfolding leads goes
goes-word a s e = e

pub at-word : (o : Bool) (w u : List ℕ) → IsWord w → Stops is_word u → squeezed false o (w ++ u) ≡ pick o (32 ∷ []) [] ++ (plain w ++ squeezed true false u)
unfolding plain All lowered
at-word o [] u h st = absurd (omega arith)
at-word o (c ∷ []) u h st = starts o c [] u h.1 (last-lead c u st)
at-word o (c ∷ (a ∷ w)) u h st =
    by_bool (eqb c 48)
    (λ e. at-lead false o c ((a ∷ w) ++ u) (word-space c h.1.0) (ap (λ (n : ℕ). leads false n ((a ∷ w) ++ u)) (eqb-true c 48 e) ∙ goes-word a (w ++ u) h.1.1.0)
    ∙ at-word o (a ∷ w) u (omega arith, h.1.1) st
    ∙ sym (ap (λ (b : Bool). pick o (32 ∷ []) [] ++ (pick b (plain (a ∷ w)) (lowered (c ∷ (a ∷ w))) ++ squeezed true false u)) e))
    (λ e. starts o c (a ∷ w) u h.1 (no_lead c ((a ∷ w) ++ u) (eqb-false c 48 e))
    ∙ sym (ap (λ (b : Bool). pick o (32 ∷ []) [] ++ (pick b (plain (a ∷ w)) (lowered (c ∷ (a ∷ w))) ++ squeezed true false u)) e))

-- ---- spaces

at-spaces : (o : Bool) (k : ℕ) (s : List ℕ) → squeezed false o (spaces k ++ s) ≡ squeezed false o s
at-spaces o zero s = refl
at-spaces o (suc k) s = at-space false o 32 (spaces k ++ s) refl ∙ at-spaces o k s

behind-spaces : (k : ℕ) (s : List ℕ) → 0 < k → squeezed true false (spaces k ++ s) ≡ squeezed false true s
behind-spaces zero s h = absurd (omega arith)
behind-spaces (suc k) s h = at-space true false 32 (spaces k ++ s) refl ∙ at-spaces true k s

only-spaces : (t : Bool) (k : ℕ) → squeezed t false (spaces k) ≡ []
unfolding squeezed
only-spaces t zero = refl
only-spaces false (suc k) = only-spaces false k
only-spaces true (suc k) = ap (λ (z : List ℕ). squeezed false true z) (sym (append-nil (spaces k))) ∙ at-spaces true k []

-- ---- brackets

close-here : (t o : Bool) (s : List ℕ) → squeezed t o (41 ∷ s) ≡ 41 ∷ squeezed true false s
unfolding squeezed leads put owes joins lower
close-here true true s = refl
close-here true false s = refl
close-here false true s = refl
close-here false false s = refl

open-here : (o : Bool) (s : List ℕ) → squeezed false o (40 ∷ s) ≡ pick o (32 ∷ []) [] ++ (40 ∷ squeezed false false s)
unfolding squeezed leads put owes joins lower
open-here true s = refl
open-here false s = refl

-- ---- the members

-- no member stands before (g), or one does
unfoldable before : Bool → Bool
before true = false
before false = true

member-gap : (g : Bool) (k : ℕ) (s : List ℕ) → Gap g k → squeezed (before g) false (spaces k ++ s) ≡ squeezed false (before g) s
unfolding before Gap
member-gap true k s h = at-spaces false k s
member-gap false k s h = behind-spaces k s h

gap_is : (g : Bool) → pick (before g) (32 ∷ []) [] ≡ gap g
unfolding before gap
gap_is true = refl
gap_is false = refl

close-spaced : (t : Bool) (k : ℕ) (s : List ℕ) → squeezed t false (spaces k ++ (41 ∷ s)) ≡ 41 ∷ squeezed true false s
close-spaced t zero s = close-here t false s
close-spaced false (suc k) s = at-spaces false (suc k) (41 ∷ s) ∙ close-here false false s
close-spaced true (suc k) s = behind-spaces (suc k) (41 ∷ s) (omega arith) ∙ close-here false true s

spells-stops : (d : ℕ) (m : Members) (u t : List ℕ) → Spells d false m u → Stops is_word (u ++ t)
spells-stops d m u t p = reads-stops d (u ++ t) m t (reads_of d false m u t p)

squeezed-spells : (d : ℕ) (g : Bool) (m : Members) (s t : List ℕ) → Spells d g m s → squeezed (before g) false (s ++ t) ≡ text g (tidied m) ++ squeezed true false t
unfolding Spells text tidied before
squeezed-spells d g none s t p =
    ap (λ (z : List ℕ). squeezed (before g) false (z ++ t)) p.1
    ∙ ap (squeezed (before g) false) (append_assoc (spaces p.0) (41 ∷ []) t)
    ∙ close-spaced (before g) p.0 t
squeezed-spells d g (word w m) s t p =
    ap (λ (z : List ℕ). squeezed (before g) false (z ++ t)) p.2
    ∙ ap (squeezed (before g) false) (append_assoc (spaces p.0) (w ++ p.1) t ∙ ap (λ (z : List ℕ). spaces p.0 ++ z) (append_assoc w p.1 t))
    ∙ member-gap g p.0 (w ++ (p.1 ++ t)) p.3
    ∙ at-word (before g) w (p.1 ++ t) p.4 (spells-stops d m p.1 t p.5)
    ∙ ap₂ (λ (x y : List ℕ). x ++ (plain w ++ y)) (gap_is g) (squeezed-spells d false m p.1 t p.5)
    ∙ sym (append_assoc (gap g) (plain w ++ text false (tidied m)) (squeezed true false t) ∙ ap (λ (z : List ℕ). gap g ++ z) (append_assoc (plain w) (text false (tidied m)) (squeezed true false t)))
squeezed-spells d g (sub i m) s t p =
    ap (λ (z : List ℕ). squeezed (before g) false (z ++ t)) p.4
    ∙ ap (squeezed (before g) false) (append_assoc (spaces p.0) (40 ∷ (p.2 ++ p.3)) t ∙ ap (λ (z : List ℕ). spaces p.0 ++ (40 ∷ z)) (append_assoc p.2 p.3 t))
    ∙ member-gap g p.0 (40 ∷ (p.2 ++ (p.3 ++ t))) p.5
    ∙ open-here (before g) (p.2 ++ (p.3 ++ t))
    ∙ ap₂ (λ (x y : List ℕ). x ++ (40 ∷ y)) (gap_is g) (squeezed-spells p.1 true i p.2 (p.3 ++ t) p.7 ∙ ap (λ (z : List ℕ). text true (tidied i) ++ z) (squeezed-spells d false m p.3 t p.8))
    ∙ sym (append_assoc (gap g) (40 ∷ (text true (tidied i) ++ text false (tidied m))) (squeezed true false t)
    ∙ ap (λ (z : List ℕ). gap g ++ (40 ∷ z)) (append_assoc (text true (tidied i)) (text false (tidied m)) (squeezed true false t)))

-- THEOREM: the bytes of a readable line, squeezed, are the form's single spelling
pub squeezed-line : (m : Members) (l : List ℕ) → Line m l → squeezed false false l ≡ spelled m
unfolding Line spelled before
squeezed-line m l p =
    ap (squeezed false false) p.3
    ∙ at-spaces false p.0 (40 ∷ (p.2 ++ spaces p.1))
    ∙ open-here false (p.2 ++ spaces p.1)
    ∙ ap (λ (z : List ℕ). 40 ∷ z) (squeezed-spells 7 true m p.2 (spaces p.1) p.5 ∙ ap (λ (z : List ℕ). text true (tidied m) ++ z) (only-spaces true p.1) ∙ append-nil (text true (tidied m)))

-- ---- lengths

unfoldable pub due : Bool → ℕ
due true = 1
due false = 0

pub put-length : (o : Bool) (c : ℕ) → length (put o c) ≤ 1 + due o
unfolding put owes due
put-length true c = any (eqb c 41)
  where
    any : (b : Bool) → length (pick (pick b false true) (32 ∷ lower c ∷ []) (lower c ∷ [])) ≤ 1 + 1
    any true = omega arith
    any false = omega arith
put-length false c = omega arith

pub due-le : (b : Bool) → due b ≤ 1
unfolding due
due-le true = omega arith
due-le false = omega arith

pub none-due : due false ≡ 0
unfolding due
none-due = refl

pub squeezed-length : (t o : Bool) (s : List ℕ) → length (squeezed t o s) ≤ length s + due o
unfolding squeezed
squeezed-length t o [] = omega arith
squeezed-length t o (c ∷ s) =
    by_bool (eqb c 32)
    (λ e. omega (arith, ap length (at-space t o c s (eqb-true c 32 e)), squeezed-length false (pick t true o) s, due-le (pick t true o)))
    (λ e. by_bool (leads t c s)
    (λ f. omega (arith, ap length (at-lead t o c s e f), squeezed-length t o s))
    (λ f. omega (arith, ap length (at_byte t o c s e f), length-append (put o c) (squeezed (joins c) false s), put-length o c, squeezed-length (joins c) false s, none-due)))

-- THEOREM: a tidied line is never longer than its original
pub not-longer : (m : Members) (l : List ℕ) → Line m l → length (spelled m) ≤ length l
unfolding due
not-longer m l p = omega (arith, ap length (squeezed-line m l p), squeezed-length false false l)

-- ---- the spelling is a line of the same form

gap-spaces : (g : Bool) → (k : ℕ) × (gap g ≡ spaces k) × Gap g k
unfolding gap Gap
gap-spaces true = (0, refl, tt)
gap-spaces false = (1, refl, omega arith)

spells-tidied : (d : ℕ) (g : Bool) (m : Members) (s : List ℕ) → Spells d g m s → Spells d g (tidied m) (text g (tidied m))
unfolding Spells text tidied
spells-tidied d g none s p = (0, refl)
spells-tidied d g (word w m) s p =
    let k = gap-spaces g in
    (k.0, text false (tidied m), ap (λ (z : List ℕ). z ++ (plain w ++ text false (tidied m))) k.1, k.2, plain_word w p.4, spells-tidied d false m p.1 p.5)
spells-tidied d g (sub i m) s p =
    let k = gap-spaces g in
    (k.0, p.1, text true (tidied i), text false (tidied m), ap (λ (z : List ℕ). z ++ (40 ∷ (text true (tidied i) ++ text false (tidied m)))) k.1, k.2, p.6, spells-tidied p.1 true i p.2 p.7, spells-tidied d false m p.3 p.8)

pub line-tidied : (m : Members) (l : List ℕ) → Line m l → Line (tidied m) (spelled m)
unfolding Line spelled
line-tidied m l p =
    (0, 0, text true (tidied m), ap (λ (z : List ℕ). 40 ∷ z) (sym (append-nil (text true (tidied m)))), omega (arith, not-longer m l p, p.4), spells-tidied 7 true m p.2 p.5)

-- THEOREM: twice is once
pub tidied-twice : (m : Members) → tidied (tidied m) ≡ tidied m
unfolding tidied
tidied-twice none = refl
tidied-twice (word w m) = ap₂ word (plain-twice w) (tidied-twice m)
tidied-twice (sub i m) = ap₂ sub (tidied-twice i) (tidied-twice m)
