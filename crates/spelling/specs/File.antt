-- A whole file, tidied: its lines end in byte 10, the last where the file ends. Document 02: "Unreadable lines and line ends are copied unchanged"; "tidying
-- twice equals tidying once"; "`poolrun` gives the same output on the tidied file".
use Rattle.std.specs.Prelude.{ℕ, ◌≡◌, Bool, true, false, List, [], ◌∷◌, ◌++◌, length, eqb}
use Rattle.std.proofs.Common.{sym, ap, ap₂, subst, ◌∙◌, arith, eqb-true}
use Rattle.words.specs.Lists.{pick}
use Rattle.forms.specs.Text.{Members, Line}
use Rattle.forms.specs.TextLaws.{by_bool, line-once}
use Rattle.forms.specs.Nums.{over}
use Rattle.lines.specs.declared.read.Form.{Form}
use Rattle.lines.specs.Fields.{here, word_of, past_word}
use Rattle.lines.specs.Forms.{is_read, form_of, one_of, two_of, ReadAt}
use Rattle.spelling.specs.Spelling.{lower, tidied, spelled, leads, owes, put, joins, squeezed}
use Rattle.spelling.specs.WordLaws.{by-case}
use Rattle.spelling.specs.SqueezeLaws.{at-space, at-lead, at_byte, squeezed-line, line-tidied}
use Rattle.spelling.specs.FormBack.{Out, out_of, read_back}
use Rattle.spelling.specs.Tidied.{Tidied, read, kept, tidied-again}

-- no line end among the bytes
unfoldable pub Clean : List ℕ → Type 0
Clean [] = Unit {0}
Clean (b ∷ l) = (b ≡ 10 → ⊥) × Clean l

-- THE SPECIFICATION: the file f comes out as u
pub data File : List ℕ → List ℕ → Type 0 where
  last : {l t : List ℕ} → Clean l → Tidied l t → File l t
  line : {l t f u : List ℕ} → Clean l → Tidied l t → File f u → File (l ++ (10 ∷ f)) (t ++ (10 ∷ u))

-- a file as reads bring it: pieces, up to a read that brings nothing
unfoldable pub input_of : List (List ℕ) → List ℕ
input_of [] = []
input_of (r ∷ rs) = r ++ input_of rs

pub data Cut : List (List ℕ) → Type 0 where
  end : Cut ([] ∷ [])
  piece : {b : ℕ} {bs : List ℕ} {rs : List (List ℕ)} → Cut rs → Cut ((b ∷ bs) ∷ rs)

-- ---- a tidied line has no line end

pub clean-join : (s t : List ℕ) → Clean s → Clean t → Clean (s ++ t)
unfolding Clean
clean-join [] t a b = b
clean-join (c ∷ s) t a b = (a.0, clean-join s t a.1 b)

lower-clean : (c : ℕ) → (c ≡ 10 → ⊥) → lower c ≡ 10 → ⊥
lower-clean c n e = by-case c (λ h q. absurd (omega arith)) (λ h q. n (sym q ∙ e))

put-clean : (o : Bool) (c : ℕ) → (c ≡ 10 → ⊥) → Clean (put o c)
unfolding Clean put
put-clean o c n = go (owes o c)
  where
    go : (b : Bool) → Clean (pick b (32 ∷ lower c ∷ []) (lower c ∷ []))
    go true = (λ e. omega arith, (lower-clean c n, tt))
    go false = (lower-clean c n, tt)

squeezed-clean : (t o : Bool) (s : List ℕ) → Clean s → Clean (squeezed t o s)
unfolding Clean squeezed
squeezed-clean t o [] a = tt
squeezed-clean t o (c ∷ s) a =
    by_bool (eqb c 32)
    (λ e. subst Clean (sym (at-space t o c s (eqb-true c 32 e))) (squeezed-clean false (pick t true o) s a.1))
    (λ e. by_bool (leads t c s)
    (λ f. subst Clean (sym (at-lead t o c s e f)) (squeezed-clean t o s a.1))
    (λ f. subst Clean (sym (at_byte t o c s e f)) (clean-join (put o c) (squeezed (joins c) false s) (put-clean o c a.0) (squeezed-clean (joins c) false s a.1))))

pub clean-tidied : {l t : List ℕ} → Clean l → Tidied l t → Clean t
clean-tidied {l} a (read m p e) = subst Clean (squeezed-line m l p) (squeezed-clean false false l a)
clean-tidied a (kept n) = a

-- ---- THEOREM: "tidying twice equals tidying once"

pub file-twice : {f u : List ℕ} → File f u → File u u
file-twice (last c h) = last (clean-tidied c h) (tidied-again h)
file-twice (line c h r) = line (clean-tidied c h) (tidied-again h) (file-twice r)

-- ---- THEOREM: poolrun reads a tidied line as it reads the line: the same form with the same words of its lists

pub read_alike : {l t : List ℕ} → Tidied l t → (u f v s : List ℕ) (form : Form) → length u ≡ 14336 → length v ≡ 14336 → ReadAt l u f v s form → ReadAt t u f v s form
unfolding spelled
read_alike (kept n) u f v s form a b q = q
read_alike {l} (read m p e) u f v s form a b q =
    record {
      is = λ n r. q.is m p ∙ same ∙ ap (form_of (length u) (length v)) (one-reading n r);
      unread = λ n. absurd (n (tidied m) tidy);
      one = λ h n r. q.one h m p ∙ ap (λ (o : Out). over 0 o.one u) (sym back) ∙ ap (λ (z : Members). over 0 (one_of (word_of (here z)) (past_word (here z))) u) (one-reading n r);
      two = λ h n r. q.two h m p ∙ ap (λ (o : Out). over 0 o.two v) (sym back) ∙ ap (λ (z : Members). over 0 (two_of (word_of (here z)) (length u) (past_word (here z))) v) (one-reading n r);
    }
  where
    tidy : Line (tidied m) (spelled m)
    tidy = line-tidied m l p

    readable : is_read (form_of (length u) (length v) m) ≡ true
    readable = ap₂ (λ (x y : ℕ). is_read (form_of x y m)) a b ∙ e

    back : out_of (length u) (length v) (tidied m) ≡ out_of (length u) (length v) m
    back = read_back (length u) (length v) m readable

    same : form_of (length u) (length v) m ≡ form_of (length u) (length v) (tidied m)
    same = ap (λ (o : Out). o.form) (sym back)

    one-reading : (n : Members) → Line n (spelled m) → tidied m ≡ n
    one-reading n r = line-once (spelled m) (tidied m) n tidy r
