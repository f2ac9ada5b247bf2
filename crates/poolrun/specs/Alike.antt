-- THEOREM `poolrun-alike`. Document 02: "`poolrun` gives the same output on the tidied file, line numbers included." Over the specification of the loop (Input):
-- whatever the reads cut both files into, what is printed of the tidied file, and what is held then, is what it is of the file.
use Rattle.std.specs.Prelude.{ℕ, ◌+◌, ◌≤◌, ◌≡◌, refl, true, false, List, [], ◌∷◌, ◌++◌, length}
use Rattle.std.proofs.Common.{sym, ap, subst, ◌∙◌, append_assoc, append-nil, arith, length-append, lt-ltb}
use Rattle.words.specs.Lists.{yes}
use Rattle.forms.specs.Text.{Members, Line, spaces}
use Rattle.forms.specs.TextLaws.{true-false}
use Rattle.spelling.specs.Spelling.{text, tidied, spelled}
use Rattle.spelling.specs.SqueezeLaws.{not-longer}
use Rattle.spelling.specs.Tidied.{Tidied, read, kept}
use Rattle.spelling.specs.File as F
use Rattle.spelling.specs.File.{File, Clean, clean-tidied, read_alike, input_of, Cut, end, piece}
use Rattle.poolrun.specs.Input as I
use Rattle.poolrun.specs.Input.{State, add_byte, added, Comes, Answered, Step, adds, ends, Fed, none, more, ended, Finished, between, last, Turn, some, Served, unread, reads}
use Rattle.poolrun.specs.Poolrun.{fed-join, fed-over}

-- ---- the bytes of a line

unfoldable add_all : List ℕ → List ℕ → List ℕ
add_all l [] = l
add_all l (b ∷ bs) = add_all (add_byte l b) bs

add-short : (l bs : List ℕ) → length l + length bs ≤ 4097 → add_all l bs ≡ l ++ bs
unfolding add_all add_byte
add-short l [] h = sym (append-nil l)
add-short l (b ∷ bs) h =
    ap (λ (z : List ℕ). add_all z bs) (yes _ _ _ (lt-ltb (length l) 4097 (omega arith))) ∙ add-short (l ++ (b ∷ [])) bs (omega (arith, length-append l (b ∷ []))) ∙ append_assoc l (b ∷ []) bs

abbrev with-line : List ℕ → State → State
with-line l s = record { line = l; number = s.number; over = s.over; words = s.words; kept = s.kept }

-- the state behind bytes without a line end
abbrev held : List ℕ → State → State
held l s = with-line (add_all s.line l) s

clean-fed : (l : List ℕ) (s : State) → Clean l → Fed l s [] (held l s)
unfolding Clean add_all added
clean-fed [] s c = none
clean-fed (b ∷ l) s c = more (adds c.0) (clean-fed l (added b s) c.1)

fed-clean : {t : List ℕ} {s s' : State} (l : List ℕ) → Clean l → Fed l s t s' → (t ≡ []) × (s' ≡ held l s)
unfolding Clean add_all added
fed-clean [] c none = (refl, refl)
fed-clean {s = s} (b ∷ l) c (more (adds h) f) = fed-clean {s = added b s} l c.1 f
fed-clean (b ∷ l) c (more (ends q x) f) = absurd (c.0 q)

-- what is fed in two parts
record Parts (a b : List ℕ) (s : State) (t : List ℕ) (s' : State) : Type 0 where
  pub mid : State
  pub one : List ℕ
  pub two : List ℕ
  pub first : Fed a s one mid
  pub second : Fed b mid two s'
  pub is : t ≡ one ++ two

fed-split : {b t : List ℕ} {s s' : State} (a : List ℕ) → Fed (a ++ b) s t s' → Parts a b s t s'
fed-split {t = t} {s = s} [] f = record { mid = s; one = []; two = t; first = none; second = f; is = refl }
fed-split (c ∷ a) (more {t = t} {ts} x f) =
    let p = fed-split a f in
    record { mid = p.mid; one = t ++ p.one; two = p.two; first = more x p.first; second = p.second; is = ap (λ (z : List ℕ). t ++ z) p.is ∙ sym (append_assoc t p.one p.two) }

-- ---- the answer to a line

no_line : (m : Members) → Line m [] → ⊥
unfolding Line
no_line m p = absurd (omega (arith, ap length p.3, length-append (spaces p.0) (40 ∷ (p.2 ++ spaces p.1))))

line-le : (m : Members) (l : List ℕ) → Line m l → length l ≤ 4096
unfolding Line
line-le m l p = p.4

some-text : (m : Members) → spelled m ≡ [] → ⊥
unfolding spelled
some-text m e = absurd (let z : length (40 ∷ text true (tidied m)) ≡ 0 = ap length e in omega arith)

comes-alike : {l u : List ℕ} {n : ℕ} {w : I.Words} {h : _} {m : _} → Tidied l u → Comes l n w h m → Comes u n w h m
comes-alike t c =
    record {
      form = c.form;
      first = c.first;
      second = c.second;
      reads = record { one = c.reads.one; two = c.reads.two; one-room = c.reads.one-room; two-room = c.reads.two-room; read = read_alike t _ _ _ _ _ c.reads.one-room c.reads.two-room c.reads.read };
      is = c.is;
    }

answered-alike : {u t : List ℕ} {s s' : State} → Tidied s.line u → Answered s t s' → Answered (with-line u s) t s'
answered-alike h x =
    record { line = x.line; number = x.number; over = x.over; to = x.to; comes = comes-alike h x.comes; says = x.says; before = x.before; out = x.out; leaves = x.leaves }

module _ (s : State) (new : s.line ≡ []) where
  whole-held : (l : List ℕ) → length l ≤ 4097 → held l s ≡ with-line l s
  whole-held l h = ap (λ (z : List ℕ). with-line z s) (ap (λ (z : List ℕ). add_all z l) new ∙ add-short [] l (omega arith))

  -- the same answer where the line ends
  end-alike : {l u t : List ℕ} {s' : State} → Tidied l u → Answered (held l s) t s' → Answered (held u s) t s'
  end-alike (kept n) x = x
  end-alike {l} {u} {t} {s'} (read m p e) x =
      let y : Answered (with-line l s) t s' = subst (λ (z : State). Answered z t s') (whole-held l (omega (arith, line-le m l p))) x in
      subst (λ (z : State). Answered z t s') (sym (whole-held (spelled m) (omega (arith, not-longer m l p, line-le m l p)))) (answered-alike (read m p e) y)

  -- and where the file does
  last-alike : {l u t : List ℕ} {s' : State} → Tidied l u → Finished (held l s) t s' → Finished (held u s) t s'
  last-alike (kept n) x = x
  last-alike {l} (read m p e) (between q) = absurd (no_line m (subst (Line m) (sym (ap (λ (z : State). z.line) (whole-held l (omega (arith, line-le m l p)))) ∙ q) p))
  last-alike {l} (read m p e) (last q x) =
      last (λ z. some-text m (sym (ap (λ (y : State). y.line) (whole-held (spelled m) (omega (arith, not-longer m l p, line-le m l p)))) ∙ z)) (end-alike (read m p e) x)

-- ---- a whole file

-- it is fed, and then the input ends
pub record Runs (f : List ℕ) (s : State) (t : List ℕ) (s' : State) : Type 0 where
  pub mid : State
  pub one : List ℕ
  pub two : List ℕ
  pub fed : Fed f s one mid
  pub finished : Finished mid two s'
  pub is : t ≡ one ++ two

-- a line and its end, and the rest of the file
line-alike : {l v f u one two rest t : List ℕ} {s mid mid' s' : State} → Clean l → Tidied l v → s.line ≡ [] → ((z : State) (w : List ℕ) → z.line ≡ [] → Runs f z w s' → Runs u z w s')
    → Fed l s one mid → Fed (10 ∷ f) mid two mid' → Finished mid' rest s' → t ≡ (one ++ two) ++ rest → Runs (v ++ (10 ∷ u)) s t s'
line-alike c h new ih a (more (adds n) k) d i = absurd (n refl)
line-alike {l} {v} {rest = rest} {s = s} c h new ih a (more {ts = ts} {s' = s2} (ends {t} e y) k) d i =
    let q = fed-clean l c a in
    let z : Answered (held v s) t s2 = end-alike s new h (subst (λ (w : State). Answered w t s2) q.1 y) in
    let n = ih s2 (ts ++ rest) y.line (record { mid = _; one = ts; two = rest; fed = k; finished = d; is = refl }) in
    record {
      mid = n.mid;
      one = (t ++ (10 ∷ [])) ++ n.one;
      two = n.two;
      fed = fed-join (clean-fed v s (clean-tidied c h)) (more (ends refl z) n.fed);
      finished = n.finished;
      is = i ∙ ap (λ (w : List ℕ). (w ++ ((t ++ (10 ∷ [])) ++ ts)) ++ rest) q.0 ∙ append_assoc (t ++ (10 ∷ [])) ts rest
          ∙ ap (λ (w : List ℕ). (t ++ (10 ∷ [])) ++ w) n.is ∙ sym (append_assoc (t ++ (10 ∷ [])) n.one n.two);
    }

pub file-alike : {f u t : List ℕ} {s s' : State} → File f u → s.line ≡ [] → Runs f s t s' → Runs u s t s'
file-alike {f} {u} {t} {s} {s'} (F.last c h) new r =
    let q = fed-clean f c r.fed in
    record {
      mid = held u s;
      one = [];
      two = r.two;
      fed = clean-fed u s (clean-tidied c h);
      finished = last-alike s new h (subst (λ (z : State). Finished z r.two s') q.1 r.finished);
      is = r.is ∙ ap (λ (z : List ℕ). z ++ r.two) q.0;
    }
file-alike (F.line {l} c h g) new r =
    let p = fed-split l r.fed in
    line-alike c h new (λ z w q k. file-alike g q k) p.first p.second r.finished (r.is ∙ ap (λ (z : List ℕ). z ++ r.two) p.is)

-- ---- reads

pub finished-over : {t : List ℕ} {s s' : State} → Finished s t s' → s'.over ≡ true
unfolding ended
finished-over (between h) = refl
finished-over (last h x) = refl

-- behind the end nothing is read
stopped : {rs : List (List ℕ)} {t : List ℕ} {s s' : State} → s.over ≡ true → Served rs s t s' → (input_of rs ≡ []) × (t ≡ []) × (s ≡ s')
unfolding input_of
stopped e unread = (refl, refl, refl)
stopped e (reads h x f) = true-false e h

pub served-runs : {rs : List (List ℕ)} {t : List ℕ} {s s' : State} → Served rs s t s' → s.over ≡ false → s'.over ≡ true → Runs (input_of rs) s t s'
unfolding input_of
served-runs unread o e = true-false e o
served-runs {s = s} {s' = s'} (reads {t = t} {ts} {s' = s2} h (I.over x) f) o e =
    let z = stopped (finished-over x) f in
    record {
      mid = s;
      one = [];
      two = t;
      fed = subst (λ (w : List ℕ). Fed w s [] s) (sym z.0) none;
      finished = subst (λ (w : State). Finished s t w) z.2 x;
      is = ap (λ (w : List ℕ). t ++ w) z.1 ∙ append-nil t;
    }
served-runs (reads {t = t} {ts} h (some x) f) o e =
    let n = served-runs f (fed-over x ∙ o) e in
    record { mid = n.mid; one = t ++ n.one; two = n.two; fed = fed-join x n.fed; finished = n.finished; is = ap (λ (w : List ℕ). t ++ w) n.is ∙ sym (append_assoc t n.one n.two) }

fed-none : {t : List ℕ} {s s' : State} → Fed [] s t s' → (t ≡ []) × (s' ≡ s)
fed-none none = (refl, refl)

runs-served : {rs : List (List ℕ)} {t : List ℕ} {s s' : State} → Cut rs → s.over ≡ false → Runs (input_of rs) s t s' → Served rs s t s'
unfolding input_of
runs-served {t = t} {s = s} {s' = s'} end o r =
    let q = fed-none r.fed in
    subst (λ (w : List ℕ). Served ([] ∷ []) s w s') (append-nil r.two ∙ sym (r.is ∙ ap (λ (w : List ℕ). w ++ r.two) q.0))
    (reads o (I.over (subst (λ (z : State). Finished z r.two s') q.1 r.finished)) unread)
runs-served {t = t} {s = s} {s' = s'} (piece {b} {bs} {rs} c) o r =
    let p = fed-split (b ∷ bs) r.fed in
    let n = runs-served c (fed-over p.first ∙ o) (record { mid = r.mid; one = p.two; two = r.two; fed = p.second; finished = r.finished; is = refl }) in
    subst (λ (w : List ℕ). Served ((b ∷ bs) ∷ rs) s w s') (sym (r.is ∙ ap (λ (w : List ℕ). w ++ r.two) p.is ∙ append_assoc p.one p.two r.two)) (reads o (some p.first) n)

-- THEOREM: if the reads rs bring a file and the reads us the same file tidied, what is printed of us, and what is held at the end, is what it is of rs
pub poolrun-alike : {rs us : List (List ℕ)} {t : List ℕ} {s s' : State} → File (input_of rs) (input_of us) → Cut us → s.line ≡ [] → s.over ≡ false → Served rs s t s' → s'.over ≡ true → Served us s t s'
poolrun-alike f c new o g e = runs-served c o (file-alike f new (served-runs g o e))
