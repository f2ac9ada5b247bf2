-- Laws of readable lines: a spelling has one reading (`once`), and what the reader's tests say of it.
use Rattle.std.specs.Prelude.{ℕ, zero, suc, ◌+◌, ◌-◌, ◌<◌, ◌≤◌, ◌≡◌, Bool, take, cond, not, position, MatchOption, Option, Some, None, unwrap_or, ltb, eqb}
use Rattle.std.proofs.Math.Path.{refl, sym, ap, ap₂, subst}
use Rattle.std.proofs.Common.{◌∙◌, length-drop, take-append-drop, length-take-le, eqb-true, ne_eqb, leb-true, le-leb, ltb-false}
use Rattle.std.proofs.Math.Bool.{true, false}
use mathlib.Core.List.{List, [], ◌∷◌, ◌++◌, append_assoc, append-nil}
use native.Mathlib.Omega.{arith}
use Rattle.std.proofs.Math.ListN.{length, drop, length-append}
use Rattle.std.specs.List.{position_or_len}
use Rattle.std.proofs.lemmas.List.Recursion.{is_position_or_len}
use Rattle.std.proofs.lemmas.List.{length-replicate, take_all}
use Rattle.std.proofs.Math.Dec.{leb}
use Rattle.words.specs.Lists.{pick}
use Rattle.forms.specs.declared.text.Member.{Member}
use Rattle.forms.specs.Text.{within, Members, none, word, sub, is_word, is_space, All, Stops, IsWord, spaces, Gap, Spells, Line, Reads, run, Next, NextClose, NextList, NextWord, NextNone, SomeForm, SomeMembers, Behind, NoMembers, NoForm, Opened, NoLine, WordHere, NoWord, ListHere, NoList, EndHere}

pub true-false : {A : Type 0} {b : Bool} → b ≡ true → b ≡ false → A
true-false e f = absurd (let z : ◌≡◌ {A = Bool} true false = sym e ∙ f in let y : ◌≡◌ {A = ℕ} 0 1 = cc in omega arith)

tails : {c c' : ℕ} {s s' : List ℕ} → c ∷ s ≡ c' ∷ s' → s ≡ s'
tails e = cc

heads : {c c' : ℕ} {s s' : List ℕ} → c ∷ s ≡ c' ∷ s' → c ≡ c'
heads e = cc

sucs : {m n : ℕ} → suc m ≡ suc n → m ≡ n
sucs e = omega arith

-- the longest run of p is one
pub split-once : (p : ℕ → Bool) (w w' : List ℕ) {x x' : List ℕ} → All p w → All p w' → Stops p x → Stops p x' → w ++ x ≡ w' ++ x' → (w ≡ w') × (x ≡ x')
unfolding All Stops
split-once p [] [] a a' h h' e = (refl, e)
split-once p [] (c ∷ w') a a' h h' e = true-false a'.0 (subst (λ (l : List ℕ). Stops p l) e h)
split-once p (c ∷ w) [] a a' h h' e = true-false a.0 (subst (λ (l : List ℕ). Stops p l) (sym e) h')
split-once p (c ∷ w) (c' ∷ w') a a' h h' e =
    let r = split-once p w w' a.1 a'.1 h h' (tails e) in (cc, r.1)

-- ---- runs

pub run-yes : (p : ℕ → Bool) (c : ℕ) (s : List ℕ) → p c ≡ true → run p (c ∷ s) ≡ suc (run p s)
unfolding run
run-yes p c s e = ap (λ (b : Bool). pick b (suc (run p s)) 0) e

pub run-no : (p : ℕ → Bool) (s : List ℕ) → Stops p s → run p s ≡ 0
unfolding run Stops
run-no p [] e = refl
run-no p (c ∷ s) e = ap (λ (b : Bool). pick b (suc (run p s)) 0) e

pub by_bool : {A : Type 0} (b : Bool) → (b ≡ true → A) → (b ≡ false → A) → A
by_bool true f g = f refl
by_bool false f g = g refl

-- a list is its run of p and what stops it
pub run-split : (p : ℕ → Bool) (s : List ℕ) → All p (take (run p s) s) × Stops p (drop (run p s) s)
unfolding run All Stops
run-split p [] = (tt, tt)
run-split p (c ∷ s) =
    let r = run-split p s in
    by_bool (p c)
    (λ e. subst (λ (n : ℕ). All p (take n (c ∷ s)) × Stops p (drop n (c ∷ s))) (sym (run-yes p c s e)) ((e, r.0), r.1))
    (λ e. subst (λ (n : ℕ). All p (take n (c ∷ s)) × Stops p (drop n (c ∷ s))) (sym (run-no p (c ∷ s) e)) (tt, e))

pub run-le : (p : ℕ → Bool) (s : List ℕ) → run p s ≤ length s
unfolding Stops run
run-le p [] = omega arith
run-le p (c ∷ s) =
    let r = run-le p s in
    by_bool (p c) (λ e. omega (arith, run-yes p c s e)) (λ e. omega (arith, run-no p (c ∷ s) e))

-- ---- spaces

pub all-spaces : (k : ℕ) → All is_space (spaces k)
unfolding All
all-spaces zero = tt
all-spaces (suc k) = (refl, all-spaces k)

pub spaces-all : (w : List ℕ) → All is_space w → w ≡ spaces (length w)
unfolding All
spaces-all [] a = refl
spaces-all (c ∷ w) a = ap₂ ◌∷◌ (eqb-true c 32 a.0) (spaces-all w a.1)

spaces-inj : (j k : ℕ) → spaces j ≡ spaces k → j ≡ k
spaces-inj j k e = sym (length-replicate j 32) ∙ ap length e ∙ length-replicate k 32

-- a byte of a word is no space and no bracket
pub word-space : (c : ℕ) → is_word c ≡ true → is_space c ≡ false
unfolding is_word
word-space c e = ne_eqb c 32 (λ h. true-false (sym (ap is_word h) ∙ e) refl)

pub word-open : (c : ℕ) → is_word c ≡ true → c ≡ 40 → ⊥
unfolding is_word
word-open c e h = true-false (sym (ap is_word h) ∙ e) refl

pub word-close : (c : ℕ) → is_word c ≡ true → c ≡ 41 → ⊥
unfolding is_word
word-close c e h = true-false (sym (ap is_word h) ∙ e) refl

pub word-head : (w u : List ℕ) → IsWord w → Stops is_space (w ++ u)
unfolding All Stops
word-head [] u h = absurd (omega arith)
word-head (c ∷ w) u h = word-space c h.1.0

-- ---- what stands after the spaces

-- y after k spaces, with members m: which case it is
unfoldable pub Lead : ℕ → Bool → ℕ → List ℕ → Members → List ℕ → Type 0
Lead d g k y none t = y ≡ 41 ∷ t
Lead d g k y (word w m) t = (u : List ℕ) × (y ≡ w ++ u) × Gap g k × IsWord w × Reads d false u m t
Lead d g k y (sub i m) t = (e : ℕ) × (v : List ℕ) × (u : List ℕ) × (y ≡ 40 ∷ v) × Gap g k × (d ≡ suc e) × Reads e true v i u × Reads d false u m t

pub lead : (d : ℕ) (g : Bool) (k : ℕ) (y : List ℕ) (m : Members) (t : List ℕ) → Stops is_space y → Reads d g (spaces k ++ y) m t → Lead d g k y m t
unfolding Reads Lead Stops
lead d g k y none t h r = (split-once is_space (spaces k) (spaces r.0) (all-spaces k) (all-spaces r.0) h refl r.1).1
lead d g k y (word w m) t h r =
    let e = split-once is_space (spaces k) (spaces r.0) (all-spaces k) (all-spaces r.0) h (word-head w r.1 r.4) r.2 in
    (r.1, e.1, subst (λ (n : ℕ). Gap g n) (spaces-inj _ _ (sym e.0)) r.3, r.4, r.5)
lead d g k y (sub i m) t h r =
    let e = split-once is_space (spaces k) (spaces r.0) (all-spaces k) (all-spaces r.0) h refl r.4 in
    (r.1, r.2, r.3, e.1, subst (λ (n : ℕ). Gap g n) (spaces-inj _ _ (sym e.0)) r.5, r.6, r.7, r.8)

no-nil : {A : Type 0} {c : ℕ} {s : List ℕ} → [] ≡ c ∷ s → A
no-nil e = absurd (let y : ◌≡◌ {A = ℕ} 0 1 = cc in omega arith)

w41 : (t : List ℕ) → Stops is_word (41 ∷ t)
unfolding is_word Stops
w41 t = refl

w32 : (t : List ℕ) → Stops is_word (32 ∷ t)
unfolding is_word Stops
w32 t = refl

gapped : (k : ℕ) (y : List ℕ) → 0 < k → Stops is_word (spaces k ++ y)
gapped zero y h = absurd (omega arith)
gapped (suc k) y h = w32 (spaces k ++ y)

closed : (k : ℕ) (t : List ℕ) → Stops is_word (spaces k ++ (41 ∷ t))
closed zero t = w41 t
closed (suc k) t = w32 (spaces k ++ (41 ∷ t))

-- what comes after a member does not go on with a word
pub reads-stops : (d : ℕ) (s : List ℕ) (m : Members) (t : List ℕ) → Reads d false s m t → Stops is_word s
unfolding Reads Gap
reads-stops d s none t r = subst (λ (l : List ℕ). Stops is_word l) (sym r.1) (closed r.0 t)
reads-stops d s (word w m) t r = subst (λ (l : List ℕ). Stops is_word l) (sym r.2) (gapped r.0 (w ++ r.1) r.3)
reads-stops d s (sub i m) t r = subst (λ (l : List ℕ). Stops is_word l) (sym r.4) (gapped r.0 (40 ∷ r.2) r.5)

-- a word begins with neither bracket
word-not : (c : ℕ) (x w u : List ℕ) {A : Type 0} → is_word c ≡ false → IsWord w → c ∷ x ≡ w ++ u → A
unfolding All
word-not c x [] u f h e = absurd (omega arith)
word-not c x (b ∷ w) u f h e = true-false (ap is_word (heads e) ∙ h.1.0) f

f40 : is_word 40 ≡ false
unfolding is_word
f40 = refl

f41 : is_word 41 ≡ false
unfolding is_word
f41 = refl

s40 : (x : List ℕ) → Stops is_space (40 ∷ x)
unfolding Stops
s40 x = refl

s41 : (x : List ℕ) → Stops is_space (41 ∷ x)
unfolding Stops
s41 x = refl

differ : {A : Type 0} {x y : List ℕ} → 40 ∷ x ≡ 41 ∷ y → A
differ e = absurd (let h : ◌≡◌ {A = ℕ} 40 41 = heads e in omega arith)

-- a closing bracket ends the members
pub close-in : (d : ℕ) (g : Bool) (k : ℕ) (x : List ℕ) (m : Members) (t : List ℕ) → Reads d g (spaces k ++ (41 ∷ x)) m t → (m ≡ none) × (x ≡ t)
unfolding Lead
close-in d g k x m t r = go m (lead d g k (41 ∷ x) m t (s41 x) r)
  where
    go : (m : Members) → Lead d g k (41 ∷ x) m t → (m ≡ none) × (x ≡ t)
    go none l = (refl, tails l)
    go (word w n) l = word-not 41 x w l.0 f41 l.3 l.1
    go (sub i n) l = differ (sym l.3)

-- a word that stands here, whole, is the first member
pub word_in : (d : ℕ) (g : Bool) (k : ℕ) (w x : List ℕ) (m : Members) (t : List ℕ) → IsWord w → Stops is_word x → Reads d g (spaces k ++ (w ++ x)) m t → (n : Members) × (m ≡ word w n) × Reads d false x n t
unfolding Lead
word_in d g k w x m t h st r = go m (lead d g k (w ++ x) m t (word-head w x h) r)
  where
    go : (m : Members) → Lead d g k (w ++ x) m t → (n : Members) × (m ≡ word w n) × Reads d false x n t
    go none l = word-not 41 t w x f41 h (sym l)
    go (word v n) l =
        let e = split-once is_word w v h.1 l.3.1 st (reads-stops d l.0 n t l.4) l.1 in
        (n, ap (λ (z : List ℕ). word z n) (sym e.0), subst (λ (z : List ℕ). Reads d false z n t) (sym e.1) l.4)
    go (sub i n) l = word-not 40 l.1 w x f40 h (sym l.3)

-- an opening bracket begins a list
pub open_in : (d : ℕ) (g : Bool) (k : ℕ) (v : List ℕ) (m : Members) (t : List ℕ) → Reads d g (spaces k ++ (40 ∷ v)) m t
    → (i : Members) × (n : Members) × (e : ℕ) × (u : List ℕ) × (m ≡ sub i n) × (d ≡ suc e) × Reads e true v i u × Reads d false u n t
unfolding Lead
open_in d g k v m t r = go m (lead d g k (40 ∷ v) m t (s40 v) r)
  where
    go : (m : Members) → Lead d g k (40 ∷ v) m t → (i : Members) × (n : Members) × (e : ℕ) × (u : List ℕ) × (m ≡ sub i n) × (d ≡ suc e) × Reads e true v i u × Reads d false u n t
    go none l = differ l
    go (word w n) l = word-not 40 v w l.0 f40 l.3 l.1
    go (sub i n) l = (i, n, l.0, l.2, refl, l.5, subst (λ (z : List ℕ). Reads l.0 true z i l.2) (sym (tails l.3)) l.6, l.7)

-- a spelling has one reading, and one end
pub once : (d : ℕ) (g : Bool) (s : List ℕ) (m n : Members) (t u : List ℕ) → Reads d g s m t → Reads d g s n u → (m ≡ n) × (t ≡ u)
unfolding Reads
once d g s none n t u r q =
    let c = close-in d g r.0 t n u (subst (λ (z : List ℕ). Reads d g z n u) r.1 q) in
    (sym c.0, c.1)
once d g s (word w m) n t u r q =
    let c = word_in d g r.0 w r.1 n u r.4 (reads-stops d r.1 m t r.5) (subst (λ (z : List ℕ). Reads d g z n u) r.2 q) in
    let o = once d false r.1 m c.0 t u r.5 c.2 in
    (ap (word w) o.0 ∙ sym c.1, o.1)
once d g s (sub i m) n t u r q =
    let c = open_in d g r.0 r.2 n u (subst (λ (z : List ℕ). Reads d g z n u) r.4 q) in
    let e : r.1 ≡ c.2 = sucs (sym r.6 ∙ c.5) in
    let o = once r.1 true r.2 i c.0 r.3 c.3 r.7 (subst (λ (z : ℕ). Reads z true r.2 c.0 c.3) (sym e) c.6) in
    let p = once d false r.3 m c.1 t u r.8 (subst (λ (z : List ℕ). Reads d false z c.1 u) (sym o.1) c.7) in
    (ap₂ sub o.0 p.0 ∙ sym c.4, p.1)

-- ---- with and without what follows

pub reads_of : (d : ℕ) (g : Bool) (m : Members) (s t : List ℕ) → Spells d g m s → Reads d g (s ++ t) m t
unfolding Spells Reads
reads_of d g none s t p = (p.0, ap (λ (l : List ℕ). l ++ t) p.1 ∙ append_assoc (spaces p.0) (41 ∷ []) t)
reads_of d g (word w m) s t p =
    (p.0, p.1 ++ t, ap (λ (l : List ℕ). l ++ t) p.2 ∙ append_assoc (spaces p.0) (w ++ p.1) t ∙ ap (λ (l : List ℕ). spaces p.0 ++ l) (append_assoc w p.1 t), p.3, p.4, reads_of d false m p.1 t p.5)
reads_of d g (sub i m) s t p =
    (p.0, p.1, p.2 ++ (p.3 ++ t), p.3 ++ t, ap (λ (l : List ℕ). l ++ t) p.4 ∙ append_assoc (spaces p.0) (40 ∷ (p.2 ++ p.3)) t ∙ ap (λ (l : List ℕ). spaces p.0 ++ (40 ∷ l)) (append_assoc p.2 p.3 t), p.5, p.6, reads_of p.1 true i p.2 (p.3 ++ t) p.7, reads_of d false m p.3 t p.8)

pub spells-of : (d : ℕ) (g : Bool) (m : Members) (s t : List ℕ) → Reads d g s m t → (v : List ℕ) × (s ≡ v ++ t) × Spells d g m v
unfolding Spells Reads
spells-of d g none s t r = (spaces r.0 ++ (41 ∷ []), r.1 ∙ sym (append_assoc (spaces r.0) (41 ∷ []) t), (r.0, refl))
spells-of d g (word w m) s t r =
    let q = spells-of d false m r.1 t r.5 in
    (spaces r.0 ++ (w ++ q.0), r.2 ∙ ap (λ (l : List ℕ). spaces r.0 ++ (w ++ l)) q.1 ∙ sym (append_assoc (spaces r.0) (w ++ q.0) t ∙ ap (λ (l : List ℕ). spaces r.0 ++ l) (append_assoc w q.0 t)), (r.0, q.0, refl, r.3, r.4, q.2))
spells-of d g (sub i m) s t r =
    let q = spells-of r.1 true i r.2 r.3 r.7 in
    let p = spells-of d false m r.3 t r.8 in
    (spaces r.0 ++ (40 ∷ (q.0 ++ p.0)), r.4 ∙ ap (λ (l : List ℕ). spaces r.0 ++ (40 ∷ l)) (q.1 ∙ ap (λ (l : List ℕ). q.0 ++ l) p.1) ∙ sym (append_assoc (spaces r.0) (40 ∷ (q.0 ++ p.0)) t ∙ ap (λ (l : List ℕ). spaces r.0 ++ (40 ∷ l)) (append_assoc q.0 p.0 t)), (r.0, r.1, q.0, p.0, refl, r.5, r.6, q.2, p.2))

-- THEOREM: a line says one thing
pub line-once : (l : List ℕ) (m n : Members) → Line m l → Line n l → m ≡ n
unfolding Line
line-once l m n p q =
    let e = split-once is_space (spaces p.0) (spaces q.0) (all-spaces p.0) (all-spaces q.0) (s40 (p.2 ++ spaces p.1)) (s40 (q.2 ++ spaces q.1)) (sym p.3 ∙ q.3) in
    let r = reads_of 7 true m p.2 (spaces p.1) p.5 in
    let u = reads_of 7 true n q.2 (spaces q.1) q.5 in
    (once 7 true (p.2 ++ spaces p.1) m n (spaces p.1) (spaces q.1) r (subst (λ (z : List ℕ). Reads 7 true z n (spaces q.1)) (sym (tails e.1)) u)).0

-- ---- what the code's tests say

pub if-none : {A : Type 0} {P : Type 0} (Q : A → Type 0) (o : Option A) → o ≡ None → P → MatchOption o P Q
if-none {A} {P} Q o e p = subst (λ (z : Option A). MatchOption z P Q) (sym e) p

pub empty : (s : List ℕ) (b : Bool) → b ≡ eqb (length s) 0 → b ≡ true → length s ≡ 0
empty s b e t = eqb-true (length s) 0 (sym e ∙ t)

pub not-empty : (s : List ℕ) (b : Bool) → b ≡ eqb (length s) 0 → b ≡ false → length s ≡ 0 → ⊥
not-empty s b e f z = true-false (e ∙ ap (λ (n : ℕ). eqb n 0) z) f

pub next-is : (s : List ℕ) (g : Bool) (m n : Member) → m ≡ n → Next s g (Some m) → Next s g (Some n)
next-is s g m n e x = subst (λ (z : Member). Next s g (Some z)) e x

pub gap-true : (g : Bool) (k : ℕ) → g ≡ true → Gap g k
unfolding Gap
gap-true true k e = tt
gap-true false k e = true-false e refl

pub gap-false : (g : Bool) (k : ℕ) → g ≡ false → 0 < k → Gap g k
unfolding Gap
gap-false true k e h = tt
gap-false false k e h = h

pub gap-pos : (g : Bool) (k : ℕ) → g ≡ false → Gap g k → 0 < k
unfolding Gap
gap-pos true k e h = true-false refl e
gap-pos false k e h = h

module _ (c : ℕ) where
  within-no : (a z : ℕ) → (a ≤ c → c ≤ z → ⊥) → within a z c ≡ false
  within-no a z n = by_bool (leb a c) (λ p. ap (λ (b : Bool). pick b (leb c z) false) p ∙ by_bool (leb c z) (λ q. absurd (n (leb-true a c p) (leb-true c z q))) (λ q. q)) (λ p. ap (λ (b : Bool). pick b (leb c z) false) p)

  within-yes : (a z : ℕ) → a ≤ c → c ≤ z → within a z c ≡ true
  within-yes a z p q = ap₂ (λ (x y : Bool). pick x y false) (le-leb a c p) (le-leb c z q)

  pub word-digit : 48 ≤ c → c ≤ 57 → true ≡ is_word c
  unfolding is_word
  word-digit p q = sym (ap (λ (b : Bool). pick b true (pick (within 97 122 c) true (within 65 70 c))) (within-yes 48 57 p q))

  pub word-low : 97 ≤ c → c ≤ 122 → true ≡ is_word c
  unfolding is_word
  word-low p q = sym (ap₂ (λ (a b : Bool). pick a true (pick b true (within 65 70 c))) (within-no 48 57 (λ x y. omega arith)) (within-yes 97 122 p q))

  pub word-high : 65 ≤ c → c ≤ 70 → true ≡ is_word c
  unfolding is_word
  word-high p q =
      sym (ap₂ (λ (a b : Bool). pick a true (pick b true (within 65 70 c))) (within-no 48 57 (λ x y. omega arith)) (within-no 97 122 (λ x y. omega arith)) ∙ within-yes 65 70 p q)

  pub no-word : (48 ≤ c → c ≤ 57 → ⊥) → (97 ≤ c → c ≤ 122 → ⊥) → (65 ≤ c → c ≤ 70 → ⊥) → false ≡ is_word c
  unfolding is_word
  no-word n m k = sym (ap₂ (λ (a b : Bool). pick a true (pick b true (within 65 70 c))) (within-no 48 57 n) (within-no 97 122 m) ∙ within-no 65 70 k)

-- a run ends where the first byte stands that is none of p
pub run_position : (p : ℕ → Bool) (s : List ℕ) → run p s ≡ position_or_len (λ c. not (p c)) s
unfolding run
run_position p s = is_position_or_len (run p) (λ c. not (p c)) refl (λ c s. go (p c) (run p s)) s
  where
    go : (b : Bool) (n : ℕ) → pick b (suc n) 0 ≡ cond (not b) 0 (1 + n)
    go true n = omega arith
    go false n = refl

-- where no byte is none of p, all of them are the run
pub run-len : (p : ℕ → Bool) (s : List ℕ) (o : Option ℕ) (n : ℕ) → o ≡ position (λ c. not (p c)) s → n ≡ unwrap_or o (length s) → n ≡ run p s
run-len p s o n e q =
    q ∙ ap (λ (z : Option ℕ). unwrap_or z (length s)) e ∙ go (ltb (position_or_len (λ c. not (p c)) s) (length s)) refl ∙ sym (run_position p s)
  where
    go : (b : Bool) → ltb (position_or_len (λ c. not (p c)) s) (length s) ≡ b
        → unwrap_or (cond b (Some (position_or_len (λ c. not (p c)) s)) None) (length s) ≡ position_or_len (λ c. not (p c)) s
    go true h = refl
    go false h = omega (arith, ltb-false (position_or_len (λ c. not (p c)) s) (length s) h, run-le p s, run_position p s)

pub past-run : (p : ℕ → Bool) (s : List ℕ) (n : ℕ) → n ≡ run p s → take (length s - n) (drop n s) ≡ drop (run p s) s
past-run p s n e = take_all (length s - n) (drop n s) (omega (arith, length-drop n s)) ∙ ap (λ (k : ℕ). drop k s) e

nil-word : (w u : List ℕ) → IsWord w → [] ≡ w ++ u → ⊥
nil-word [] u x e = absurd (omega arith)
nil-word (c ∷ w) u x e = no-nil e

stops-nil : Stops is_space []
unfolding Stops
stops-nil = tt

nil-of : (s : List ℕ) → length s ≡ 0 → s ≡ []
nil-of [] e = refl
nil-of (c ∷ s) e = absurd (omega arith)

-- ---- what the spaces leave

-- r is s behind the spaces in front
module _ (s r : List ℕ) (h : r ≡ drop (run is_space s) s) where
  spaces-count : length s - length r ≡ run is_space s
  spaces-count = omega (arith, ap length h, length-drop (run is_space s) s, run-le is_space s)

  pub front : s ≡ spaces (length s - length r) ++ r
  front =
      sym (take-append-drop (run is_space s) s)
      ∙ ap₂ ◌++◌
      (spaces-all (take (run is_space s) s) (run-split is_space s).0 ∙ ap spaces (length-take-le (run is_space s) s (run-le is_space s) ∙ sym spaces-count))
      (sym h)

  pub front-stops : Stops is_space r
  front-stops = subst (λ (z : List ℕ). Stops is_space z) (sym h) (run-split is_space s).1

  pub front-le : length r ≤ length s
  front-le = omega (arith, ap length h, length-drop (run is_space s) s)

module _ (s r : List ℕ) (g : Bool) (h : r ≡ drop (run is_space s) s) (c : ℕ) (t : List ℕ) (first : r ≡ c ∷ t) where
  pub is-close : c ≡ 41 → NextClose s t
  is-close e = (length s - length r, front s r h ∙ ap (λ (z : List ℕ). spaces (length s - length r) ++ z) (first ∙ ap (λ (b : ℕ). b ∷ t) e))

  pub is_open_next : Gap g (length s - length r) → c ≡ 40 → NextList s g r t
  is_open_next gap e = (length s - length r, front s r h, first ∙ ap (λ (b : ℕ). b ∷ t) e, gap)

  pub is_word_next : (w u : List ℕ) → Gap g (length s - length r) → is_word c ≡ true → w ≡ take (run is_word r) r → u ≡ drop (run is_word r) r → NextWord s g w u
  is_word_next w u gap e p q =
      let long : 0 < run is_word r = omega (arith, ap (run is_word) first, run-yes is_word c t e) in
      let split = run-split is_word r in (
        length s - length r,
        front s r h ∙ ap (λ (z : List ℕ). spaces (length s - length r) ++ z) (sym (take-append-drop (run is_word r) r) ∙ ap₂ ◌++◌ (sym p) (sym q)),
        gap,
        (omega (arith, ap length p, length-take-le (run is_word r) r (run-le is_word r)), subst (λ (z : List ℕ). All is_word z) (sym p) split.0),
        subst (λ (z : List ℕ). Stops is_word z) (sym q) split.1,
      )

module _ (s r : List ℕ) (g : Bool) (h : r ≡ drop (run is_space s) s) where
  is-bad : ((t : List ℕ) → r ≡ 41 ∷ t → ⊥) → (Gap g (length s - length r) → (w u : List ℕ) → r ≡ w ++ u → IsWord w → ⊥)
      → (Gap g (length s - length r) → (v : List ℕ) → r ≡ 40 ∷ v → ⊥) → NextNone s g
  unfolding Lead
  is-bad no-close no_word no-open d m t x =
      go m (lead d g (length s - length r) r m t (front-stops s r h) (subst (λ (z : List ℕ). Reads d g z m t) (front s r h) x))
    where
      go : (m : Members) → Lead d g (length s - length r) r m t → ⊥
      go none x = no-close t x
      go (word w n) x = no_word x.2 w x.0 x.1 x.3
      go (sub a n) x = no-open x.4 x.1 x.3

  pub bad-gap : (c : ℕ) (t : List ℕ) → r ≡ c ∷ t → (c ≡ 41 → ⊥) → (Gap g (length s - length r) → ⊥) → NextNone s g
  bad-gap c t first n41 ngap = is-bad (λ t e. n41 (heads (sym first ∙ e))) (λ x w u e iw. ngap x) (λ x v e. ngap x)

  pub bad-byte : (c : ℕ) (t : List ℕ) → r ≡ c ∷ t → (c ≡ 41 → ⊥) → (c ≡ 40 → ⊥) → is_word c ≡ false → NextNone s g
  bad-byte c t first n41 n40 nw =
      is-bad (λ t e. n41 (heads (sym first ∙ e)))
      (λ x w u e iw. word-not c t w u nw iw (sym first ∙ e))
      (λ x v e. n40 (heads (sym first ∙ e)))

  pub bad-end : length r ≡ 0 → NextNone s g
  bad-end e =
      let n : r ≡ [] = nil-of r e in
      is-bad (λ t e. no-nil (sym n ∙ e)) (λ x w u e iw. nil-word w u iw (sym n ∙ e)) (λ x v e. no-nil (sym n ∙ e))

-- ---- less is left

spaced-length : (k : ℕ) (s : List ℕ) → length (spaces k ++ s) ≡ k + length s
spaced-length k s = length-append (spaces k) s ∙ ap (λ (n : ℕ). n + length s) (length-replicate k 32)

pub reads-less : (d : ℕ) (g : Bool) (s : List ℕ) (m : Members) (t : List ℕ) → Reads d g s m t → length t < length s
unfolding Reads
reads-less d g s none t r = omega (arith, ap length r.1, spaced-length r.0 (41 ∷ t))
reads-less d g s (word w m) t r =
    omega (arith, ap length r.2, spaced-length r.0 (w ++ r.1), length-append w r.1, reads-less d false r.1 m t r.5)
reads-less d g s (sub i m) t r =
    omega (arith, ap length r.4, spaced-length r.0 (40 ∷ r.2), reads-less r.1 true r.2 i r.3 r.7, reads-less d false r.3 m t r.8)

pub form-less : (d : ℕ) (s t : List ℕ) → SomeForm d s t → length t < length s
unfolding SomeForm
form-less d s t f = omega (arith, ap length f.3, reads-less f.0 true f.1 f.4.0 t f.4.1)

pub behind-less : (s r : List ℕ) → Behind s r → length r < length s
behind-less s r b = omega (arith, ap length b.1, length-append b.0 r)

pub reads-behind : (d : ℕ) (g : Bool) (s : List ℕ) (m : Members) (t : List ℕ) → Reads d g s m t → Behind s t
reads-behind d g s m t r =
    let q = spells-of d g m s t r in
    (q.0, q.1, omega (arith, ap length q.1, length-append q.0 t, reads-less d g s m t r))

pub close-less : (s t : List ℕ) → NextClose s t → length t < length s
close-less s t n = omega (arith, ap length n.1, spaced-length n.0 (41 ∷ t))

pub word-less : (s : List ℕ) (g : Bool) (w t : List ℕ) → NextWord s g w t → length t < length s
word-less s g w t n = omega (arith, ap length n.1, spaced-length n.0 (w ++ t), length-append w t, n.3.0)

pub open-le : (s : List ℕ) (g : Bool) (f v : List ℕ) → NextList s g f v → length f ≤ length s
open-le s g f v n = omega (arith, ap length n.1, spaced-length n.0 f)

pub list-less : (s : List ℕ) (g : Bool) (d : ℕ) (f v t : List ℕ) → NextList s g f v → SomeForm d f t → length t < length s
list-less s g d f v t n x = omega (arith, open-le s g f v n, form-less d f t x)

-- ---- the form reader

pub form-nil : (d : ℕ) (s : List ℕ) → length s ≡ 0 → NoForm d s
unfolding SomeForm
form-nil d s e t f = absurd (omega (arith, ap length f.3))

module _ (d : ℕ) (s : List ℕ) (c : ℕ) (v : List ℕ) (first : s ≡ c ∷ v) where
  pub form-other : (c ≡ 40 → ⊥) → NoForm d s
  unfolding SomeForm
  form-other n t f = n (heads (sym first ∙ f.3))

  pub form-zero : d ≡ 0 → NoForm d s
  unfolding SomeForm
  form-zero e t f = absurd (omega (arith, f.2))

  pub form_in : c ≡ 40 → (d ≡ 0 → ⊥) → (t : List ℕ) → SomeMembers (d - 1) true v t → SomeForm d s t
  unfolding SomeForm
  form_in e n t x = (d - 1, v, omega (arith, n), first ∙ ap (λ (b : ℕ). b ∷ v) e, x)

  pub form-not : NoMembers (d - 1) true v → NoForm d s
  unfolding SomeForm
  form-not n t f =
      let e : f.0 ≡ d - 1 = omega (arith, f.2) in
      let q : f.1 ≡ v = tails (sym f.3 ∙ first) in
      n t (f.4.0, subst (λ (z : ℕ). Reads z true v f.4.0 t) e (subst (λ (z : List ℕ). Reads f.0 true z f.4.0 t) q f.4.1))

  -- the list reader's answer, one level down
  pub form-list : {A : Type 0} (now : A → List ℕ) → c ≡ 40 → (d ≡ 0 → ⊥) → (o : Option A) → MatchOption o (NoMembers (d - 1) true v) (λ t. SomeMembers (d - 1) true v (now t))
      → MatchOption o (NoForm d s) (λ t. SomeForm d s (now t))
  form-list now e n None x = form-not x
  form-list now e n (Some t) x = form_in e n (now t) x

-- ---- the list reader

-- of the list whose inside is s, r is left: what can be read from r on, where g says whether a member may stand, can be read from s on
pub record Goes (d : ℕ) (s r : List ℕ) (g : Bool) : Type 0 where
  pub ahead : (t : List ℕ) → SomeMembers d g r t → SomeMembers d true s t
  pub back : (t : List ℕ) → SomeMembers d true s t → SomeMembers d g r t

pub goes-start : (d : ℕ) (s : List ℕ) → Goes d s s true
goes-start d s = record { ahead = λ t x. x; back = λ t x. x }

module _ (d : ℕ) (s r : List ℕ) (g : Bool) (o : Goes d s r g) where
  pub goes-word : (w u : List ℕ) → NextWord r g w u → Goes d s u false
  unfolding Reads
  goes-word w u n =
      record {
        ahead = λ t x. o.ahead t (word w x.0, (n.0, u, n.1, n.2, n.3, x.1));
        back = λ t x. let b = o.back t x in
            let q = word_in d g n.0 w u b.0 t n.3 n.4 (subst (λ (z : List ℕ). Reads d g z b.0 t) n.1 b.1) in
            (q.0, q.2);
      }

  opened : (f v : List ℕ) (n : NextList r g f v) → r ≡ spaces n.0 ++ (40 ∷ v)
  opened f v n = n.1 ∙ ap (λ (z : List ℕ). spaces n.0 ++ z) n.2

  pub goes-list : (f v u : List ℕ) → NextList r g f v → SomeForm d f u → Goes d s u false
  unfolding Reads SomeForm
  goes-list f v u n x =
      let w : x.1 ≡ v = tails (sym x.3 ∙ n.2) in
      let inner = subst (λ (z : List ℕ). Reads x.0 true z x.4.0 u) w x.4.1 in
      record {
        ahead = λ t y. o.ahead t (sub x.4.0 y.0, (n.0, x.0, v, u, opened f v n, n.3, x.2, inner, y.1));
        back = λ t y. let b = o.back t y in
            let q = open_in d g n.0 v b.0 t (subst (λ (z : List ℕ). Reads d g z b.0 t) (opened f v n) b.1) in
            let same : q.2 ≡ x.0 = sucs (sym q.5 ∙ x.2) in
            let one = once x.0 true v q.0 x.4.0 q.3 u (subst (λ (z : ℕ). Reads z true v q.0 q.3) same q.6) inner in
            (q.1, subst (λ (z : List ℕ). Reads d false z q.1 t) one.1 q.7);
      }

  pub ends_close : (t : List ℕ) → NextClose r t → SomeMembers d true s t
  unfolding Reads
  ends_close t n = o.ahead t (none, n)

  pub ends-bad : NextNone r g → NoMembers d true s
  ends-bad n t x = let b = o.back t x in n d b.0 t b.1

  pub ends-form : (f v : List ℕ) → NextList r g f v → NoForm d f → NoMembers d true s
  unfolding SomeForm
  ends-form f v n x t y =
      let b = o.back t y in
      let q = open_in d g n.0 v b.0 t (subst (λ (z : List ℕ). Reads d g z b.0 t) (opened f v n) b.1) in
      x q.3 (q.2, v, q.5, n.2, (q.0, q.6))

-- ---- the line

-- r is the line s behind the spaces in front
module _ (s r : List ℕ) (h : r ≡ drop (run is_space s) s) where
  -- a form's line has it there, and nothing but spaces behind it
  line-form : (m : Members) → Line m s → (b : ℕ) × SomeForm 8 r (spaces b)
  unfolding SomeForm Line
  line-form m p =
      let e = split-once is_space (spaces p.0) (spaces (length s - length r)) (all-spaces p.0) (all-spaces (length s - length r)) (s40 (p.2 ++ spaces p.1)) (front-stops s r h)
      (sym p.3 ∙ front s r h) in
      (p.1, (7, p.2 ++ spaces p.1, refl, sym e.1, (m, reads_of 7 true m p.2 (spaces p.1) p.5)))

  pub line-none : NoForm 8 r → NoLine s
  line-none n m p = let f = line-form m p in n (spaces f.0) f.1

  -- t is left behind the form, and u behind the spaces that follow
  module _ (t u : List ℕ) (f : SomeForm 8 r t) (k : u ≡ drop (run is_space t) t) where
    pub line-tail : (length u ≡ 0 → ⊥) → NoLine s
    unfolding SomeForm
    line-tail n m p =
        let g = line-form m p in
        let v : g.1.1 ≡ f.1 = tails (sym g.1.3 ∙ f.3) in
        let e : g.1.0 ≡ f.0 = sucs (sym g.1.2 ∙ f.2) in
        let o = once f.0 true f.1 g.1.4.0 f.4.0 (spaces g.0) t
        (subst (λ (z : ℕ). Reads z true f.1 g.1.4.0 (spaces g.0)) e (subst (λ (z : List ℕ). Reads g.1.0 true z g.1.4.0 (spaces g.0)) v g.1.4.1)) f.4.1 in
        let q = split-once is_space (spaces g.0) (spaces (length t - length u)) (all-spaces g.0) (all-spaces (length t - length u)) stops-nil (front-stops t u k)
        (append-nil (spaces g.0) ∙ o.1 ∙ front t u k) in
        n (sym (ap length q.1))

    pub line_at : length s ≤ 4096 → length u ≡ 0 → (c : ℕ) (a : List ℕ) → r ≡ c ∷ a → Opened s a
    unfolding SomeForm Opened Line
    line_at small e c a q =
        let seven : f.0 ≡ 7 = sucs (sym f.2) in
        let x : Reads 7 true f.1 f.4.0 t = subst (λ (n : ℕ). Reads n true f.1 f.4.0 t) seven f.4.1 in
        let y = spells-of 7 true f.4.0 f.1 t x in
        let j : t ≡ spaces (length t - length u) = front t u k ∙ ap (λ (z : List ℕ). spaces (length t - length u) ++ z) (nil-of u e) ∙ append-nil (spaces (length t - length u)) in
        let v : f.1 ≡ a = tails (sym f.3 ∙ q) in (
          f.4.0,
          t,
          (
            length s - length r,
            length t - length u,
            y.0,
            front s r h ∙ ap (λ (z : List ℕ). spaces (length s - length r) ++ z) (f.3 ∙ ap (λ (z : List ℕ). 40 ∷ z) (y.1 ∙ ap (λ (z : List ℕ). y.0 ++ z) j)),
            small,
            y.2,
          ),
          subst (λ (z : List ℕ). Reads 7 true z f.4.0 t) v x,
          (
            spaces (length s - length r) ++ (c ∷ []),
            front s r h ∙ ap (λ (z : List ℕ). spaces (length s - length r) ++ z) q ∙ sym (append_assoc (spaces (length s - length r)) (c ∷ []) a),
            omega (arith, length-append (spaces (length s - length r)) (c ∷ [])),
          ),
        )

pub line-long : (s : List ℕ) → 4096 < length s → NoLine s
unfolding Line
line-long s big m p = absurd (omega (arith, p.4))

-- ---- for readers of forms: what `next` found is what the members are

kind : Members → ℕ
kind none = 0
kind (word w m) = 1
kind (sub i m) = 2

apart : {A : Type 0} {m n k : Members} → m ≡ n → m ≡ k → (kind n ≡ kind k → ⊥) → A
apart p q h = absurd (h (sym (ap kind p) ∙ ap kind q))

module _ (s : List ℕ) (g : Bool) where
  next_word : (w t : List ℕ) → NextWord s g w t → (d : ℕ) (m : Members) (u : List ℕ) → Reads d g s m u → (n : Members) × (m ≡ word w n) × Reads d false t n u
  next_word w t n d m u r = word_in d g n.0 w t m u n.3 n.4 (subst (λ (z : List ℕ). Reads d g z m u) n.1 r)

  next-open : (f v : List ℕ) → NextList s g f v → (d : ℕ) (m : Members) (u : List ℕ) → Reads d g s m u
      → (i : Members) × (k : Members) × (e : ℕ) × (t : List ℕ) × (m ≡ sub i k) × (d ≡ suc e) × Reads e true v i t × Reads d false t k u
  next-open f v n d m u r =
      open_in d g n.0 v m u (subst (λ (z : List ℕ). Reads d g z m u) (n.1 ∙ ap (λ (z : List ℕ). spaces n.0 ++ z) n.2) r)

  next-close : (t : List ℕ) → NextClose s t → (d : ℕ) (m : Members) (u : List ℕ) → Reads d g s m u → m ≡ none
  next-close t n d m u r = (close-in d g n.0 t m u (subst (λ (z : List ℕ). Reads d g z m u) n.1 r)).0

  pub here-word : (w t : List ℕ) → NextWord s g w t → WordHere s g w t
  unfolding WordHere
  here-word w t n = (n, next_word w t n)

  pub none-no-word : NextNone s g → NoWord s g
  unfolding NoWord
  none-no-word n d m t r w k q = n d m t r

  pub close-no-word : (t : List ℕ) → NextClose s t → NoWord s g
  unfolding NoWord kind
  close-no-word t n d m u r w k q = apart q (next-close t n d m u r) (λ x. omega arith)

  pub open-no-word : (f v : List ℕ) → NextList s g f v → NoWord s g
  unfolding NoWord kind
  open-no-word f v n d m u r w k q = apart q (next-open f v n d m u r).4 (λ x. omega arith)

  module _ (d : ℕ) where
    -- the form reader found what is left behind the list
    pub here-list : (f v t : List ℕ) → NextList s g f v → SomeForm d f t → ListHere s g d v t
    unfolding ListHere SomeForm
    here-list f v t n x =
        let w : x.1 ≡ v = tails (sym x.3 ∙ n.2) in (
          n.0,
          n.1 ∙ ap (λ (z : List ℕ). spaces n.0 ++ z) n.2,
          subst (λ (z : List ℕ). Behind z t) w (reads-behind x.0 true x.1 x.4.0 t x.4.1),
          λ m u r.
              let o = next-open f v n d m u r in
              let k : x.0 ≡ o.2 = sucs (sym x.2 ∙ o.5) in
              let e = once o.2 true v o.0 x.4.0 o.3 t o.6
              (subst (λ (z : ℕ). Reads z true v x.4.0 t) k (subst (λ (z : List ℕ). Reads x.0 true z x.4.0 t) w x.4.1)) in
              (o.0, o.1, o.2, o.4, o.5, subst (λ (z : List ℕ). Reads o.2 true v o.0 z) e.1 o.6, subst (λ (z : List ℕ). Reads d false z o.1 u) e.1 o.7),
        )

    pub none-no-list : NextNone s g → NoList s g d
    unfolding NoList
    none-no-list n m t r i k q = n d m t r

    pub close-no-list : (t : List ℕ) → NextClose s t → NoList s g d
    unfolding NoList kind
    close-no-list t n m u r i k q = apart q (next-close t n d m u r) (λ x. omega arith)

    pub word-no-list : (w t : List ℕ) → NextWord s g w t → NoList s g d
    unfolding NoList kind
    word-no-list w t n m u r i k q = apart q (next_word w t n d m u r).1 (λ x. omega arith)

    pub form-no-list : (f v : List ℕ) → NextList s g f v → NoForm d f → NoList s g d
    unfolding NoList SomeForm
    form-no-list f v n x m u r i k q =
        let o = next-open f v n d m u r in
        x o.3 (o.2, v, o.5, n.2, (o.0, o.6))

  pub end-close : (t : List ℕ) → NextClose s t → EndHere s g true
  end-close t n = record { inside = λ x. omega (arith, close-less s t n); is = λ x d m u r. next-close t n d m u r; not = λ x. true-false refl x }

  pub end-word : (w t : List ℕ) → NextWord s g w t → EndHere s g false
  unfolding kind
  end-word w t n = record { inside = λ x. true-false x refl; is = λ x. true-false x refl; not = λ x d m u r q. apart q (next_word w t n d m u r).1 (λ x. omega arith) }

  pub end-open : (f v : List ℕ) → NextList s g f v → EndHere s g false
  unfolding kind
  end-open f v n = record { inside = λ x. true-false x refl; is = λ x. true-false x refl; not = λ x d m u r q. apart q (next-open f v n d m u r).4 (λ x. omega arith) }

  pub end-none : NextNone s g → EndHere s g false
  end-none n = record { inside = λ x. true-false x refl; is = λ x. true-false x refl; not = λ x d m u r q. n d m u r }
