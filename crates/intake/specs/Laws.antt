-- Laws of the words: what a store to a line's words makes of the lines. The wrap is in the first group, over plain numbers.
use Prim.Native.Nat.{ℕ, zero, suc, ◌+◌, ◌-◌, ◌*◌, ◌%◌, ◌<◌, suc-le-suc}
use Rattle.std.specs.Prelude.{◌≡◌, refl, ◌≢◌, List, [], ◌∷◌, ◌++◌, length, drop, set, ltb, map, find, cond, Bool, true, false, Option, Some}
use Rattle.std.proofs.Math.Path.{sym, ap}
use Rattle.std.proofs.Common.{◌∙◌, ne_of_lt, ne_of_gt, add-one, length-set, get_or-set_same, get_or-set_other, drop-set-lt}
use Rattle.std.proofs.Math.Nat.{add-zero}
use native.Mathlib.Omega.{arith}
use Rattle.std.proofs.Math.ListN.{get_or}
use Rattle.words.specs.Lists.{pick}
use Rattle.words.specs.Rows.{tab, length-tab, get_or-tab, tab-ext, tab-add}
use Rattle.std.specs.List.{range_with_len}
use Rattle.intake.specs.Queue.{lines_from, circle, first_held}
use Rattle.intake.specs.Words.{Room, place, head_of, tail_of, held_of, line_of, lines_of, Appended, Taken}

-- ---- counts that wrap at 2^32, of any value

module _ (h t : ℕ) (hb : h < 4294967296) (tb : t < 4294967296) where
  -- one more came
  came : (t + 4294967296 - h) % 4294967296 < 16 → ((t + 1) % 4294967296 + 4294967296 - h) % 4294967296 ≡ (t + 4294967296 - h) % 4294967296 + 1
  came few = omega arith

  -- one left
  left : 0 < (t + 4294967296 - h) % 4294967296 → (t + 4294967296 - h) % 4294967296 ≡ (t + 4294967296 - (h + 1) % 4294967296) % 4294967296 + 1
  left some = omega arith

  -- the place behind the last handle is the tail's
  behind : (h + (t + 4294967296 - h) % 4294967296) % 16 ≡ t % 16
  behind = omega arith

  -- and no handle that is held has it, as long as fewer than 16 are
  apart : (j : ℕ) → j < (t + 4294967296 - h) % 4294967296 → (t + 4294967296 - h) % 4294967296 < 16 → (h + j) % 16 ≢ t % 16
  apart j held few e = omega arith

-- the wrap is seamless: 2^32 is a multiple of 16
further : (h j : ℕ) → ((h + 1) % 4294967296 + j) % 16 ≡ (h + suc j) % 16
further h j = omega arith

-- ---- lists given by their elements

-- two lists that agree but at one index, which is stored
tab-set-in : {A : Type 0} (f g : ℕ → A) (n at : ℕ) (x : A) → g at ≡ x → ((i : ℕ) → i < n → i ≢ at → g i ≡ f i) → tab g n ≡ set (tab f n) at x
tab-set-in f g zero at x e h = refl
tab-set-in f g (suc n) zero x e h = λ k. e k ∷ tab-ext (λ i. g (suc i)) (λ i. f (suc i)) n (λ i b. h (suc i) (suc-le-suc b) (ne_of_gt (omega arith))) k
tab-set-in f g (suc n) (suc at) x e h =
    λ k. h zero (omega arith) (ne_of_lt (omega arith)) k ∷ tab-set-in (λ i. f (suc i)) (λ i. g (suc i)) n at x e (λ i b a. h (suc i) (suc-le-suc b) (λ q. a (omega (arith, q)))) k

-- ---- a line

module _ (l m : List ℕ) (i : ℕ) where
  line_same : get_or m (i * 18) 0 ≡ get_or l (i * 18) 0 → get_or m (i * 18 + 1) 0 ≡ get_or l (i * 18 + 1) 0
      → ((c : ℕ) → get_or m (place i c) 0 ≡ get_or l (place i c) 0) → line_of m i ≡ line_of l i
  unfolding line_of
  line_same h t p = rw (h, t) (tab-ext (λ j. get_or m (place i (head_of l i + j)) 0) (λ j. get_or l (place i (head_of l i + j)) 0) (held_of l i) (λ j b. p (head_of l i + j)))

  line-more : (x : ℕ) → held_of l i < 16 → head_of m i ≡ head_of l i → tail_of m i ≡ (tail_of l i + 1) % 4294967296
      → get_or m (place i (tail_of l i)) 0 ≡ x → ((c : ℕ) → c % 16 ≢ tail_of l i % 16 → get_or m (place i c) 0 ≡ get_or l (place i c) 0)
      → line_of m i ≡ line_of l i ++ (x ∷ [])
  unfolding line_of
  line-more x few h t e p =
      let hb : head_of l i < 4294967296 = omega arith in
      let tb : tail_of l i < 4294967296 = omega arith in
      let here : (head_of l i + (held_of l i + 0)) % 16 ≡ tail_of l i % 16 = rw add-zero (behind (head_of l i) (tail_of l i) hb tb) in
      rw (h, t, came (head_of l i) (tail_of l i) hb tb few)
      (tab-add (λ j. get_or m (place i (head_of l i + j)) 0) (held_of l i) 1
      ∙ (λ k. tab-ext (λ j. get_or m (place i (head_of l i + j)) 0) (λ j. get_or l (place i (head_of l i + j)) 0) (held_of l i)
      (λ j b. p (head_of l i + j) (apart (head_of l i) (tail_of l i) hb tb j b few)) k
      ++ ((ap (λ (q : ℕ). get_or m (i * 18 + 2 + q) 0) here ∙ e) k ∷ [])))

  line-less : 0 < held_of l i → head_of m i ≡ (head_of l i + 1) % 4294967296 → tail_of m i ≡ tail_of l i
      → ((c : ℕ) → get_or m (place i c) 0 ≡ get_or l (place i c) 0)
      → line_of l i ≡ get_or l (place i (head_of l i)) 0 ∷ line_of m i
  unfolding line_of
  line-less some h t p =
      let hb : head_of l i < 4294967296 = omega arith in
      let tb : tail_of l i < 4294967296 = omega arith in
      rw (h, t, left (head_of l i) (tail_of l i) hb tb some, add-one)
      (λ k. get_or l (place i (add-zero (head_of l i) k)) 0
      ∷ tab-ext (λ j. get_or l (place i (head_of l i + suc j)) 0) (λ j. get_or m (place i ((head_of l i + 1) % 4294967296 + j)) 0) ((tail_of l i + 4294967296 - (head_of l i + 1) % 4294967296) % 4294967296)
      (λ j b. ap (λ (q : ℕ). get_or l (i * 18 + 2 + q) 0) (sym (further (head_of l i) j)) ∙ sym (p ((head_of l i + 1) % 4294967296 + j))) k)

-- ---- the stores

-- a store outside a line's words
pub line-apart : (l : List ℕ) (at v i : ℕ) → ((k : ℕ) → k < 18 → i * 18 + k ≢ at) → line_of (set l at v) i ≡ line_of l i
line-apart l at v i away =
    let first : i * 18 ≢ at = λ e. away 0 (omega arith) (omega (arith, e)) in
    line_same l (set l at v) i
    (get_or-set_other l at (i * 18) v 0 first)
    (get_or-set_other l at (i * 18 + 1) v 0 (away 1 (omega arith)))
    (λ c. get_or-set_other l at (place i c) v 0 (λ e. away (2 + c % 16) (omega arith) (omega (arith, e))))

pub lines_at : (l : List ℕ) (i : ℕ) → i < 256 → get_or (lines_of l) i [] ≡ line_of l i
unfolding lines_of
lines_at l i h = get_or-tab (line_of l) 256 i [] h

-- the words after a handle came
abbrev pub appends : List ℕ → ℕ → ℕ → List ℕ
appends l i x = set (set l (place i (tail_of l i)) x) (i * 18 + 1) ((tail_of l i + 1) % 4294967296)

pub appended : (l : List ℕ) (i x : ℕ) → Room l → i < 256 → held_of l i < 16 → Appended l i x (appends l i x)
unfolding lines_of
appended l i x room below few =
    let p = place i (tail_of l i) in
    let v = (tail_of l i + 1) % 4294967296 in
    let m = set l p x in
    let size : length m ≡ length l = length-set l p x in
    let own : line_of (appends l i x) i ≡ line_of l i ++ (x ∷ []) =
    line-more l (appends l i x) i x few
    (ap (λ (w : ℕ). w % 4294967296) (get_or-set_other m (i * 18 + 1) (i * 18) v 0 (λ e. omega (arith, e)) ∙ get_or-set_other l p (i * 18) x 0 (λ e. omega (arith, e))))
    (ap (λ (w : ℕ). w % 4294967296) (get_or-set_same m (i * 18 + 1) v 0 (omega arith)) ∙ omega arith)
    (get_or-set_other m (i * 18 + 1) p v 0 (λ e. omega (arith, e)) ∙ get_or-set_same l p x 0 (omega arith))
    (λ c n. get_or-set_other m (i * 18 + 1) (place i c) v 0 (λ e. omega (arith, e)) ∙ get_or-set_other l p (place i c) x 0 (λ e. n (omega (arith, e)))) in
    record {
      lines = tab-set-in (line_of l) (line_of (appends l i x)) 256 i (line_of l i ++ (x ∷ [])) own (λ k b n. line-apart m (i * 18 + 1) v k (λ j c e. n (omega (arith, e))) ∙ line-apart l p x k (λ j c e. n (omega (arith, e))));
      last = ap (λ (w : ℕ). w % 256) (get_or-set_other m (i * 18 + 1) 4608 v 0 (λ e. omega (arith, e)) ∙ get_or-set_other l p 4608 x 0 (λ e. omega (arith, e)));
      size = length-set m (i * 18 + 1) v ∙ size;
      rest = drop-set-lt 4609 m (i * 18 + 1) v (omega arith) ∙ drop-set-lt 4609 l p x (omega arith);
    }

-- so where the code has read the tail t and reckoned the place p and the next tail w
pub appended-at : (l : List ℕ) (i x t p w : ℕ) → Room l → i < 256 → held_of l i < 16 → t ≡ tail_of l i → p ≡ place i t → w ≡ (t + 1) % 4294967296
    → Appended l i x (set (set l p x) (i * 18 + 1) w)
appended-at l i x t p w room below few et ep ew = rw (ew, ep, et) (appended l i x room below few)

-- the words after a handle left
abbrev pub takes : List ℕ → ℕ → List ℕ
takes l i = set l (i * 18) ((head_of l i + 1) % 4294967296)

pub taken : (l : List ℕ) (i : ℕ) → Room l → i < 256 → 0 < held_of l i → Taken l i (get_or l (place i (head_of l i)) 0) (takes l i)
unfolding lines_of
taken l i room below some =
    let v = (head_of l i + 1) % 4294967296 in
    let own : line_of l i ≡ get_or l (place i (head_of l i)) 0 ∷ line_of (takes l i) i =
    line-less l (takes l i) i some
    (ap (λ (w : ℕ). w % 4294967296) (get_or-set_same l (i * 18) v 0 (omega arith)) ∙ omega arith)
    (ap (λ (w : ℕ). w % 4294967296) (get_or-set_other l (i * 18) (i * 18 + 1) v 0 (λ e. omega (arith, e))))
    (λ c. get_or-set_other l (i * 18) (place i c) v 0 (λ e. omega (arith, e))) in
    record {
      handle = ap (λ (z : List ℕ). get_or z 0 0) (sym own);
      lines = tab-set-in (line_of l) (line_of (takes l i)) 256 i (drop 1 (line_of l i)) (ap (drop 1) (sym own)) (λ k b n. line-apart l (i * 18) v k (λ j c e. n (omega (arith, e))));
      last = ap (λ (w : ℕ). w % 256) (get_or-set_other l (i * 18) 4608 v 0 (λ e. omega (arith, e)));
      size = length-set l (i * 18) v;
      rest = drop-set-lt 4609 l (i * 18) v (omega arith);
    }

pub taken_at : (l : List ℕ) (i h p w : ℕ) → Room l → i < 256 → 0 < held_of l i → h ≡ head_of l i → p ≡ place i h → w ≡ (h + 1) % 4294967296
    → Taken l i (get_or l p 0) (set l (i * 18) w)
taken_at l i h p w room below some eh ep ew = rw (ew, ep, eh) (taken l i room below some)

-- ---- the search for the next line

pub length-line : (l : List ℕ) (i : ℕ) → length (line_of l i) ≡ held_of l i
unfolding line_of
length-line l i = length-tab (λ j. get_or l (place i (head_of l i + j)) 0) (held_of l i)

pub held_at : (l : List ℕ) (i : ℕ) → i < 256 → length (get_or (lines_of l) i []) ≡ held_of l i
held_at l i h = ap length (lines_at l i h) ∙ length-line l i

-- the circle, as the lines that the search goes through
circle-from : (s a n : ℕ) → lines_from ((s + 1 + a) % 256) n ≡ map (λ j. (s + 1 + j) % 256) (range_with_len a n)
circle-from s a zero = refl
circle-from s a (suc n) = λ k. ((s + 1 + a) % 256) ∷ (ap (λ (i : ℕ). lines_from i n) next ∙ circle-from s (a + 1) n) k
  where
    next : ((s + 1 + a) % 256 + 1) % 256 ≡ (s + 1 + (a + 1)) % 256
    next = omega arith

module _ (l : List ℕ) (s : ℕ) where
  abbrev search_from : ℕ → ℕ → List ℕ
  search_from a n = map (λ j. (s + 1 + j) % 256) (range_with_len a n)

  finds : (a n : ℕ) → find (λ i. ltb 0 (held_of l i)) (search_from a n) ≡ first_held (lines_of l) (search_from a n)
  finds a zero = refl
  finds a (suc n) = rw (held_at l ((s + 1 + a) % 256) (omega arith)) (go (ltb 0 (held_of l ((s + 1 + a) % 256))) (finds (a + 1) n))
    where
      go : (t : Bool) {o p : Option ℕ} → o ≡ p → cond t (Some ((s + 1 + a) % 256)) o ≡ pick t (Some ((s + 1 + a) % 256)) p
      go true e = refl
      go false e = e

  pub search-is : find (λ i. ltb 0 (held_of l i)) (search_from 0 256) ≡ first_held (lines_of l) (circle s)
  unfolding circle
  search-is = finds 0 256 ∙ ap (first_held (lines_of l)) (sym (circle-from s 0 256) ∙ ap (λ (i : ℕ). lines_from (i % 256) 256) (add-zero (s + 1)))
