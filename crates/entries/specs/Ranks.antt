-- The entries by rank: their order, pointwise; the rank of a weight and an id, found by halving; and what the search for an id finds. A rank that is inserted
-- or left out is insertion or removal in the list.
use Rattle.std.specs.Prelude.{None, Some}
use Rattle.std.specs.Prelude.{ℕ, zero, suc, ◌+◌, ◌≤◌, ◌<◌, ◌≡◌, Bool, List, [], ◌∷◌, map, eqb, ltb}
use Rattle.std.proofs.Common.{suc-le-suc, ◌∙◌, le_of_suc-le-suc, add-zero, arith, eq-eqb, ne_eqb, lt-ltb, le-ltb}
use Rattle.std.proofs.Math.Path.{refl, sym, ap}
use Rattle.std.proofs.Math.Bool.{true, false}
use Rattle.std.proofs.Math.Decide.{ℕ_discrete, dec_lt}
use Rattle.words.specs.Lists.{pick, insert_at, remove_at, count, Once, once-cons}
use Rattle.words.specs.Rows.{tab, tab-ext}
use Rattle.entries.specs.Entries.{Entry, weight_of, key_of, ahead, insert_by, pooled, place_from, place_of}
use Rattle.entries.specs.Order.{before, Behind, Sorted, asym, trans}
use Rattle.entries.specs.InOrder.{EntriesInOrder}
use Rattle.entries.specs.Cells.{entry_at, entries_of}

-- ---- the order

-- an entry is ahead of a weight and an id
abbrev pub ahead_of : Entry → ℕ → ℕ → Bool
ahead_of x w k = ahead x.weight x.id w k

-- what the code's tests say
pub ahead-far : (x : Entry) (w k v : ℕ) → v ≡ x.weight → (v ≡ w → ⊥) → ltb w v ≡ ahead_of x w k
unfolding ahead
ahead-far x w k v e d = rw (ne_eqb x.weight w (λ z. d (e ∙ z)), e)

pub ahead-tie : (x : Entry) (w k v i : ℕ) → v ≡ x.weight → v ≡ w → i ≡ x.id → ltb i k ≡ ahead_of x w k
unfolding ahead
ahead-tie x w k v i e d f = rw (eq-eqb x.weight w (sym e ∙ d), f)

pub ahead-trans : (x y : Entry) (w k : ℕ) → ahead_of x y.weight y.id ≡ true → ahead_of y w k ≡ true → ahead_of x w k ≡ true
ahead-trans x y w k p q = trans {A = ℕ × ℕ} (λ z. z.0) (λ z. z.1) (x.weight, x.id) (y.weight, y.id) (w, k) p q

-- the first n of f are in order
unfoldable pub Ordered : (ℕ → Entry) → ℕ → Type 0
Ordered f n = (a b : ℕ) → a < b → b < n → before weight_of key_of (f a) (f b) ≡ true

pub ordered-ext : (f g : ℕ → Entry) (n : ℕ) → ((r : ℕ) → r < n → g r ≡ f r) → Ordered f n → Ordered g n
unfolding Ordered
ordered-ext f g n e s = λ a b h q. rw (e a (omega arith), e b q) (s a b h q)

pub ordered-fewer : (f : ℕ → Entry) (k n : ℕ) → k ≤ n → Ordered f n → Ordered f k
unfolding Ordered
ordered-fewer f k n h s = λ a b p q. s a b p (omega arith)

-- ---- halving

-- those before r are ahead of a weight and an id, those from r on are not
pub record Ranks (l : List ℕ) (n w k r : ℕ) : Type 0 where
  pub low : r ≤ n
  pub below : Ordered (entry_at l) n → (q : ℕ) → q < r → ahead_of (entry_at l q) w k ≡ true
  pub above : Ordered (entry_at l) n → (q : ℕ) → r ≤ q → q < n → ahead_of (entry_at l q) w k ≡ false

pub record Halves (l : List ℕ) (n w k lo hi : ℕ) : Type 0 where
  pub low : lo ≤ hi
  pub high : hi ≤ n
  pub below : Ordered (entry_at l) n → (r : ℕ) → r < lo → ahead_of (entry_at l r) w k ≡ true
  pub above : Ordered (entry_at l) n → (r : ℕ) → hi ≤ r → r < n → ahead_of (entry_at l r) w k ≡ false

pub halves-all : (l : List ℕ) (n w k : ℕ) → Halves l n w k 0 n
halves-all l n w k = record { low = omega arith; high = omega arith; below = λ x r h. absurd (omega arith); above = λ x r h g. absurd (omega arith) }

module _ (l : List ℕ) (n w k lo hi mid : ℕ) (s : Halves l n w k lo hi) (a : lo ≤ mid) (b : mid < hi) where
  pub halves-up : ahead_of (entry_at l mid) w k ≡ true → Halves l n w k (mid + 1) hi
  unfolding Ordered
  halves-up t = record { low = omega arith; high = s.high; below = λ x r h. go x r h (ℕ_discrete r mid); above = s.above }
    where
      go : ((a b : ℕ) → a < b → b < n → before weight_of key_of (entry_at l a) (entry_at l b) ≡ true) → (r : ℕ) → r < mid + 1 → Dec (r ≡ mid) → ahead_of (entry_at l r) w k ≡ true
      go x r h (yes e) = rw e t
      go x r h (no e) = ahead-trans (entry_at l r) (entry_at l mid) w k (x r mid (omega (arith, e)) (omega (arith, s.high))) t

  pub halves-down : ahead_of (entry_at l mid) w k ≡ false → Halves l n w k lo mid
  unfolding Ordered
  halves-down t =
      record { low = a; high = omega (arith, s.high); below = s.below; above = λ x r h g. go x r g (ahead_of (entry_at l r) w k) refl (dec_lt mid r) h }
    where
      go : ((a b : ℕ) → a < b → b < n → before weight_of key_of (entry_at l a) (entry_at l b) ≡ true) → (r : ℕ) → r < n → (u : Bool) → ahead_of (entry_at l r) w k ≡ u → Dec (mid < r) → mid ≤ r → u ≡ false
      go x r g false e d h = refl
      go x r g true e (yes d) h = sym (ahead-trans (entry_at l mid) (entry_at l r) w k (x mid r d g) e) ∙ t
      go x r g true e (no d) h = let z : mid ≡ r = omega (arith, d) in sym (rw z e) ∙ t

pub halves-end : (l : List ℕ) (n w k lo hi : ℕ) → Halves l n w k lo hi → hi ≤ lo → Ranks l n w k lo
halves-end l n w k lo hi s h =
    record { low = omega (arith, s.low, s.high); below = s.below; above = λ x q g. s.above x q (omega (arith, h, g)) }

-- ---- a list by its elements, in which one comes in or is left out

insert-at : (x : Entry) (f : ℕ → Entry) (n at : ℕ) → at ≤ n → ((r : ℕ) → r < at → before weight_of key_of (f r) x ≡ true) → (at < n → before weight_of key_of (f at) x ≡ false) → insert_at (tab f n) at x ≡ insert_by x (tab f n)
unfolding insert_at
insert-at x f zero zero h a b = refl
insert-at x f zero (suc at) h a b = absurd (omega arith)
insert-at x f (suc n) zero h a b = rw (b (omega arith))
insert-at x f (suc n) (suc at) h a b =
    rw (a zero (omega arith))
    (ap (λ (r : List Entry). f zero ∷ r) (insert-at x (λ i. f (suc i)) n at (le_of_suc-le-suc h) (λ r q. a (suc r) (suc-le-suc q)) (λ q. b (suc-le-suc q))))

tab-insert : (f g : ℕ → Entry) (n at : ℕ) (x : Entry) → at ≤ n → ((r : ℕ) → r < at → g r ≡ f r) → g at ≡ x → ((r : ℕ) → at ≤ r → r < n → g (suc r) ≡ f r) → tab g (suc n) ≡ insert_at (tab f n) at x
unfolding insert_at
tab-insert f g zero zero x h a e b = λ t. e t ∷ []
tab-insert f g zero (suc at) x h a e b = absurd (omega arith)
tab-insert f g (suc n) zero x h a e b = λ t. e t ∷ tab-ext (λ i. g (suc i)) f (suc n) (λ r q. b r (omega arith) q) t
tab-insert f g (suc n) (suc at) x h a e b =
    λ t. a zero (omega arith) t ∷ tab-insert (λ i. f (suc i)) (λ i. g (suc i)) n at x (le_of_suc-le-suc h) (λ r q. a (suc r) (suc-le-suc q)) e (λ r p q. b (suc r) (suc-le-suc p) (suc-le-suc q)) t

tab-remove : (f g : ℕ → Entry) (n at : ℕ) → at ≤ n → ((r : ℕ) → r < at → g r ≡ f r) → ((r : ℕ) → at ≤ r → r < n → g r ≡ f (suc r)) → tab g n ≡ remove_at (tab f (suc n)) at
unfolding remove_at
tab-remove f g n zero h a b = tab-ext g (λ i. f (suc i)) n (λ r q. b r (omega arith) q)
tab-remove f g zero (suc at) h a b = absurd (omega arith)
tab-remove f g (suc n) (suc at) h a b =
    λ t. a zero (omega arith) t ∷ tab-remove (λ i. f (suc i)) (λ i. g (suc i)) n at (le_of_suc-le-suc h) (λ r q. a (suc r) (suc-le-suc q)) (λ r p q. b (suc r) (suc-le-suc p) (suc-le-suc q)) t

-- the elements beside that at `at`
abbrev skip : ℕ → ℕ → ℕ
skip at r = pick (ltb r at) r (suc r)

skip-low : (at r : ℕ) → r < at → skip at r ≡ r
skip-low at r h = rw (lt-ltb r at h)

skip-high : (at r : ℕ) → at ≤ r → skip at r ≡ suc r
skip-high at r h = rw (le-ltb r at h)

pub removed : (l m : List ℕ) (n at : ℕ) → at ≤ n → ((r : ℕ) → r < at → entry_at m r ≡ entry_at l r) → ((r : ℕ) → at ≤ r → r < n → entry_at m r ≡ entry_at l (suc r)) → entries_of m n ≡ remove_at (entries_of l (suc n)) at
unfolding entries_of
removed l m n at h a b = tab-remove (entry_at l) (entry_at m) n at h a b

-- what is left out is not read
pub removed-same : (l m : List ℕ) (n at : ℕ) → at ≤ n → ((r : ℕ) → r < suc n → (r ≡ at → ⊥) → entry_at m r ≡ entry_at l r) → remove_at (entries_of m (suc n)) at ≡ remove_at (entries_of l (suc n)) at
unfolding entries_of
removed-same l m n at h e =
    sym (tab-remove (entry_at m) (λ r. entry_at m (skip at r)) n at h (λ r a. ap (entry_at m) (skip-low at r a)) (λ r a b. ap (entry_at m) (skip-high at r a)))
    ∙ tab-remove (entry_at l) (λ r. entry_at m (skip at r)) n at h
    (λ r a. ap (entry_at m) (skip-low at r a) ∙ e r (omega arith) (λ z. omega arith))
    (λ r a b. ap (entry_at m) (skip-high at r a) ∙ e (suc r) (omega arith) (λ z. omega arith))

-- the entry at `at` goes to the place `to` before it, where the order has it among the others
module _ (l m : List ℕ) (n at to : ℕ) (h : at ≤ n) (g : to ≤ at) (front : (r : ℕ) → r < to → entry_at m r ≡ entry_at l r) (itself : entry_at m to ≡ entry_at l at)
    (behind : (r : ℕ) → to ≤ r → r < at → entry_at m (suc r) ≡ entry_at l r) (rest : (r : ℕ) → at < r → r < suc n → entry_at m r ≡ entry_at l r)
    (lead : (r : ℕ) → r < to → before weight_of key_of (entry_at l r) (entry_at l at) ≡ true)
    (here : to < at → before weight_of key_of (entry_at l to) (entry_at l at) ≡ false)
    (next : at < n → before weight_of key_of (entry_at l at) (entry_at l (suc at)) ≡ true) where
  others : ℕ → Entry
  others r = entry_at l (skip at r)

  low : (r : ℕ) → r < at → others r ≡ entry_at l r
  unfolding others
  low r a = ap (entry_at l) (skip-low at r a)

  high : (r : ℕ) → at ≤ r → others r ≡ entry_at l (suc r)
  unfolding others
  high r a = ap (entry_at l) (skip-high at r a)

  moved : (r : ℕ) → to ≤ r → r < n → entry_at m (suc r) ≡ others r
  moved r a b = go (dec_lt r at)
    where
      go : Dec (r < at) → entry_at m (suc r) ≡ others r
      go (yes c) = behind r a c ∙ sym (low r c)
      go (no c) = rest (suc r) (omega (arith, c)) (omega arith) ∙ sym (high r (omega (arith, c)))

  not-ahead : to < n → before weight_of key_of (others to) (entry_at l at) ≡ false
  not-ahead b = go (dec_lt to at)
    where
      go : Dec (to < at) → before weight_of key_of (others to) (entry_at l at) ≡ false
      go (yes c) = rw (low to c) (here c)
      go (no c) =
          let e : to ≡ at = omega (arith, c) in
          rw (high to (omega (arith, c)), e) (asym weight_of key_of (entry_at l at) (entry_at l (suc at)) (next (omega arith)))

  pub settled-list : entries_of m (suc n) ≡ insert_by (entry_at l at) (remove_at (entries_of l (suc n)) at)
  unfolding entries_of
  settled-list =
      tab-insert others (entry_at m) n to (entry_at l at) (omega arith) (λ r a. front r a ∙ sym (low r (omega arith))) itself moved
      ∙ insert-at (entry_at l at) others n to (omega arith) (λ r a. rw (low r (omega arith)) (lead r a)) not-ahead
      ∙ ap (insert_by (entry_at l at)) (tab-remove (entry_at l) others n at h low (λ r a b. high r a))

-- ---- the search for an id

place_none : (k : ℕ) (f : ℕ → Entry) (n i : ℕ) → ((r : ℕ) → r < n → (f r).id ≡ k → ⊥) → place_from i k (tab f n) ≡ None
unfolding place_from
place_none k f zero i h = refl
place_none k f (suc n) i h = rw (ne_eqb (f zero).id k (h zero (omega arith))) (place_none k (λ r. f (suc r)) n (i + 1) (λ r b. h (suc r) (suc-le-suc b)))

place_at : (k : ℕ) (f : ℕ → Entry) (n i at : ℕ) → at < n → (f at).id ≡ k → ((r : ℕ) → r < at → (f r).id ≡ k → ⊥) → place_from i k (tab f n) ≡ Some (i + at)
unfolding place_from
place_at k f zero i at h t o = absurd (omega arith)
place_at k f (suc n) i zero h t o = rw (eq-eqb (f zero).id k t, add-zero i)
place_at k f (suc n) i (suc at) h t o =
    rw (ne_eqb (f zero).id k (o zero (omega arith)))
    (place_at k (λ r. f (suc r)) n (i + 1) at (le_of_suc-le-suc h) t (λ r b. o (suc r) (suc-le-suc b)) ∙ ap Some (omega arith))

pub nowhere : (l : List ℕ) (n k : ℕ) → ((r : ℕ) → r < n → (entry_at l r).id ≡ k → ⊥) → place_of k (entries_of l n) ≡ None
unfolding entries_of place_of
nowhere l n k h = place_none k (entry_at l) n 0 h

pub somewhere : (l : List ℕ) (n k at : ℕ) → at < n → (entry_at l at).id ≡ k → ((r q : ℕ) → r < n → q < n → (entry_at l r).id ≡ (entry_at l q).id → r ≡ q) → place_of k (entries_of l n) ≡ Some at
unfolding entries_of place_of
somewhere l n k at h e d = place_at k (entry_at l) n 0 at h e (λ r b z. omega (arith, d r at (omega arith) h (z ∙ sym e))) ∙ ap Some (omega arith)

pooled-at : (k : ℕ) (f : ℕ → Entry) (n at : ℕ) → at < n → (f at).id ≡ k → pooled k (tab f n) ≡ true
pooled-at k f zero at h e = absurd (omega arith)
pooled-at k f (suc n) zero h e = rw (eq-eqb (f zero).id k e)
pooled-at k f (suc n) (suc at) h e = go (eqb (f zero).id k) (pooled-at k (λ r. f (suc r)) n at (le_of_suc-le-suc h) e)
  where
    go : (t : Bool) → pooled k (tab (λ r. f (suc r)) n) ≡ true → pick t true (pooled k (tab (λ r. f (suc r)) n)) ≡ true
    go true q = refl
    go false q = q

pub not_there : (l : List ℕ) (n k : ℕ) → pooled k (entries_of l n) ≡ false → (r : ℕ) → r < n → (entry_at l r).id ≡ k → ⊥
unfolding entries_of
not_there l n k q r b e = let z : true ≡ false = sym (pooled-at k (entry_at l) n r b e) ∙ q in let o : ◌≡◌ {A = ℕ} 0 1 = cc in omega arith

-- ---- entries in order, each id once

behind-tab : (x : Entry) (f : ℕ → Entry) (n : ℕ) → ((r : ℕ) → r < n → before weight_of key_of (f r) x ≡ false) → Behind weight_of key_of x (tab f n)
behind-tab x f zero h = tt
behind-tab x f (suc n) h = (h zero (omega arith), behind-tab x (λ r. f (suc r)) n (λ r b. h (suc r) (suc-le-suc b)))

sorted-tab : (f : ℕ → Entry) (n : ℕ) → ((a b : ℕ) → a < b → b < n → before weight_of key_of (f a) (f b) ≡ true) → Sorted weight_of key_of (tab f n)
sorted-tab f zero s = tt
sorted-tab f (suc n) s =
    (behind-tab (f zero) (λ r. f (suc r)) n (λ r b. asym weight_of key_of (f zero) (f (suc r)) (s zero (suc r) (omega arith) (suc-le-suc b))), sorted-tab (λ r. f (suc r)) n (λ a b h g. s (suc a) (suc b) (suc-le-suc h) (suc-le-suc g)))

count_none : (k : ℕ) (f : ℕ → Entry) (n : ℕ) → ((r : ℕ) → r < n → (f r).id ≡ k → ⊥) → count k (map key_of (tab f n)) ≡ 0
count_none k f zero h = refl
count_none k f (suc n) h = rw (ne_eqb (f zero).id k (h zero (omega arith)), count_none k (λ r. f (suc r)) n (λ r b. h (suc r) (suc-le-suc b)))

once-tab : (f : ℕ → Entry) (n : ℕ) → ((r q : ℕ) → r < n → q < n → (f r).id ≡ (f q).id → r ≡ q) → Once (map key_of (tab f n))
once-tab f zero d = λ k. omega arith
once-tab f (suc n) d =
    once-cons (f zero).id (map key_of (tab (λ r. f (suc r)) n)) (count_none (f zero).id (λ r. f (suc r)) n (λ r b e. omega (arith, d (suc r) zero (suc-le-suc b) (omega arith) e)))
    (once-tab (λ r. f (suc r)) n (λ r q a b e. omega (arith, d (suc r) (suc q) (suc-le-suc a) (suc-le-suc b) e)))

pub in_order_at : (l : List ℕ) (n : ℕ) → Ordered (entry_at l) n → ((r q : ℕ) → r < n → q < n → (entry_at l r).id ≡ (entry_at l q).id → r ≡ q) → EntriesInOrder (entries_of l n)
unfolding Ordered entries_of
in_order_at l n s d = record { sorted = sorted-tab (entry_at l) n s; once = once-tab (entry_at l) n d }
