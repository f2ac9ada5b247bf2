-- Chains through slots, by functions alone, where a slot may leave its chain and another may enter in the middle of one. `h i` is the bucket of slot i,
-- or a number that is no bucket if the slot is in none; `lk i` is the link in slot i, and `hd b` the word that stands as the head of bucket b.
use Prim.Native.Nat.{ℕ, zero, suc, ◌≤◌, ◌<◌}
use Rattle.std.proofs.Math.Path.{◌≡◌, refl}
use Rattle.std.proofs.Common.{sym, ap, ◌∙◌}
use Rattle.std.specs.Prelude.{Bool}
use Rattle.std.proofs.Math.Bool.{true, false}
use Rattle.std.proofs.Math.Decide.{ℕ_discrete, dec_lt}
use native.Mathlib.Omega.{arith}
use Rattle.std.proofs.Math.Dec.{eqb, ltb}
use borrow.Author.Tests.{eqb-true, eqb-false, eq-eqb, ne_eqb, lt-ltb, le-ltb, ltb-true}
use Rattle.words.specs.Lists.{pick}
use Rattle.words.specs.Chains.{prev, prev-le, prev-in, prev-gap, prev-ext, checked, bounded, bounded-le}

pub record Linked (h lk hd : ℕ → ℕ) (B n : ℕ) : Type 0 where
  pub heads : (b : ℕ) → b < B → checked h n b (hd b) ≡ prev h n b
  pub links : (i : ℕ) → i < n → h i < B → bounded i (lk i) ≡ prev h i (h i)

-- any words are an index of no slots
pub linked-none : (h lk hd : ℕ → ℕ) (B : ℕ) → Linked h lk hd B 0
unfolding prev checked
linked-none h lk hd B = record { heads = λ b q. none b (hd b); links = λ i q r. absurd (omega arith) }
  where
    none : (b w : ℕ) → checked h 0 b w ≡ 0
    none b zero = refl
    none b (suc j) = rw (le-ltb j 0 (omega arith))

-- the same words are the same index
checked-ext : (g h : ℕ → ℕ) (n b w : ℕ) → ((i : ℕ) → i < n → g i ≡ h i) → checked g n b w ≡ checked h n b w
unfolding checked
checked-ext g h n b zero e = refl
checked-ext g h n b (suc j) e = go (ltb j n) refl
  where
    go : (t : Bool) → ltb j n ≡ t → pick t (pick (eqb (g j) b) (suc j) 0) 0 ≡ pick t (pick (eqb (h j) b) (suc j) 0) 0
    go true q = ap (λ (x : ℕ). pick (eqb x b) (suc j) 0) (e j (ltb-true j n q))
    go false q = refl

pub linked-same : (h lk hd g lk' hd' : ℕ → ℕ) (B n : ℕ) → ((i : ℕ) → i < n → g i ≡ h i) → ((i : ℕ) → i < n → lk' i ≡ lk i) → ((b : ℕ) → b < B → hd' b ≡ hd b)
    → Linked h lk hd B n → Linked g lk' hd' B n
linked-same h lk hd g lk' hd' B n eh el ed c =
    record {
      heads = λ b q. ap (checked g n b) (ed b q) ∙ checked-ext g h n b (hd b) eh ∙ c.heads b q ∙ sym (prev-ext g h n b eh);
      links = λ i q r. ap (bounded i) (el i q) ∙ c.links i q (rw (eh i q) at r) ∙ sym (ap (prev g i) (eh i q) ∙ prev-ext g h i (h i) (λ j s. eh j (omega arith)));
    }

-- a slot more that is in no bucket
pub linked-more : (h lk hd : ℕ → ℕ) (B n : ℕ) → B ≤ h n → Linked h lk hd B n → Linked h lk hd B (suc n)
unfolding prev checked
linked-more h lk hd B n z c = record { heads = λ b q. head b q (hd b) (c.heads b q); links = λ i q r. link i q r (ℕ_discrete i n) }
  where
    link : (i : ℕ) → i < suc n → h i < B → Dec (i ≡ n) → bounded i (lk i) ≡ prev h i (h i)
    link i q r (yes e) = absurd (omega (arith, rw e at r))
    link i q r (no e) = c.links i (omega (arith, e)) r

    head : (b : ℕ) → b < B → (w : ℕ) → checked h n b w ≡ prev h n b → checked h (suc n) b w ≡ pick (eqb (h n) b) (suc n) (prev h n b)
    head b q zero e = rw (ne_eqb (h n) b (λ f. omega arith)) e
    head b q (suc j) e = rw (ne_eqb (h n) b (λ f. omega arith)) (go (ℕ_discrete j n) (dec_lt j n))
      where
        go : Dec (j ≡ n) → Dec (j < n) → pick (ltb j (suc n)) (pick (eqb (h j) b) (suc j) 0) 0 ≡ prev h n b
        go (yes f) d = let y : n ≤ j = omega arith in rw (f, ne_eqb (h n) b (λ f. omega arith)) (none (ltb n (suc n)) ∙ sym (none' (le-ltb j n y)) ∙ e)
          where
            none : (t : Bool) → ◌≡◌ {A = ℕ} (pick t 0 0) 0
            none true = refl
            none false = refl

            none' : ltb j n ≡ false → pick (ltb j n) (pick (eqb (h j) b) (suc j) 0) 0 ≡ 0
            none' g = rw g
        go (no f) (yes d) = rw (lt-ltb j (suc n) (omega arith)) (rw (lt-ltb j n d) at e)
        go (no f) (no d) = rw (le-ltb j (suc n) (omega (arith, f, d))) (rw (le-ltb j n (omega (arith, d))) at e)

-- ---- the last slot of a bucket

module _ (h : ℕ → ℕ) where
  -- a slot of the bucket is before it or is it
  pub prev-ge : (n b j : ℕ) → j < n → h j ≡ b → j < prev h n b
  unfolding prev
  prev-ge zero b j l e = absurd (omega arith)
  prev-ge (suc i) b j l e = go (eqb (h i) b) refl (ℕ_discrete j i) (λ q. prev-ge i b j q e)
    where
      go : (t : Bool) → eqb (h i) b ≡ t → Dec (j ≡ i) → (j < i → j < prev h i b) → j < pick t (suc i) (prev h i b)
      go true q d ih = omega arith
      go false q (yes z) ih = absurd (eqb-false (h i) b q (rw z at e))
      go false q (no z) ih = ih (omega (arith, z))

  -- slots of other buckets are skipped
  prev-skip : (w n b : ℕ) → w ≤ n → ((j : ℕ) → w ≤ j → j < n → eqb (h j) b ≡ false) → prev h n b ≡ prev h w b
  unfolding prev
  prev-skip w zero b l f = let e : w ≡ zero = omega arith in rw e
  prev-skip w (suc n) b l f = go (dec_lt n w) (λ q. prev-skip w n b q (λ j x y. f j x (omega arith)))
    where
      go : Dec (n < w) → (w ≤ n → prev h n b ≡ prev h w b) → pick (eqb (h n) b) (suc n) (prev h n b) ≡ prev h w b
      go (yes q) ih = let e : w ≡ suc n = omega arith in rw e
      go (no q) ih = rw (f n (omega (arith, q)) (omega arith)) (ih (omega (arith, q)))

  -- it is what a right head reads as
  checked-prev : (n b : ℕ) → checked h n b (prev h n b) ≡ prev h n b
  unfolding checked
  checked-prev n b = go (prev h n b) refl
    where
      go : (w : ℕ) → prev h n b ≡ w → checked h n b w ≡ w
      go zero e = refl
      go (suc j) e = rw (lt-ltb j n (omega (arith, prev-le h n b)), eq-eqb (h j) b (prev-in h n b j e))

  -- a head that reads as a slot
  checked-is : (n b w j : ℕ) → checked h n b w ≡ suc j → (w ≡ suc j) × (j < n) × (h j ≡ b)
  unfolding checked
  checked-is n b zero j e = absurd (omega arith)
  checked-is n b (suc k) j e = go (ltb k n) refl (eqb (h k) b) refl e
    where
      go : (t : Bool) → ltb k n ≡ t → (y : Bool) → eqb (h k) b ≡ y → pick t (pick y (suc k) 0) 0 ≡ suc j → (suc k ≡ suc j) × (j < n) × (h j ≡ b)
      go true p true q f = let z : k ≡ j = omega arith in (f, rw z at (ltb-true k n p), rw z at (eqb-true (h k) b q))
      go true p false q f = absurd (omega arith)
      go false p y q f = absurd (omega arith)

  checked-at : (n b j : ℕ) → j < n → h j ≡ b → checked h n b (suc j) ≡ suc j
  unfolding checked
  checked-at n b j l e = rw (lt-ltb j n l, eq-eqb (h j) b e)

pub bounded-small : (i w : ℕ) → w ≤ i → bounded i w ≡ w
unfolding bounded
bounded-small i w h = rw (le-ltb i w h)

-- ---- slot i goes to another bucket, or into none, or comes from none

module _ (h g : ℕ → ℕ) (i : ℕ) (same : (j : ℕ) → (j ≡ i → ⊥) → g j ≡ h j) where
  -- other buckets have the same slots
  prev-other : (n b : ℕ) → (h i ≡ b → ⊥) → (g i ≡ b → ⊥) → prev g n b ≡ prev h n b
  unfolding prev
  prev-other zero b x y = refl
  prev-other (suc n) b x y = go (ℕ_discrete n i) (prev-other n b x y)
    where
      go : Dec (n ≡ i) → prev g n b ≡ prev h n b → pick (eqb (g n) b) (suc n) (prev g n b) ≡ pick (eqb (h n) b) (suc n) (prev h n b)
      go (yes e) ih = rw (e, ne_eqb (g i) b y, ne_eqb (h i) b x, ← e) ih
      go (no e) ih = rw (same n e, ih)

  checked-other : (n b w : ℕ) → (h i ≡ b → ⊥) → (g i ≡ b → ⊥) → checked g n b w ≡ checked h n b w
  unfolding checked
  checked-other n b zero x y = refl
  checked-other n b (suc j) x y = go (ℕ_discrete j i)
    where
      go : Dec (j ≡ i) → pick (ltb j n) (pick (eqb (g j) b) (suc j) 0) 0 ≡ pick (ltb j n) (pick (eqb (h j) b) (suc j) 0) 0
      go (yes e) = rw (e, ne_eqb (g i) b y, ne_eqb (h i) b x)
      go (no e) = rw (same j e)

  -- before slot i, and where the last slot is behind it, nothing changes
  prev-before : (n b : ℕ) → n ≤ i → prev g n b ≡ prev h n b
  prev-before n b l = prev-ext g h n b (λ j q. same j (λ e. omega arith))

  prev-past : (n b : ℕ) → suc i < prev h n b → prev g n b ≡ prev h n b
  unfolding prev
  prev-past zero b l = refl
  prev-past (suc n) b l = go (ℕ_discrete n i) (eqb (h n) b) refl (prev-past n b) l
    where
      go : Dec (n ≡ i) → (t : Bool) → eqb (h n) b ≡ t → (suc i < prev h n b → prev g n b ≡ prev h n b) → suc i < pick t (suc n) (prev h n b) → pick (eqb (g n) b) (suc n) (prev g n b) ≡ pick t (suc n) (prev h n b)
      go (yes e) true q ih l = absurd (omega arith)
      go (yes e) false q ih l = absurd (omega (arith, prev-le h n b))
      go (no e) true q ih l = rw (same n e, q)
      go (no e) false q ih l = rw (same n e, q) (ih l)

  -- where the last slot was not behind it
  module _ (n b : ℕ) (l : i < n) (v : prev h n b ≤ suc i) where
    to-here : prev g n b ≡ prev g (suc i) b
    to-here = prev-skip g (suc i) n b l (λ j x y. rw (same j (λ e. omega arith)) (prev-gap h n b j (omega arith) y))

    pub prev-gone : (g i ≡ b → ⊥) → prev g n b ≡ prev h i b
    unfolding prev
    prev-gone d = to-here ∙ rw (ne_eqb (g i) b d) (prev-before i b (omega arith))

    pub prev-new : g i ≡ b → prev g n b ≡ suc i
    unfolding prev
    prev-new e = to-here ∙ rw (eq-eqb (g i) b e)

  -- ---- the chain of b is mended at one place q above i: a slot of the bucket, or n, which stands for the head

  module _ (lk hd lk' hd' : ℕ → ℕ) (B n b q : ℕ) (low : i < n) (lowb : b < B) (x : Linked h lk hd B n)
      (apart : (c : ℕ) → c < B → (c ≡ b → ⊥) → (h i ≡ c → ⊥) × (g i ≡ c → ⊥))
      (above : i < q) (most : q ≤ n) (place : q < n → h q ≡ b) (last : prev h q b ≤ suc i)
      (own : g i < B → bounded i (lk' i) ≡ prev g i (g i))
      (here : q < n → lk' q ≡ prev g q b) (top : q ≡ n → hd' b ≡ prev g n b) (stays : q < n → hd' b ≡ hd b)
      (others : (j : ℕ) → j < n → (j ≡ i → ⊥) → (j ≡ q → ⊥) → lk' j ≡ lk j) (rest : (c : ℕ) → c < B → (c ≡ b → ⊥) → hd' c ≡ hd c) where
    -- any other place of the chain above i has its last slot above i
    far : (p : ℕ) → p ≤ n → i < p → (p ≡ q → ⊥) → (p < n → h p ≡ b) → suc i < prev h p b
    far p l a d e = go (dec_lt p q)
      where
        go : Dec (p < q) → suc i < prev h p b
        go (yes z) = absurd (omega (arith, prev-ge h q b p z (e (omega arith))))
        go (no z) = omega (arith, prev-ge h p b q (omega (arith, z, d)) (place (omega (arith, z, d))))

    head-b : Dec (q ≡ n) → checked g n b (hd' b) ≡ prev g n b
    head-b (yes e) = rw (top e) (checked-prev g n b)
    head-b (no e) = go (prev h n b) refl (far n (omega arith) low (λ z. e (sym z)) (λ z. absurd (omega arith)))
      where
        go : (w : ℕ) → prev h n b ≡ w → suc i < w → checked g n b (hd' b) ≡ prev g n b
        go zero f l = absurd (omega arith)
        go (suc j) f l =
            let y = checked-is h n b (hd b) j (x.heads b lowb ∙ f) in
            rw (stays (omega (arith, e)), y.0) (checked-at g n b j y.1 (same j (λ z. omega arith) ∙ y.2)) ∙ sym (prev-past n b (rw f l) ∙ f)

    head-c : (c : ℕ) → c < B → Dec (c ≡ b) → checked g n c (hd' c) ≡ prev g n c
    head-c c l (yes e) = rw e (head-b (ℕ_discrete q n))
    head-c c l (no e) =
        let y = apart c l e in
        ap (checked g n c) (rest c l e) ∙ checked-other n c (hd c) y.0 y.1 ∙ x.heads c l ∙ sym (prev-other n c y.0 y.1)

    link-j : (j : ℕ) → j < n → g j < B → Dec (j ≡ i) → Dec (j ≡ q) → Dec (h j ≡ b) → Dec (j < i) → bounded j (lk' j) ≡ prev g j (g j)
    link-j j l m (yes e) d f a = rw e (own (rw e at m))
    link-j j l m (no e) (yes d) f a =
        let y : q < n = omega (arith, d) in
        rw (d, same q (λ z. omega arith), place y, here y) (bounded-small q (prev g q b) (prev-le g q b))
    link-j j l m (no e) (no d) (yes f) (yes a) = rw (others j l e d, same j e) (x.links j l (rw (same j e) at m) ∙ sym (prev-before j (h j) (omega arith)))
    link-j j l m (no e) (no d) (yes f) (no a) =
        rw (others j l e d, same j e) (x.links j l (rw (same j e) at m) ∙ sym (prev-past j (h j) (rw f (far j (omega arith) (omega (arith, e, a)) d (λ z. f)))))
    link-j j l m (no e) (no d) (no f) a =
        let y = apart (h j) (rw (same j e) at m) f in
        rw (others j l e d, same j e) (x.links j l (rw (same j e) at m) ∙ sym (prev-other j (h j) y.0 y.1))

    pub spliced : Linked g lk' hd' B n
    spliced =
        record { heads = λ c l. head-c c l (ℕ_discrete c b); links = λ j l m. link-j j l m (ℕ_discrete j i) (ℕ_discrete j q) (ℕ_discrete (h j) b) (dec_lt j i) }

pub link-less : (u i x v : ℕ) → u ≡ bounded i x → v ≡ suc i → u < v
link-less u i x v f e = omega (arith, bounded-le i x)
