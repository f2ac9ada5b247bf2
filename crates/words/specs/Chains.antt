-- Chains through slots, newest first, by functions alone: `h i` is the bucket of slot i, `lk i` the link that stands in slot i and `hd b` the word
-- that stands as the head of bucket b. A link or a head names a slot by one more than its index, and 0 names none.
use Rattle.std.specs.Prelude.{◌≡◌, ℕ, zero, suc, ◌<◌, ◌≤◌, Bool, true, false, ◌==◌, ◌≢◌, nat_lt, Option, None, Some}
use Rattle.std.proofs.Math.Path.{refl, sym, ap}
use Rattle.std.proofs.Common.{◌∙◌}
use Rattle.std.proofs.Math.Decide.{ℕ_discrete}
use native.Mathlib.Omega.{arith}
use borrow.Author.Tests.{eqb-true, eq-eqb, ne_eqb, lt-ltb, le-ltb, ltb-true, ltb-false}
use Rattle.words.specs.Lists.{pick}

-- the word that names a slot
abbrev pub name_of : Option ℕ → ℕ
name_of None = 0
name_of (Some i) = suc i

-- ---- the slot before n that is the last of bucket b

module _ (h : ℕ → ℕ) where
  unfoldable pub prev : ℕ → ℕ → ℕ
  prev zero b = 0
  prev (suc i) b = pick (h i == b) (suc i) (prev i b)

  pub prev-le : (n b : ℕ) → prev n b ≤ n
  unfolding prev
  prev-le zero b = omega arith
  prev-le (suc i) b = go (h i == b) (prev-le i b)
    where
      go : (t : Bool) → prev i b ≤ i → pick t (suc i) (prev i b) ≤ suc i
      go true q = omega arith
      go false q = omega arith

  -- it is in the bucket
  pub prev-in : (n b j : ℕ) → prev n b ≡ suc j → h j ≡ b
  unfolding prev
  prev-in zero b j e = absurd (omega arith)
  prev-in (suc i) b j e = go (h i == b) refl (prev-in i b j) e
    where
      go : (t : Bool) → (h i == b) ≡ t → (prev i b ≡ suc j → h j ≡ b) → pick t (suc i) (prev i b) ≡ suc j → h j ≡ b
      go true q ih e = let z : j ≡ i = omega arith in rw z (eqb-true (h i) b q)
      go false q ih e = ih e

  -- and none behind it is
  pub prev-gap : (n b j : ℕ) → prev n b ≤ j → j < n → (h j == b) ≡ false
  unfolding prev
  prev-gap zero b j p l = absurd (omega arith)
  prev-gap (suc i) b j p l = go (h i == b) refl (prev-gap i b j) p (ℕ_discrete j i)
    where
      go : (t : Bool) → (h i == b) ≡ t → (prev i b ≤ j → j < i → (h j == b) ≡ false) → pick t (suc i) (prev i b) ≤ j → Dec (j ≡ i) → (h j == b) ≡ false
      go true q ih p d = absurd (omega arith)
      go false q ih p (yes e) = rw e q
      go false q ih p (no e) = ih p (omega (arith, e))

pub prev-ext : (g h : ℕ → ℕ) (n b : ℕ) → ((i : ℕ) → i < n → g i ≡ h i) → prev g n b ≡ prev h n b
unfolding prev
prev-ext g h zero b e = refl
prev-ext g h (suc i) b e = λ k. pick (e i (omega arith) k == b) (suc i) (prev-ext g h i b (λ j q. e j (omega arith)) k)

-- ---- what a word is taken for. Words may be anything: a head that names no slot of the bucket, and a link that does not go down, name none.

unfoldable pub checked : (ℕ → ℕ) → ℕ → ℕ → ℕ → ℕ
checked h n b zero = 0
checked h n b (suc j) = pick (nat_lt j n) (pick (h j == b) (suc j) 0) 0

unfoldable pub bounded : ℕ → ℕ → ℕ
bounded i w = pick (nat_lt i w) 0 w

pub bounded-le : (i w : ℕ) → bounded i w ≤ i
unfolding bounded
bounded-le i w = go (nat_lt i w) refl
  where
    go : (t : Bool) → nat_lt i w ≡ t → pick t 0 w ≤ i
    go true q = omega arith
    go false q = ltb-false i w q

pub checked-le : (h : ℕ → ℕ) (n b w : ℕ) → checked h n b w ≤ n
unfolding checked
checked-le h n b zero = omega arith
checked-le h n b (suc j) = go (nat_lt j n) refl (h j == b)
  where
    go : (t : Bool) → nat_lt j n ≡ t → (u : Bool) → pick t (pick u (suc j) 0) 0 ≤ n
    go true q true = ltb-true j n q
    go true q false = omega arith
    go false q u = omega arith

-- ---- the index of n slots: each head is the last slot of its bucket, each link the last of its slot's bucket before it

pub record Chained (h lk hd : ℕ → ℕ) (B n : ℕ) : Type 0 where
  pub heads : (b : ℕ) → b < B → checked h n b (hd b) ≡ prev h n b
  pub links : (i : ℕ) → i < n → bounded i (lk i) ≡ prev h i (h i)

-- any words are an index of no slots: a start writes none
pub chained-none : (h lk hd : ℕ → ℕ) (B : ℕ) → Chained h lk hd B 0
unfolding prev checked
chained-none h lk hd B = record { heads = λ b q. none b (hd b); links = λ i q. absurd (omega arith) }
  where
    none : (b w : ℕ) → checked h 0 b w ≡ 0
    none b zero = refl
    none b (suc j) = rw (le-ltb j 0 (omega arith))

checked-ext : (g h : ℕ → ℕ) (n b w : ℕ) → ((i : ℕ) → i < n → g i ≡ h i) → checked g n b w ≡ checked h n b w
unfolding checked
checked-ext g h n b zero e = refl
checked-ext g h n b (suc j) e = go (nat_lt j n) refl
  where
    go : (t : Bool) → nat_lt j n ≡ t → pick t (pick (g j == b) (suc j) 0) 0 ≡ pick t (pick (h j == b) (suc j) 0) 0
    go true q = ap (λ (x : ℕ). pick (x == b) (suc j) 0) (e j (ltb-true j n q))
    go false q = refl

-- the same words are the same index
pub chained_same : (h lk hd h' lk' hd' : ℕ → ℕ) (B n : ℕ) → ((i : ℕ) → i < n → h' i ≡ h i) → ((i : ℕ) → i < n → lk' i ≡ lk i) → ((b : ℕ) → b < B → hd' b ≡ hd b)
    → Chained h lk hd B n → Chained h' lk' hd' B n
chained_same h lk hd h' lk' hd' B n eh el ed c =
    record {
      heads = λ b q. ap (checked h' n b) (ed b q) ∙ checked-ext h' h n b (hd b) eh ∙ c.heads b q ∙ sym (prev-ext h' h n b eh);
      links = λ i q. ap (bounded i) (el i q) ∙ c.links i q ∙ sym (ap (prev h' i) (eh i q) ∙ prev-ext h' h i (h i) (λ j r. eh j (omega arith)));
    }

-- slot n is linked in at the head of its bucket
module _ (h lk hd h' lk' hd' : ℕ → ℕ) (B n b₀ : ℕ) (eh : (i : ℕ) → i < n → h' i ≡ h i) (here : h' n ≡ b₀) (low : b₀ < B)
    (el : (i : ℕ) → i < n → lk' i ≡ lk i) (new : lk' n ≡ checked h n b₀ (hd b₀))
    (ed : (b : ℕ) → b < B → (b ≢ b₀) → hd' b ≡ hd b) (top : hd' b₀ ≡ suc n) (c : Chained h lk hd B n) where
  other : (b w : ℕ) → (b ≢ b₀) → checked h' (suc n) b w ≡ checked h n b w
  unfolding checked
  other b zero d = refl
  other b (suc j) d = go (nat_lt j n) refl (ℕ_discrete j n)
    where
      go : (t : Bool) → nat_lt j n ≡ t → Dec (j ≡ n) → pick (nat_lt j (suc n)) (pick (h' j == b) (suc j) 0) 0 ≡ pick t (pick (h j == b) (suc j) 0) 0
      go true q x = let r : j < n = ltb-true j n q in rw (lt-ltb j (suc n) (omega arith), eh j r)
      go false q (yes e) = rw (e, lt-ltb n (suc n) (omega arith), here, ne_eqb b₀ b (λ z. d (sym z)))
      go false q (no e) = let r : suc n ≤ j = omega (arith, ltb-false j n q, e) in rw (le-ltb j (suc n) r)

  prev-other : (b : ℕ) → (b ≢ b₀) → prev h' (suc n) b ≡ prev h n b
  unfolding prev
  prev-other b d = rw (here, ne_eqb b₀ b (λ z. d (sym z))) (prev-ext h' h n b eh)

  heads-more : (b : ℕ) → b < B → Dec (b ≡ b₀) → checked h' (suc n) b (hd' b) ≡ prev h' (suc n) b
  unfolding checked prev
  heads-more b q (yes e) = rw (e, top, lt-ltb n (suc n) (omega arith), here, eq-eqb b₀ b₀ refl)
  heads-more b q (no d) = ap (checked h' (suc n) b) (ed b q d) ∙ other b (hd b) d ∙ c.heads b q ∙ sym (prev-other b d)

  links-more : (i : ℕ) → i < suc n → Dec (i ≡ n) → bounded i (lk' i) ≡ prev h' i (h' i)
  unfolding bounded
  links-more i q (yes e) =
      rw (e, new, here, c.heads b₀ low) (small (prev-le h n b₀) ∙ sym (prev-ext h' h n b₀ eh))
    where
      small : {w : ℕ} → w ≤ n → bounded n w ≡ w
      small {w} r = rw (le-ltb n w r)
  links-more i q (no d) =
      let r : i < n = omega (arith, d) in
      ap (bounded i) (el i r) ∙ c.links i r ∙ sym (ap (prev h' i) (eh i r) ∙ prev-ext h' h i (h i) (λ j s. eh j (omega arith)))

  pub chained_more : Chained h' lk' hd' B (suc n)
  chained_more = record { heads = λ b q. heads-more b q (ℕ_discrete b b₀); links = λ i q. links-more i q (ℕ_discrete i n) }
