-- The rows that are held at a time are moved to the front, in order, and linked anew.
use Rattle.std.specs.Prelude.{ℕ, zero, suc, Bool, ◌&&◌, ◌+◌, ◌-◌, ◌≤◌, ◌<◌, ◌≡◌, refl, true, false, List, [], ◌∷◌, ◌++◌, length}
use Rattle.std.specs.List.{list_all, range_with_len}
use Rattle.std.proofs.Common.{sym, ap, ◌∙◌, arith, lt-ltb}
use Rattle.words.specs.Lists.{pick, keep_snoc}
use Rattle.expiring_cache.specs.Cache.{Held, young, fresh, prune}
use Rattle.expiring_cache.specs.Layout.{slot_at, window_of, window-none, window-suc, Windowed, windowed-none}
use Rattle.expiring_cache.specs.Entering.{Pushed, push-rows}

-- ---- all are held

pub record Fresh (l : List ℕ) (f n ttl time : ℕ) : Type 0 where
  pub all : prune ttl time (window_of l f n) ≡ window_of l f n

each : (p : ℕ → Bool) (n a : ℕ) → list_all p (range_with_len a n) ≡ true → (i : ℕ) → i < n → p (a + i) ≡ true
each p zero a e i h = absurd (omega arith)
each p (suc n) a e i h = go (p a) refl e (each p n (a + 1)) i h
  where
    go : (t : Bool) → p a ≡ t → (t && list_all p (range_with_len (a + 1) n)) ≡ true
        → (list_all p (range_with_len (a + 1) n) ≡ true → (i : ℕ) → i < n → p (a + 1 + i) ≡ true) → (i : ℕ) → i < suc n → p (a + i) ≡ true
    go true q e r zero h = let z : a + 0 ≡ a = omega arith in ap p z ∙ q
    go true q e r (suc i) h = let z : a + suc i ≡ a + 1 + i = omega arith in ap p z ∙ r e i (omega arith)
    go false q e r i h = sym (ap (λ (b : Bool). pick b (p (a + i)) true) e)

fresh-none : (l : List ℕ) (f ttl time : ℕ) → Fresh l f 0 ttl time
fresh-none l f ttl time = record { all = rw (window-none l f) }

fresh-more : (l : List ℕ) (f i ttl time : ℕ) → Fresh l f i ttl time → young ttl time (slot_at l (f + i)).since ≡ true → Fresh l f (i + 1) ttl time
fresh-more l f i ttl time h t =
    record { all = rw (window-suc l f i, keep_snoc (fresh ttl time) (window_of l f i) (slot_at l (f + i)), t, h.all) }

-- what the code finds of each row
pub fresh-all : (l : List ℕ) (f n ttl time : ℕ) → list_all (λ i. young ttl time (slot_at l (f + i)).since) (range_with_len 0 n) ≡ true → Fresh l f n ttl time
fresh-all l f n ttl time e = first n (omega arith)
  where
    first : (k : ℕ) → k ≤ n → Fresh l f k ttl time
    first zero h = fresh-none l f ttl time
    first (suc k) h =
        let i : suc k ≡ k + 1 = omega arith in
        let z : 0 + k ≡ k = omega arith in
        rw i (fresh-more l f k ttl time (first k (omega arith)) (ap (λ (x : ℕ). young ttl time (slot_at l (f + x)).since) (sym z) ∙ each (λ i. young ttl time (slot_at l (f + i)).since) n 0 e k (omega arith)))

-- at time 0 all rows are of age 0
pub all_stay : (xs : List Held) → prune 1 0 xs ≡ xs
all_stay [] = refl
all_stay (x ∷ xs) = rw (lt-ltb (0 - x.since) 1 (omega arith), all_stay xs)

-- ---- the loop: of the first i rows those held are the first w slots, and the rows from i on are as they were

pub record Gathered (l m : List ℕ) (f n r ttl time : ℕ) : Type 0 where
  pub low : r ≤ n
  pub rows : window_of m 0 r ≡ prune ttl time (window_of l f n)
  pub index : Windowed m 0 r

pub record Gathers (l₀ : List ℕ) (f n ttl time : ℕ) (l : List ℕ) (w i : ℕ) : Type 0 where
  pub len : length l ≡ length l₀
  pub low : w ≤ i
  pub high : i ≤ n
  pub rows : window_of l 0 w ≡ prune ttl time (window_of l₀ f i)
  pub rest : (j : ℕ) → i ≤ j → slot_at l (f + j) ≡ slot_at l₀ (f + j)
  pub index : Windowed l 0 w

pub gathers-none : (l : List ℕ) (f n ttl time : ℕ) → Gathers l f n ttl time l 0 0
gathers-none l f n ttl time =
    record {
      len = refl;
      low = omega arith;
      high = omega arith;
      rows = rw (window-none l 0, window-none l f);
      rest = λ j g. refl;
      index = windowed-none l 0;
    }

module _ (l₀ : List ℕ) (f n ttl time : ℕ) (l : List ℕ) (w i : ℕ) (s : Gathers l₀ f n ttl time l w i) (h : i < n) where
  more : prune ttl time (window_of l₀ f (i + 1)) ≡ pick (fresh ttl time (slot_at l (f + i))) (window_of l 0 w ++ (slot_at l (f + i) ∷ [])) (window_of l 0 w)
  more = rw (window-suc l₀ f i, keep_snoc (fresh ttl time) (window_of l₀ f i) (slot_at l₀ (f + i)), ← s.rest i (omega arith), s.rows)

  pub gathers-gone : young ttl time (slot_at l (f + i)).since ≡ false → Gathers l₀ f n ttl time l w (i + 1)
  gathers-gone t =
      record {
        len = s.len;
        low = omega (arith, s.low);
        high = omega arith;
        rows = sym (more ∙ rw t);
        rest = λ j g. s.rest j (omega arith);
        index = s.index;
      }

  pub gathers-kept : (m : List ℕ) (x : Held) → length m ≡ length l → x ≡ slot_at l (f + i) → young ttl time x.since ≡ true → Pushed l m 0 w x → Gathers l₀ f n ttl time m (w + 1) (i + 1)
  gathers-kept m x e g t k =
      record {
        len = e ∙ s.len;
        low = omega (arith, s.low);
        high = omega arith;
        rows = push-rows l m 0 w x k ∙ sym (more ∙ ap (λ (y : Held). pick (fresh ttl time y) (window_of l 0 w ++ (y ∷ [])) (window_of l 0 w)) (sym g) ∙ rw t);
        rest = λ j q. k.rest (f + j) (λ z. omega (arith, s.low)) ∙ s.rest j (omega arith);
        index = k.index s.index;
      }
