-- What the search of a turn finds, on lists: the first of the circle's lines that is not empty.
use Rattle.std.specs.Prelude.{ℕ, zero, suc, ◌+◌, ◌-◌, ◌%◌, ◌≤◌, ◌<◌, ◌≡◌, refl, Bool, true, false, List, [], ◌∷◌, ltb, length, get_or, Some, None}
use Rattle.std.proofs.Common.{sym, ap, ◌∙◌, arith, add-zero, le_of_suc-le-suc, ltb-true, ltb-false}
use Rattle.std.proofs.Math.Nat.{mod-add-mod}
use Rattle.words.specs.Lists.{pick}
use Rattle.words.specs.Rows.{tab, tab-ext}
use Rattle.intake.specs.Queue.{lines_from, circle, first_held}

-- the circle, line by line
lines-from-is : (i n : ℕ) → lines_from (i % 256) n ≡ tab (λ j. (i + j) % 256) n
lines-from-is i zero = refl
lines-from-is i (suc n) =
    λ k. ap (λ (z : ℕ). z % 256) (sym (add-zero i)) k
    ∷ (ap (λ (z : ℕ). lines_from z n) (mod-add-mod i 256 1) ∙ lines-from-is (i + 1) n
    ∙ tab-ext (λ j. (i + 1 + j) % 256) (λ j. (i + suc j) % 256) n (λ j h. omega arith)) k

pub circle-is : (s : ℕ) → circle s ≡ tab (λ j. (s + 1 + j) % 256) 256
unfolding circle
circle-is s = lines-from-is (s + 1) 256

-- line i is the one at index j, and holds some; those before it are empty
record Hit (ls : List (List ℕ)) (f : ℕ → ℕ) (n i : ℕ) : Type 0 where
  at : ℕ
  within : at < n
  is : i ≡ f at
  some : 0 < length (get_or ls i [])
  before : (k : ℕ) → k < at → length (get_or ls (f k) []) ≡ 0

module _ (ls : List (List ℕ)) where
  hit : (f : ℕ → ℕ) (n i : ℕ) → first_held ls (tab f n) ≡ Some i → Hit ls f n i
  hit f zero i e = let z : ◌≡◌ {A = ℕ} 0 1 = cc in absurd (omega arith)
  hit f (suc n) i e = go (ltb 0 (length (get_or ls (f zero) []))) refl e (hit (λ k. f (suc k)) n i)
    where
      go : (t : Bool) → ltb 0 (length (get_or ls (f zero) [])) ≡ t → pick t (Some (f zero)) (first_held ls (tab (λ k. f (suc k)) n)) ≡ Some i
          → (first_held ls (tab (λ k. f (suc k)) n) ≡ Some i → Hit ls (λ k. f (suc k)) n i) → Hit ls f (suc n) i
      go true t e r =
          let q : f zero ≡ i = cc in
          record { at = 0; within = omega arith; is = sym q; some = rw (← q) (ltb-true 0 (length (get_or ls (f zero) [])) t); before = λ k h. absurd (omega arith) }
      go false t e r =
          let y = r e in
          record { at = suc y.at; within = omega (arith, y.within); is = y.is; some = y.some; before = earlier y.before }
        where
          none : length (get_or ls (f zero) []) ≡ 0
          none = omega (arith, ltb-false 0 (length (get_or ls (f zero) [])) t)

          earlier : {m : ℕ} → ((k : ℕ) → k < m → length (get_or ls (f (suc k)) []) ≡ 0) → (k : ℕ) → k < suc m → length (get_or ls (f k) []) ≡ 0
          earlier b zero h = none
          earlier b (suc k) h = b k (le_of_suc-le-suc h)

  missed : (f : ℕ → ℕ) (n : ℕ) → first_held ls (tab f n) ≡ None → (k : ℕ) → k < n → length (get_or ls (f k) []) ≡ 0
  missed f zero e = λ k h. absurd (omega arith)
  missed f (suc n) e = go (ltb 0 (length (get_or ls (f zero) []))) refl e (missed (λ k. f (suc k)) n)
    where
      go : (t : Bool) → ltb 0 (length (get_or ls (f zero) [])) ≡ t → pick t (Some (f zero)) (first_held ls (tab (λ k. f (suc k)) n)) ≡ None
          → (first_held ls (tab (λ k. f (suc k)) n) ≡ None → (k : ℕ) → k < n → length (get_or ls (f (suc k)) []) ≡ 0)
          → (k : ℕ) → k < suc n → length (get_or ls (f k) []) ≡ 0
      go true t e r k h = let z : ◌≡◌ {A = ℕ} 0 1 = cc in absurd (omega arith)
      go false t e r zero h = omega (arith, ltb-false 0 (length (get_or ls (f zero) [])) t)
      go false t e r (suc k) h = r e k (le_of_suc-le-suc h)

-- how many lines stand between the one served last and line i in circular order
abbrev pub between : ℕ → ℕ → ℕ
between s i = (i + 255 - s) % 256

-- a line is reached after those between
reached : (s k : ℕ) → s < 256 → k < 256 → (s + 1 + between s k) % 256 ≡ k
reached s k sb kb = omega arith

pub record NextIs (ls : List (List ℕ)) (s i : ℕ) : Type 0 where
  pub below : i < 256
  pub some : 0 < length (get_or ls i [])
  -- no line that holds a handle is nearer
  pub nearest : (k : ℕ) → k < 256 → 0 < length (get_or ls k []) → between s i ≤ between s k

module _ (ls : List (List ℕ)) (s : ℕ) (sb : s < 256) where
  pub next-is : (i : ℕ) → first_held ls (circle s) ≡ Some i → NextIs ls s i
  next-is i e = record { below = omega (arith, y.is); some = y.some; nearest = λ k kb some. go k kb some (ltb (between s k) y.at) refl }
    where
      y : Hit ls (λ j. (s + 1 + j) % 256) 256 i
      y = hit ls (λ j. (s + 1 + j) % 256) 256 i (rw circle-is at e)

      at-is : between s i ≡ y.at
      at-is = omega (arith, y.is, y.within)

      go : (k : ℕ) → k < 256 → 0 < length (get_or ls k []) → (t : Bool) → ltb (between s k) y.at ≡ t → between s i ≤ between s k
      go k kb some true t =
          let z : length (get_or ls k []) ≡ 0 = rw (reached s k sb kb) at (y.before (between s k) (ltb-true (between s k) y.at t)) in
          absurd (omega arith)
      go k kb some false t = omega (arith, at-is, ltb-false (between s k) y.at t)

  pub none-held : first_held ls (circle s) ≡ None → (k : ℕ) → k < 256 → length (get_or ls k []) ≡ 0
  none-held e k kb = rw (reached s k sb kb) at (missed ls (λ j. (s + 1 + j) % 256) 256 (rw circle-is at e) (between s k) (omega arith))
