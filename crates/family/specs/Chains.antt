-- Chains of spends, and that a walk which was not cut short credits once for every one of them (document 01, "Credits to parents": "a chain is a
-- series of one or more spends that starts at the newcomer, each through the producer index; it credits the newcomer's base to the producer it
-- ends at; a repeated input counts twice"). `f` gives each transaction's producers, in input order, repeats kept. Levels and series know neither
-- a budget nor a stack.
use Rattle.std.specs.Prelude.{ℕ, zero, suc, ◌+◌, ◌-◌, min, ◌≤◌, ◌≡◌, refl, eqb, length}
use Rattle.std.proofs.Common.{sym, ap, ◌∙◌, arith, length-append}
use mathlib.Core.List.{List, [], ◌∷◌, ◌++◌, map, reverse_aux}
use Rattle.std.proofs.Math.Decide.{dec_le}
use Rattle.words.specs.Lists.{pick, count, count-append, flat, map-append}
use Rattle.words.specs.Find.{last}
use Rattle.family.specs.Walk.{visits, left, level, upto, Additive, push, at-nil, upto-nil, level-nil, level-append, wide, all, ended-level, ended-visits, visits-length, upto-on}

-- ---- a series of spends, as the producers that it passes, the first one first

abbrev pub series : ℕ → (ℕ → List ℕ) → ℕ → List (List ℕ)
series zero f x = [] ∷ []
series (suc k) f x = flat (λ y. map (λ s. y ∷ s) (series k f y)) (f x)

-- the producer that a series from x ends at
abbrev pub end_of : ℕ → List ℕ → ℕ
end_of x s = last x s

-- the ends of all series of k spends from x
abbrev pub ends_of : ℕ → (ℕ → List ℕ) → ℕ → List ℕ
ends_of k f x = map (end_of x) (series k f x)

module _ (f : ℕ → List ℕ) where
  map-ends : (x y : ℕ) (l : List (List ℕ)) → map (end_of x) (map (λ s. y ∷ s) l) ≡ map (end_of y) l
  map-ends x y [] = refl
  map-ends x y (s ∷ l) = ap (λ (r : List ℕ). end_of y s ∷ r) (map-ends x y l)

  ends-step : (k x : ℕ) (ys : List ℕ) → map (end_of x) (flat (λ y. map (λ s. y ∷ s) (series k f y)) ys) ≡ flat (ends_of k f) ys
  ends-step k x [] = refl
  ends-step k x (y ∷ ys) =
      map-append (end_of x) (map (λ s. y ∷ s) (series k f y)) (flat (λ y. map (λ s. y ∷ s) (series k f y)) ys)
      ∙ λ t. map-ends x y (series k f y) t ++ ends-step k x ys t

  flat-one : (ys : List ℕ) → flat (ends_of zero f) ys ≡ ys
  flat-one [] = refl
  flat-one (y ∷ ys) = ap (λ (r : List ℕ). y ∷ r) (flat-one ys)

  level-flat : (k : ℕ) (ys : List ℕ) → level k f ys ≡ flat (ends_of k f) ys
  level-flat zero ys = sym (flat-one ys)
  level-flat (suc k) ys = go (λ zs. level-flat k zs) ys
    where
      go : ((zs : List ℕ) → level k f zs ≡ flat (ends_of k f) zs) → (ys : List ℕ) → level k f (flat f ys) ≡ flat (ends_of (suc k) f) ys
      go ih [] = level-nil f k
      go ih (y ∷ ys) =
          level-append f k (f y) (flat f ys)
          ∙ λ t. (ih (f y) ∙ sym (ends-step k y (f y))) t ++ go ih ys t

  -- Level k, which is reckoned from the producers alone, lists the ends of all series of k + 1 spends from x, each as often as there are series.
  pub level-lists-ends : (k x : ℕ) → level k f (f x) ≡ ends_of (suc k) f x
  level-lists-ends k x = level-flat k (f x) ∙ sym (ends-step k x (f x))

-- ---- the walk from a newcomer

module _ (f : ℕ → List ℕ) (b new : ℕ) where
  -- what the walk with b visits at most from `new` visits, in order, and the stack that it leaves
  abbrev pub walked : List ℕ
  walked = visits b f (reverse_aux (f new) [])

  abbrev pub over : List ℕ
  over = left b f (reverse_aux (f new) [])

  -- the ends of all chains of one to d spends from `new`
  abbrev pub chains : ℕ → List ℕ
  chains d = upto d f (f new)

  turned : (m : List ℕ → ℕ) → Additive m → (d : ℕ) → m (upto d f (reverse_aux (f new) [])) ≡ m (chains d)
  turned m add d = omega (arith, push (λ l. m (upto d f l)) (all f m add d) (f new) [], ap m (upto-nil f d), at-nil m add)

  -- Once for every chain: a walk that ended with no parent left visited each one as often as chains end there ..
  pub once-for-every-chain : over ≡ [] → (k : ℕ) → count k walked ≡ count k (chains b)
  once-for-every-chain e k = ended-visits f (count k) (count-append k) b _ e ∙ turned (count k) (count-append k) b

  -- .. and no chain is longer than those.
  pub no-longer-chain : over ≡ [] → length (ends_of (suc b) f new) ≡ 0
  no-longer-chain e =
      let h : length (level b f (f new)) ≡ 0 = omega (arith, ended-level f b _ e, push (λ l. length (level b f l)) (wide f b) (f new) []) in
      rw (← level-lists-ends f b new) h

  -- how many visits: the smaller of b and the number of chains, where chains longer than the budget make no difference
  pub how-many : (d : ℕ) → b ≤ d → length walked ≡ min b (length (chains d))
  how-many d h = visits-length f b d _ h ∙ ap (min b) (turned length length-append d)

  -- the same where chains end: no chain is longer than d
  pub how-many-chains : (d : ℕ) → length (ends_of (suc d) f new) ≡ 0 → length walked ≡ min b (length (chains d))
  how-many-chains d h = go (dec_le b d)
    where
      none : length (level d f (f new)) ≡ 0
      none = rw (level-lists-ends f d new) h

      go : Dec (b ≤ d) → length walked ≡ min b (length (chains d))
      go (yes p) = how-many d p
      go (no p) =
          let e : b ≡ b - d + d = omega (arith, p) in
          how-many b (omega arith) ∙ ap (min b) (ap (λ n. length (chains n)) e ∙ upto-on f d (b - d) (f new) none)

-- `chains d` is the ends of the series of 1, 2, .. d spends, one after the other
pub chains-are-series : (f : ℕ → List ℕ) (b new d : ℕ) → chains f b new (suc d) ≡ chains f b new d ++ ends_of (suc d) f new
chains-are-series f b new d = upto_snoc d (f new) ∙ ap (λ (r : List ℕ). upto d f (f new) ++ r) (level-lists-ends f d new)
  where
    upto_snoc : (d : ℕ) (st : List ℕ) → upto (suc d) f st ≡ upto d f st ++ level d f st
    upto_snoc d st = Rattle.family.specs.Walk.upto-last f d st

-- ---- on edges: a diamond's grandparent is reached twice; a repeated input counts twice; a cycle has series of every length

diamond : ℕ → List ℕ
diamond x = pick (eqb x 1) (2 ∷ 3 ∷ []) (pick (eqb x 2) (4 ∷ []) (pick (eqb x 3) (4 ∷ []) []))

edges : (walked diamond 500 1 ≡ 3 ∷ 4 ∷ 2 ∷ 4 ∷ []) × (ends_of 2 diamond 1 ≡ 4 ∷ 4 ∷ []) × (series 2 diamond 1 ≡ (2 ∷ 4 ∷ []) ∷ (3 ∷ 4 ∷ []) ∷ [])
unfolding diamond
edges = (refl, refl, refl)
