-- Whether a number stands in a list.
use Rattle.std.specs.Prelude.{ℕ, ◌+◌, ◌≡◌, refl, Bool, true, false, not, ◌||◌, List, ◌∷◌, eqb}
use Rattle.std.proofs.Common.{sym, ap, zero-add, arith, eqb-true, eq-eqb, ne_eqb}
use Rattle.std.proofs.lemmas.Bool.{eqb-false}
use Rattle.words.specs.Lists.{pick, count}

abbrev pub among : ℕ → List ℕ → Bool
among k l = not (eqb (count k l) 0)

pub among-cons : (k x : ℕ) (l : List ℕ) → among k (x ∷ l) ≡ (eqb x k || among k l)
among-cons k x l = go (eqb x k)
  where
    go : (t : Bool) → not (eqb (pick t 1 0 + count k l) 0) ≡ (t || not (eqb (count k l) 0))
    go true = ap not (ne_eqb (1 + count k l) 0 (λ e. omega arith))
    go false = rw (zero-add (count k l))

pub eqb_comm : (a b : ℕ) → eqb a b ≡ eqb b a
eqb_comm a b = go (eqb b a) refl
  where
    go : (t : Bool) → eqb b a ≡ t → eqb a b ≡ t
    go true e = eq-eqb a b (sym (eqb-true b a e))
    go false e = ne_eqb a b (λ q. eqb-false b a e (sym q))
