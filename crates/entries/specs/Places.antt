-- What the place of an id says of the entries: which entry it is, what is left without it, and what a credit or a stamp makes of them.
use Rattle.std.specs.Prelude.{None, Option, Some}
use Rattle.std.specs.Prelude.{ℕ, suc, ◌+◌, ◌<◌, ◌≡◌, refl, Bool, true, false, List, [], ◌∷◌, length, get_or, set, eqb}
use Rattle.std.proofs.Common.{suc-le-suc, ap, arith, eqb-true}
use Rattle.words.specs.Lists.{pick, remove_at}
use Rattle.words.specs.Find.{found, without}
use Rattle.entries.specs.Entries.{Entry, insert_by, pooled, place_from, place_of, raised, credit, stamp, stamped}
use Rattle.entries.specs.Cells.{entry_at, entries_of, entries}

pub record Placed (k i : ℕ) (es : List Entry) : Type 0 where
  pub within : i < length es
  pub this : (d : Entry) → (get_or es i d).id ≡ k
  pub is : pooled k es ≡ true
  pub out : without (λ e. e.id) k es ≡ remove_at es i
  pub one : (d : Entry) → found (λ e. e.id) k es ≡ get_or es i d ∷ []
  pub mark : (v : Option ℕ) (t : ℕ) (d : Entry) → stamped k v t es ≡ set es i (stamp v t (get_or es i d))

pub record Absent (k : ℕ) (es : List Entry) : Type 0 where
  pub is : pooled k es ≡ false
  pub out : without (λ e. e.id) k es ≡ es
  pub none : found (λ e. e.id) k es ≡ []
  pub mark : (v : Option ℕ) (t : ℕ) → stamped k v t es ≡ es

placed-from : (es : List Entry) (j k i : ℕ) → place_from j k es ≡ Some i → (m : ℕ) × (i ≡ j + m) × Placed k m es
unfolding place_from remove_at
placed-from [] j k i p = let z : ◌≡◌ {A = ℕ} 0 1 = cc in absurd (omega arith)
placed-from (e ∷ es) j k i p = go (eqb e.id k) refl (placed-from es (j + 1) k i) p
  where
    next : (m : ℕ) → eqb e.id k ≡ false → Placed k m es → Placed k (suc m) (e ∷ es)
    next m q P =
        record {
          within = suc-le-suc P.within;
          this = P.this;
          is = rw q P.is;
          out = rw q (ap (λ (r : List Entry). e ∷ r) P.out);
          one = λ d. rw q (P.one d);
          mark = λ v t d. rw q (ap (λ (r : List Entry). e ∷ r) (P.mark v t d));
        }

    go : (t : Bool) → eqb e.id k ≡ t → (place_from (j + 1) k es ≡ Some i → (m : ℕ) × (i ≡ j + 1 + m) × Placed k m es)
        → pick t (Some j) (place_from (j + 1) k es) ≡ Some i → (m : ℕ) × (i ≡ j + m) × Placed k m (e ∷ es)
    go true q ih h =
        let z : j ≡ i = cc in
        (0, omega arith, record { within = omega arith; this = λ d. eqb-true e.id k q; is = rw q; out = rw q; one = λ d. rw q; mark = λ v t d. rw q })
    go false q ih h = let r = ih h in (suc r.0, omega (arith, r.1), next r.0 q r.2)

pub at_place : (k i : ℕ) (es : List Entry) → place_of k es ≡ Some i → Placed k i es
unfolding place_of
at_place k i es p = let r = placed-from es 0 k i p in let e : r.0 ≡ i = omega (arith, r.1) in rw e at r.2

absent-from : (es : List Entry) (j k : ℕ) → place_from j k es ≡ None → Absent k es
unfolding place_from
absent-from [] j k p = record { is = refl; out = refl; none = refl; mark = λ v t. refl }
absent-from (e ∷ es) j k p = go (eqb e.id k) refl (absent-from es (j + 1) k) p
  where
    go : (t : Bool) → eqb e.id k ≡ t → (place_from (j + 1) k es ≡ None → Absent k es) → pick t (Some j) (place_from (j + 1) k es) ≡ None → Absent k (e ∷ es)
    go true q ih h = let z : ◌≡◌ {A = ℕ} 0 1 = cc in absurd (omega arith)
    go false q ih h =
        let A = ih h in
        record { is = rw q A.is; out = rw q (ap (λ (r : List Entry). e ∷ r) A.out); none = rw q A.none; mark = λ v t. rw q (ap (λ (r : List Entry). e ∷ r) (A.mark v t)) }

pub no_place : (k : ℕ) (es : List Entry) → place_of k es ≡ None → Absent k es
unfolding place_of
no_place k es p = absent-from es 0 k p

-- ---- the same in the table

module _ (l : List ℕ) (n k i : ℕ) (p : place_of k (entries_of l n) ≡ Some i) where
  placed : Placed k i (entries_of l n)
  placed = at_place k i (entries_of l n) p

  pub place-fits : i < n
  place-fits = omega (arith, placed.within, entries.len l n)

  here : get_or (entries_of l n) i (entry_at l i) ≡ entry_at l i
  here = entries.get l n i (entry_at l i) place-fits

  pub place-id : (entry_at l i).id ≡ k
  place-id = rw here at (placed.this (entry_at l i))

  pub credit-row : (c : ℕ) → insert_by (raised c (entry_at l i)) (remove_at (entries_of l n) i) ≡ credit c k (entries_of l n)
  credit-row c = rw (placed.one (entry_at l i), placed.out, here)

  pub stamp-row : (v : Option ℕ) (t : ℕ) → set (entries_of l n) i (stamp v t (entry_at l i)) ≡ stamped k v t (entries_of l n)
  stamp-row v t = rw (placed.mark v t (entry_at l i), here)

pub credit-none : (c k : ℕ) (es : List Entry) → place_of k es ≡ None → es ≡ credit c k es
credit-none c k es p = let A = no_place k es p in rw (A.none, A.out)
