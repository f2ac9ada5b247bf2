-- What the calls do to rows in order, each id once: taking out what is found keeps all others, losing the last keeps all but its id, and putting
-- back what was changed sorts anew. Credits and their cap.
use Rattle.std.specs.Prelude.{ℕ, ◌+◌, ◌≤◌, ◌≡◌, refl, Bool, true, false, not, List, [], ◌∷◌, map, eqb}
use Rattle.std.proofs.Common.{sym, ap, subst, ◌∙◌, arith, eq-eqb, ne_eqb, eqb-true}
use Rattle.std.proofs.lemmas.Bool.{eqb-false}
use Rattle.words.specs.Lists.{pick, keep, other, count, Once, once-head, once-tail, absent-head, absent-tail}
use Rattle.words.specs.Find.{without, found, last, but_last, put_back}
use Rattle.words.specs.Sums.{cap, capped, total}
use Rattle.entries.specs.Entries.{Entry, weight_of, key_of, insert_on, raised, credit}
use Rattle.entries.specs.Order.{sort_on, Sorted, front, insert_comm}
use Rattle.entries.specs.InOrder.{InOrder, EntriesInOrder, behind-without, found-id}

module _ {A : Type 0} (k : A → ℕ) where
  -- all rows but those of an id, and those of an id changed
  abbrev pub rest : ℕ → List A → List A
  rest j xs = keep (λ x. other j (k x)) xs

  abbrev pub changed : (A → A) → ℕ → A → A
  changed f j x = pick (eqb (k x) j) (f x) x

  rest_all : (j : ℕ) (xs : List A) → count j (map k xs) ≡ 0 → rest j xs ≡ xs
  rest_all j [] h = refl
  rest_all j (x ∷ xs) h = rw (absent-head j (k x) (map k xs) h) (ap (λ (r : List A). x ∷ r) (rest_all j xs (absent-tail j (k x) (map k xs) h)))

  -- one that stands at the head stands nowhere else
  alone : (j : ℕ) (x : A) (xs : List A) → Once (map k (x ∷ xs)) → eqb (k x) j ≡ true → count j (map k xs) ≡ 0
  alone j x xs h q = rw (eqb-true (k x) j q) at (once-head (k x) (map k xs) h)

  pub without-rest : (j : ℕ) (xs : List A) → Once (map k xs) → without k j xs ≡ rest j xs
  without-rest j [] h = refl
  without-rest j (x ∷ xs) h = go (eqb (k x) j) refl (without-rest j xs (once-tail (k x) (map k xs) h))
    where
      go : (t : Bool) → eqb (k x) j ≡ t → without k j xs ≡ rest j xs → pick t xs (x ∷ without k j xs) ≡ pick (not t) (x ∷ rest j xs) (rest j xs)
      go true q ih = sym (rest_all j xs (alone j x xs h q))
      go false q ih = ap (λ (r : List A). x ∷ r) ih

  last-there : (x : A) (xs : List A) → 1 ≤ count (k (last x xs)) (map k (x ∷ xs))
  last-there x [] = rw (eq-eqb (k x) (k x) refl) (omega arith)
  last-there x (y ∷ ys) = omega (arith, last-there y ys)

  pub last_rest : (x : A) (xs : List A) → Once (map k (x ∷ xs)) → but_last x xs ≡ rest (k (last x xs)) (x ∷ xs)
  last_rest x [] h = rw (eq-eqb (k x) (k x) refl)
  last_rest x (y ∷ ys) h =
      rw (ne_eqb (k x) (k (last y ys)) (λ e. ne e)) (ap (λ (z : List A). x ∷ z) (last_rest y ys (once-tail (k x) (map k (y ∷ ys)) h)))
    where
      ne : k x ≡ k (last y ys) → ⊥
      ne e = let z : count (k (last y ys)) (map k (y ∷ ys)) ≡ 0 = subst (λ z. count z (map k (y ∷ ys)) ≡ 0) e (once-head (k x) (map k (y ∷ ys)) h) in omega (arith, last-there y ys)

  changed-none : (f : A → A) (j : ℕ) (xs : List A) → count j (map k xs) ≡ 0 → map (changed f j) xs ≡ xs
  changed-none f j [] h = refl
  changed-none f j (x ∷ xs) h = rw (absent-head j (k x) (map k xs) h) (ap (λ (r : List A). x ∷ r) (changed-none f j xs (absent-tail j (k x) (map k xs) h)))

module _ {A : Type 0} (w k : A → ℕ) where
  pub sorted_sort : (xs : List A) → Sorted w k xs → sort_on w k xs ≡ xs
  sorted_sort [] s = refl
  sorted_sort (x ∷ xs) s = rw (sorted_sort xs s.1) (front w k x xs s.0)

  module _ (f : A → A) (same : (x : A) → k (f x) ≡ k x) (j : ℕ) where
    move : (xs : List A) → Sorted w k xs → Once (map k xs) → put_back (insert_on w k) f (found k j xs) (without k j xs) ≡ sort_on w k (map (changed k f j) xs)
    move [] s h = refl
    move (x ∷ xs) s h = go (eqb (k x) j) refl (found k j xs) refl (move xs s.1 (once-tail (k x) (map k xs) h))
      where
        go : (t : Bool) → eqb (k x) j ≡ t → (fs : List A) → found k j xs ≡ fs → put_back (insert_on w k) f (found k j xs) (without k j xs) ≡ sort_on w k (map (changed k f j) xs)
            → put_back (insert_on w k) f (pick t (x ∷ []) fs) (pick t xs (x ∷ without k j xs)) ≡ insert_on w k (pick t (f x) x) (sort_on w k (map (changed k f j) xs))
        go true q fs e ih = ap (insert_on w k (f x)) (sym (ap (sort_on w k) (changed-none k f j xs (alone k j x xs h q)) ∙ sorted_sort xs s.1))
        go false q [] e ih = rw (← ih, e) (sym (front w k x (without k j xs) (behind-without w k j x xs s.0)))
        go false q (y ∷ r) e ih =
            rw (← ih, e)
            (ap (insert_on w k (f y)) (sym (front w k x (without k j xs) (behind-without w k j x xs s.0)))
            ∙ insert_comm w k (f y) x (λ z. eqb-false (k x) j q (sym z ∙ same y ∙ found-id w k j xs y r e)) (without k j xs))

    pub change-move : (xs : List A) → InOrder w k xs → put_back (insert_on w k) f (found k j xs) (without k j xs) ≡ sort_on w k (map (changed k f j) xs)
    change-move xs o = move xs o.sorted o.once

pub credit-move : (c k : ℕ) (es : List Entry) → EntriesInOrder es → credit c k es ≡ sort_on weight_of key_of (map (changed key_of (raised c) k) es)
credit-move c k es o = change-move weight_of key_of (raised c) (λ e. refl) k es o

-- ---- credits and their cap

pub capped-twice : (w a b : ℕ) → capped (capped (w + a) + b) ≡ capped (w + a + b)
capped-twice w a b = omega arith

abbrev pub raised_all : List ℕ → Entry → Entry
raised_all [] e = e
raised_all (c ∷ cs) e = raised_all cs (raised c e)

-- a weight after credits: min(weight + their sum, 2^64−1), whatever their order
pub raised-weight : (cs : List ℕ) (e : Entry) → e.weight ≤ cap → (raised_all cs e).weight ≡ capped (e.weight + total cs)
raised-weight [] e h = omega arith
raised-weight (c ∷ cs) e h = omega (arith, raised-weight cs (raised c e) (omega arith))
