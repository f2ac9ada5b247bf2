-- Finding, taking out and the last, for lists of any rows: what is read of a row is its id. A view of the rows that keeps the ids may be
-- taken before or after.
use Rattle.std.specs.Prelude.{◌≡◌, ℕ, Bool, true, false, List, [], ◌∷◌, map, ◌==◌, refl}
use Rattle.std.proofs.Common.{ap, ◌∙◌}
use Rattle.words.specs.Lists.{pick}

module _ {A : Type 0} where
  abbrev pub without : (A → ℕ) → ℕ → List A → List A
  without n k [] = []
  without n k (e ∷ es) = pick (n e == k) es (e ∷ without n k es)

  abbrev pub found : (A → ℕ) → ℕ → List A → List A
  found n k [] = []
  found n k (e ∷ es) = pick (n e == k) (e ∷ []) (found n k es)

  abbrev pub last : A → List A → A
  last d [] = d
  last d (x ∷ xs) = last x xs

  abbrev pub but_last : A → List A → List A
  but_last x [] = []
  but_last x (y ∷ ys) = x ∷ but_last y ys

  abbrev pub drop_last : List A → List A
  drop_last [] = []
  drop_last (x ∷ xs) = but_last x xs

  -- what was found, changed, goes in by `ins`
  abbrev pub put_back : (A → List A → List A) → (A → A) → List A → List A → List A
  put_back ins f [] es = es
  put_back ins f (e ∷ r) es = ins (f e) es

module _ {A B : Type 0} (g : A → B) (n : B → ℕ) where
  pub without-view : (k : ℕ) (es : List A) → map g (without (λ a. n (g a)) k es) ≡ without n k (map g es)
  without-view k [] = refl
  without-view k (e ∷ es) = go (n (g e) == k) (without-view k es)
    where
      go : (t : Bool) → map g (without (λ a. n (g a)) k es) ≡ without n k (map g es) → map g (pick t es (e ∷ without (λ a. n (g a)) k es)) ≡ pick t (map g es) (g e ∷ without n k (map g es))
      go true h = refl
      go false h = ap (λ (x : List B). g e ∷ x) h

  pub found-view : (k : ℕ) (es : List A) → map g (found (λ a. n (g a)) k es) ≡ found n k (map g es)
  found-view k [] = refl
  found-view k (e ∷ es) = go (n (g e) == k) (found-view k es)
    where
      go : (t : Bool) → map g (found (λ a. n (g a)) k es) ≡ found n k (map g es) → map g (pick t (e ∷ []) (found (λ a. n (g a)) k es)) ≡ pick t (g e ∷ []) (found n k (map g es))
      go true h = refl
      go false h = h

module _ {A B : Type 0} (g : A → B) where
  pub last_view : (d : A) (es : List A) → g (last d es) ≡ last (g d) (map g es)
  last_view d [] = refl
  last_view d (e ∷ es) = last_view e es

  but-view : (x : A) (es : List A) → map g (but_last x es) ≡ but_last (g x) (map g es)
  but-view x [] = refl
  but-view x (e ∷ es) = ap (λ (y : List B). g x ∷ y) (but-view e es)

  pub drop-view : (es : List A) → map g (drop_last es) ≡ drop_last (map g es)
  drop-view [] = refl
  drop-view (e ∷ es) = but-view e es

  pub put_view : (ins : A → List A → List A) (jns : B → List B → List B) → ((x : A) (xs : List A) → map g (ins x xs) ≡ jns (g x) (map g xs))
      → (f : A → A) (h : B → B) → ((x : A) → g (f x) ≡ h (g x)) → (fs es : List A) → map g (put_back ins f fs es) ≡ put_back jns h (map g fs) (map g es)
  put_view ins jns p f h q [] es = refl
  put_view ins jns p f h q (x ∷ fs) es = p (f x) es ∙ ap (λ y. jns y (map g es)) (q x)
