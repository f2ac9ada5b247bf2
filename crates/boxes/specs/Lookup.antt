-- Looking up an index record by record: the entry of an index for a box is the first record of the list that is live and of its kind and box.
use Rattle.std.specs.Prelude.{ℕ, zero, suc, ◌<◌, ◌≡◌, refl, Bool, true, false, ◌&&◌, List, [], ◌∷◌, eqb}
use Rattle.std.proofs.Common.{suc-le-suc, ◌∙◌, not-suc-le-zero, le_of_suc-le-suc, arith}
use Rattle.words.specs.Lists.{pick}
use Rattle.words.specs.Rows.{tab}
use Rattle.boxes.specs.Records.{BoxRec, same, index, lookup}

-- a record that an index of a kind has as its entry for a box
unfoldable pub is_entry : Bool → ℕ → BoxRec → Bool
is_entry o k r = eqb r.box k && (r.live && same o r.out)

pub lookup-cons : (o : Bool) (k : ℕ) (r : BoxRec) (rs : List BoxRec) → lookup (index o (r ∷ rs)) k ≡ pick (is_entry o k r) (r.owner ∷ []) (lookup (index o rs) k)
unfolding is_entry
lookup-cons o k r rs = go (r.live && same o r.out) (eqb r.box k) refl
  where
    go : (t u : Bool) → eqb r.box k ≡ u → lookup (pick t (record { box = r.box; id = r.owner } ∷ index o rs) (index o rs)) k ≡ pick (u && t) (r.owner ∷ []) (lookup (index o rs) k)
    go true true q = rw q
    go true false q = rw q
    go false true q = refl
    go false false q = refl

-- ---- in a list that is given by its elements

module _ (o : Bool) (k : ℕ) where
  pub lookup-none : (f : ℕ → BoxRec) (n : ℕ) → ((j : ℕ) → j < n → is_entry o k (f j) ≡ false) → lookup (index o (tab f n)) k ≡ []
  lookup-none f zero h = refl
  lookup-none f (suc n) h =
      lookup-cons o k (f zero) (tab (λ i. f (suc i)) n) ∙ rw (h zero (omega arith)) (lookup-none (λ i. f (suc i)) n (λ j b. h (suc j) (suc-le-suc b)))

  pub lookup_first : (f : ℕ → BoxRec) (n i : ℕ) → i < n → is_entry o k (f i) ≡ true → ((j : ℕ) → j < i → is_entry o k (f j) ≡ false) → lookup (index o (tab f n)) k ≡ (f i).owner ∷ []
  lookup_first f zero i b t h = absurd (not-suc-le-zero b)
  lookup_first f (suc n) zero b t h = lookup-cons o k (f zero) (tab (λ i. f (suc i)) n) ∙ rw t
  lookup_first f (suc n) (suc i) b t h =
      lookup-cons o k (f zero) (tab (λ i. f (suc i)) n)
      ∙ rw (h zero (omega arith)) (lookup_first (λ i. f (suc i)) n i (le_of_suc-le-suc b) t (λ j q. h (suc j) (suc-le-suc q)))
