-- For callers: what a place found says of the entries, the lowest entry, and counts.
use Rattle.std.specs.Prelude.{ℕ, suc, ◌+◌, ◌-◌, ◌<◌, ◌≡◌, refl, Bool, true, false, List, [], ◌∷◌, ◌++◌, length, eqb}
use Rattle.std.proofs.Common.{sym, ap, ◌∙◌, arith}
use Rattle.words.specs.Lists.{pick}
use Rattle.words.specs.Find.{without, last, but_last, drop_last}
use Rattle.words.specs.Tables.{of-suc}
use Rattle.entries.specs.Entries.{Entry, pooled}
use Rattle.entries.specs.Layout.{entry_at, entries_of, entries, Left}
pub use Rattle.entries.specs.Places.{Placed, Absent, at_place, no_place, place-fits, place-id}

module _ {A : Type 0} where
  last_snoc : (d : A) (xs : List A) (x : A) → last d (xs ++ (x ∷ [])) ≡ x
  last_snoc d [] x = refl
  last_snoc d (y ∷ ys) x = last_snoc y ys x

  but-snoc : (y : A) (xs : List A) (x : A) → but_last y (xs ++ (x ∷ [])) ≡ y ∷ xs
  but-snoc y [] x = refl
  but-snoc y (z ∷ zs) x = ap (λ (r : List A). y ∷ r) (but-snoc z zs x)

  drop-snoc : (xs : List A) (x : A) → drop_last (xs ++ (x ∷ [])) ≡ xs
  drop-snoc [] x = refl
  drop-snoc (y ∷ ys) x = but-snoc y ys x

module _ (l : List ℕ) (n : ℕ) (h : 0 < n) where
  upto : entries_of l n ≡ entries_of l (n - 1) ++ (entry_at l (n - 1) ∷ [])
  upto = let e : n ≡ n - 1 + 1 = omega arith in ap (entries_of l) e ∙ of-suc entries l (n - 1)

  -- the entry at rank n − 1 is the lowest, and n − 1 entries are all but that
  pub lowest : (d : Entry) → last d (entries_of l n) ≡ entry_at l (n - 1)
  lowest d = rw upto (last_snoc d (entries_of l (n - 1)) (entry_at l (n - 1)))

  pub but-lowest : entries_of l (n - 1) ≡ drop_last (entries_of l n)
  but-lowest = rw upto (sym (drop-snoc (entries_of l (n - 1)) (entry_at l (n - 1))))

-- a count is the length of the list
pub left-count : (l m : List ℕ) (n : ℕ) (es : List Entry) → Left l m n es → n ≡ length es
left-count l m n es r = sym (entries.len m n) ∙ ap length r.rows

-- one fewer is left where the id was pooled
pub length_without : (k : ℕ) (es : List Entry) → length (without (λ e. e.id) k es) + pick (pooled k es) 1 0 ≡ length es
length_without k [] = refl
length_without k (e ∷ es) = go (eqb e.id k) (length_without k es)
  where
    go : (t : Bool) → length (without (λ e. e.id) k es) + pick (pooled k es) 1 0 ≡ length es → length (pick t es (e ∷ without (λ e. e.id) k es)) + pick (pick t true (pooled k es)) 1 0 ≡ suc (length es)
    go true ih = omega arith
    go false ih = omega arith

-- what a removal returned, with 1 where the id was pooled, is what there was
pub removed-count : (l m : List ℕ) (n r k : ℕ) → Left l m r (without (λ e. e.id) k (entries_of l n)) → r + pick (pooled k (entries_of l n)) 1 0 ≡ n
removed-count l m n r k h = omega (arith, left-count l m r _ h, length_without k (entries_of l n), entries.len l n)
