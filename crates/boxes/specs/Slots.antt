-- Slots: the places that box records have in memory. A transaction that leaves vacates its slots, and a vacated one is used again when the
-- records are moved together. The records are those of the slots that are not vacated, in order (`tidy`).
use Rattle.std.specs.Prelude.{ℕ, zero, suc, ◌≤◌, ◌<◌, ◌≡◌, refl, Bool, true, false, ◌&&◌, List, [], ◌∷◌, ◌++◌, map, eqb, length}
use Rattle.std.proofs.Common.{suc-le-suc, ap, not-suc-le-zero, le_of_suc-le-suc, arith}
use Rattle.std.proofs.Math.Bool.{and-false}
use Rattle.words.specs.Lists.{pick}
use Rattle.words.specs.Rows.{tab, tab-ext}
use Rattle.boxes.specs.Each.{Each}
use Rattle.boxes.specs.Records.{BoxRec, Pair, same, hide, drop_owner, index, is_input, inputs_of}

-- what stands in a slot, and whether it was vacated
pub record Slot : Type 0 where
  pub row : BoxRec
  pub gone : Bool

abbrev pub tidy : List Slot → List BoxRec
tidy [] = []
tidy (s ∷ ss) = pick s.gone (tidy ss) (s.row ∷ tidy ss)

-- a record that was just written
abbrev pub solid : BoxRec → Slot
solid r = record { row = r; gone = false }

-- a vacated slot reads as an output that is not live: in no index, and nobody's input
abbrev pub vacated : Slot → Slot
vacated s = record { row = record { box = s.row.box; owner = s.row.owner; out = true; live = false }; gone = true }

pub record Inert (s : Slot) : Type 0 where
  pub live : s.gone ≡ true → s.row.live ≡ false
  pub out : s.gone ≡ true → s.row.out ≡ true

-- transaction k leaves
abbrev pub leave : ℕ → Slot → Slot
leave k s = pick (eqb s.row.owner k) (vacated s) s

-- a newcomer of this kind and box hides what is older
abbrev pub hide_slot : Bool → ℕ → Slot → Slot
hide_slot o b s = record { row = hide o b s.row; gone = s.gone }

-- of three slots transaction 1 leaves the first and the last, and the one of 2 stays
leave-edge : tidy (map (leave 1) (solid (record { box = 5; owner = 1; out = false; live = true }) ∷ solid (record { box = 6; owner = 2; out = true; live = true }) ∷ solid (record { box = 7; owner = 1; out = true; live = true }) ∷ []))
    ≡ record { box = 6; owner = 2; out = true; live = true } ∷ []
leave-edge = refl

-- ---- what becomes of the records

pub tidy-append : (a b : List Slot) → tidy (a ++ b) ≡ tidy a ++ tidy b
tidy-append [] b = refl
tidy-append (s ∷ a) b = go s.gone (tidy-append a b)
  where
    go : (t : Bool) → tidy (a ++ b) ≡ tidy a ++ tidy b → pick t (tidy (a ++ b)) (s.row ∷ tidy (a ++ b)) ≡ pick t (tidy a) (s.row ∷ tidy a) ++ tidy b
    go true e = e
    go false e = ap (λ (r : List BoxRec). s.row ∷ r) e

pub tidy-hide : (o : Bool) (b : ℕ) (ss : List Slot) → tidy (map (hide_slot o b) ss) ≡ map (hide o b) (tidy ss)
tidy-hide o b [] = refl
tidy-hide o b (s ∷ ss) = go s.gone (tidy-hide o b ss)
  where
    go : (t : Bool) → tidy (map (hide_slot o b) ss) ≡ map (hide o b) (tidy ss)
        → pick t (tidy (map (hide_slot o b) ss)) (hide o b s.row ∷ tidy (map (hide_slot o b) ss)) ≡ map (hide o b) (pick t (tidy ss) (s.row ∷ tidy ss))
    go true e = e
    go false e = ap (λ (r : List BoxRec). hide o b s.row ∷ r) e

pub tidy-leave : (k : ℕ) (ss : List Slot) → tidy (map (leave k) ss) ≡ drop_owner k (tidy ss)
tidy-leave k [] = refl
tidy-leave k (s ∷ ss) = go (eqb s.row.owner k) refl s.gone refl (tidy-leave k ss)
  where
    go : (u : Bool) → eqb s.row.owner k ≡ u → (t : Bool) → s.gone ≡ t → tidy (map (leave k) ss) ≡ drop_owner k (tidy ss)
        → tidy (pick u (vacated s) s ∷ map (leave k) ss) ≡ drop_owner k (pick t (tidy ss) (s.row ∷ tidy ss))
    go true p true q e = e
    go true p false q e = rw p e
    go false p true q e = rw q e
    go false p false q e = rw (q, p) (ap (λ (r : List BoxRec). s.row ∷ r) e)

-- one slot is vacated: there is one record less
pub tidy-fewer : (f g : ℕ → Slot) (n i : ℕ) → i < n → (f i).gone ≡ false → (g i).gone ≡ true → ((j : ℕ) → (j ≡ i → ⊥) → g j ≡ f j) → suc (length (tidy (tab g n))) ≡ length (tidy (tab f n))
tidy-fewer f g zero i b p q h = absurd (not-suc-le-zero b)
tidy-fewer f g (suc n) zero b p q h =
    rw (p, q) (ap (λ (ss : List Slot). suc (length (tidy ss))) (tab-ext (λ i. g (suc i)) (λ i. f (suc i)) n (λ j c. h (suc j) (λ e. omega (arith, e)))))
tidy-fewer f g (suc n) (suc i) b p q h =
    rw (h zero (λ e. omega (arith, e)))
    (go (f zero).gone (tidy (tab (λ j. g (suc j)) n)) (tidy (tab (λ j. f (suc j)) n)) (f zero).row (tidy-fewer (λ j. f (suc j)) (λ j. g (suc j)) n i (le_of_suc-le-suc b) p q (λ j d. h (suc j) (λ e. d (omega (arith, e))))))
  where
    go : (t : Bool) (x y : List BoxRec) (r : BoxRec) → suc (length x) ≡ length y → suc (length (pick t x (r ∷ x))) ≡ length (pick t y (r ∷ y))
    go true x y r e = e
    go false x y r e = ap suc e

pub length-tidy : (ss : List Slot) → length (tidy ss) ≤ length ss
length-tidy [] = omega arith
length-tidy (s ∷ ss) = go s.gone (length-tidy ss)
  where
    go : (t : Bool) → length (tidy ss) ≤ length ss → length (pick t (tidy ss) (s.row ∷ tidy ss)) ≤ suc (length ss)
    go true h = omega arith
    go false h = omega arith

-- ---- what is read of slots that are given by their places, each of them inert once it is vacated, is read of the records

index-step : (o : Bool) (s : Slot) → Inert s → (rs qs : List BoxRec) → index o rs ≡ index o qs → index o (s.row ∷ rs) ≡ index o (pick s.gone qs (s.row ∷ qs))
index-step o s h rs qs e = go s.gone refl
  where
    go : (t : Bool) → s.gone ≡ t → index o (s.row ∷ rs) ≡ index o (pick t qs (s.row ∷ qs))
    go true q = rw (h.live q) e
    go false q = ap (λ (ps : List Pair). pick (s.row.live && same o s.row.out) (record { box = s.row.box; id = s.row.owner } ∷ ps) ps) e

pub index-tidy : (o : Bool) (f : ℕ → Slot) → ((i : ℕ) → Inert (f i)) → (n : ℕ) → index o (tab (λ i. (f i).row) n) ≡ index o (tidy (tab f n))
index-tidy o f h zero = refl
index-tidy o f h (suc n) = index-step o (f zero) (h zero) (tab (λ i. (f (suc i)).row) n) (tidy (tab (λ i. f (suc i)) n)) (index-tidy o (λ i. f (suc i)) (λ i. h (suc i)) n)

inputs-step : (k : ℕ) (s : Slot) → Inert s → (rs qs : List BoxRec) → inputs_of k rs ≡ inputs_of k qs → inputs_of k (s.row ∷ rs) ≡ inputs_of k (pick s.gone qs (s.row ∷ qs))
inputs-step k s h rs qs e = go s.gone refl
  where
    go : (t : Bool) → s.gone ≡ t → inputs_of k (s.row ∷ rs) ≡ inputs_of k (pick t qs (s.row ∷ qs))
    go true q = rw (h.out q, and-false (eqb s.row.owner k)) e
    go false q = ap (λ (bs : List ℕ). pick (is_input k s.row) (s.row.box ∷ bs) bs) e

pub inputs-tidy : (k : ℕ) (f : ℕ → Slot) → ((i : ℕ) → Inert (f i)) → (n : ℕ) → inputs_of k (tab (λ i. (f i).row) n) ≡ inputs_of k (tidy (tab f n))
inputs-tidy k f h zero = refl
inputs-tidy k f h (suc n) = inputs-step k (f zero) (h zero) (tab (λ i. (f (suc i)).row) n) (tidy (tab (λ i. f (suc i)) n)) (inputs-tidy k (λ i. f (suc i)) (λ i. h (suc i)) n)

each_step : (P : BoxRec → Type 0) (s : Slot) (qs : List BoxRec) → P s.row → Each P qs → Each P (pick s.gone qs (s.row ∷ qs))
each_step P s qs p e = go s.gone
  where
    go : (t : Bool) → Each P (pick t qs (s.row ∷ qs))
    go true = e
    go false = (p, e)

pub each-tidy : (P : BoxRec → Type 0) (f : ℕ → Slot) (n : ℕ) → ((j : ℕ) → j < n → P (f j).row) → Each P (tidy (tab f n))
each-tidy P f zero h = tt
each-tidy P f (suc n) h = each_step P (f zero) _ (h zero (omega arith)) (each-tidy P (λ i. f (suc i)) n (λ j b. h (suc j) (suc-le-suc b)))
