-- The search for the next candidate, entry by entry: what an entry is to the pass, and what is left to be looked at.
use Rattle.std.specs.Prelude.{None, Option, Some}
use Rattle.std.specs.Prelude.{ℕ, ◌+◌, ◌≤◌, ◌<◌, ◌≡◌, refl, Bool, true, false, not, ◌&&◌, List, [], ◌∷◌, leb, drop}
use Rattle.std.proofs.Common.{sym, ap, ◌∙◌, arith}
use Rattle.words.specs.Lists.{pick}
use Rattle.words.specs.Tables.{drop_of, drop_past}
use Rattle.arguments.specs.Arguments.{ahead_of}
use Rattle.entries.specs.Entries.{Entry}
use Rattle.entries.specs.Layout.{entry_at, entries_of, entries}
use Rattle.cleanup.specs.Passes.{PassNow, due, is_candidate, first_due}
use Rattle.cleanup.specs.declared.Look.{Look}
use Rattle.cleanup.specs.declared.Look.TheVariants.{Over, Stop, Take}

-- "The limit is tested after the due test", and the height after it
unfoldable pub looked : ℕ → PassNow → Entry → Look
looked interval p e =
    pick (not (due interval p.time e.last_checked)) Over
    (pick (leb p.limit p.spent) Stop
    (pick (ahead_of e.height_key p.preheader) Over Take))

-- the id of the entry at a place, or none
abbrev pub ids_at : List ℕ → Option ℕ → List ℕ
ids_at l (Some i) = (entry_at l i).id ∷ []
ids_at l None = []

-- what a pass offers: none where its sum has reached the limit, else the first due entry
abbrev offers : ℕ → PassNow → List Entry → List ℕ
offers interval p es = pick (leb p.limit p.spent) [] (first_due interval p es)

-- the place that a search in the first n entries found
pub record Sought (l : List ℕ) (n interval : ℕ) (p : PassNow) (r : Option ℕ) : Type 0 where
  pub ids : ids_at l r ≡ offers interval p (entries_of l n)
  pub within : (i : ℕ) → r ≡ Some i → i < n

-- ---- what an entry is

by : Bool → Bool → Bool → Look
by d l a = pick (not d) Over (pick l Stop (pick a Over Take))

over : (d l a : Bool) → by d l a ≡ Over → (d && not a) ≡ false
unfolding by
over true true a h = let z : ◌≡◌ {A = ℕ} 0 1 = cc in absurd (omega arith)
over true false true h = refl
over true false false h = let z : ◌≡◌ {A = ℕ} 0 1 = cc in absurd (omega arith)
over false l a h = refl

stop : (d l a : Bool) → by d l a ≡ Stop → l ≡ true
unfolding by
stop true true a h = refl
stop true false true h = let z : ◌≡◌ {A = ℕ} 0 1 = cc in absurd (omega arith)
stop true false false h = let z : ◌≡◌ {A = ℕ} 0 1 = cc in absurd (omega arith)
stop false l a h = let z : ◌≡◌ {A = ℕ} 0 1 = cc in absurd (omega arith)

take : (d l a : Bool) → by d l a ≡ Take → (l ≡ false) × ((d && not a) ≡ true)
unfolding by
take true true a h = let z : ◌≡◌ {A = ℕ} 0 1 = cc in absurd (omega arith)
take true false true h = let z : ◌≡◌ {A = ℕ} 0 1 = cc in absurd (omega arith)
take true false false h = (refl, refl)
take false l a h = let z : ◌≡◌ {A = ℕ} 0 1 = cc in absurd (omega arith)

module _ (g : ℕ) (p : PassNow) (e : Entry) {r : Look} (q : r ≡ looked g p e) where
  over-is : r ≡ Over → is_candidate g p e ≡ false
  unfolding looked is_candidate by
  over-is h = over (due g p.time e.last_checked) (leb p.limit p.spent) (ahead_of e.height_key p.preheader) (sym q ∙ h)

  stop_is : r ≡ Stop → leb p.limit p.spent ≡ true
  unfolding looked by
  stop_is h = stop (due g p.time e.last_checked) (leb p.limit p.spent) (ahead_of e.height_key p.preheader) (sym q ∙ h)

  take-is : r ≡ Take → (leb p.limit p.spent ≡ false) × (is_candidate g p e ≡ true)
  unfolding looked is_candidate by
  take-is h = take (due g p.time e.last_checked) (leb p.limit p.spent) (ahead_of e.height_key p.preheader) (sym q ∙ h)

-- ---- from entry i on the same is found as from the first on

pub record Seeking (l : List ℕ) (n g : ℕ) (p : PassNow) (i : ℕ) : Type 0 where
  pub low : i ≤ n
  pub same : first_due g p (drop i (entries_of l n)) ≡ first_due g p (entries_of l n)

module _ (l : List ℕ) (n g : ℕ) (p : PassNow) where
  nowhere : (i : ℕ) → None ≡ Some i → i < n
  nowhere i h = let z : ◌≡◌ {A = ℕ} 0 1 = cc in absurd (omega arith)

  pub seek-end : (i : ℕ) → n ≤ i → Seeking l n g p i → Sought l n g p None
  seek-end i h s = record { ids = none (leb p.limit p.spent) (ap (first_due g p) (sym (drop_past entries l n i h)) ∙ s.same); within = nowhere }
    where
      none : (t : Bool) → [] ≡ first_due g p (entries_of l n) → [] ≡ pick t [] (first_due g p (entries_of l n))
      none true q = refl
      none false q = q

  module _ (i : ℕ) (h : i < n) (s : Seeking l n g p i) {r : Look} (q : r ≡ looked g p (entry_at l i)) where
    here : first_due g p (entries_of l n) ≡ pick (is_candidate g p (entry_at l i)) ((entry_at l i).id ∷ []) (first_due g p (drop (i + 1) (entries_of l n)))
    here = sym s.same ∙ ap (first_due g p) (drop_of entries l n i h)

    pub seek-over : r ≡ Over → Seeking l n g p (i + 1)
    seek-over o = record { low = omega arith; same = sym (here ∙ rw (over-is g p (entry_at l i) q o)) }

    pub seek_stop : r ≡ Stop → Sought l n g p None
    seek_stop o = record { ids = rw (stop_is g p (entry_at l i) q o); within = nowhere }

    pub seek-take : r ≡ Take → Sought l n g p (Some i)
    seek-take o =
        let t = take-is g p (entry_at l i) q o in
        record { ids = rw t.0 (sym (here ∙ rw t.1)); within = λ j e. let z : i ≡ j = cc in omega arith }
