-- A submission with a valid verdict, in pool and ledger: what document 01 has after the tests, 10, 29, losers, 30, insertion, credits and eviction, keeps
-- the agreement, if the ledger is told the outcome.
use Rattle.std.specs.Prelude.{ℕ, ◌+◌, ◌/◌, ◌≤◌, max, min, ◌≡◌, Bool, true, false, eqb, ltb, length}
use Rattle.std.proofs.Math.Path.{refl}
use Rattle.std.proofs.Common.{ap, arith}
use mathlib.Core.List.{List, [], ◌∷◌, map}
use Rattle.words.specs.Lists.{pick, count}
use Rattle.words.specs.Sums.{cap, quotient_of}
use Rattle.words.specs.Find.{without}
use Rattle.words.specs.Ids.{id_of}
use Rattle.pool_types.specs.declared.MempoolConfig.{MempoolConfig}
use Rattle.pool_types.specs.declared.FeeStrategy.{FeeStrategy}
use Rattle.pool_types.specs.declared.Submission.{Submission}
use Rattle.pool_types.specs.declared.Verdict.TheVariants.{Valid}
use Rattle.pool_types.specs.Outcomes.{refused, reading_of}
use Rattle.weight.specs.Weight.{fee_per_factor, factor_of}
use Rattle.arguments.specs.Arguments.{fee_of}
use Rattle.entries.specs.Entries.{Entry, key_of, pooled}
use Rattle.entries.specs.InOrder.{not-pooled}
use Rattle.boxes.specs.Flat.{ids_of}
use Rattle.boxes.specs.Records.{index, conflicts, drop_owner}
use Rattle.pool.specs.Pool.{Tables, remove_tx, remove_all, evict}
use Rattle.admit.specs.Admit.{Admitted, loses, crowded, newcomer, joined, settled, seated, contested, admit_spec, base_of, cost_of}
use Rattle.ledger.specs.Book.{losers_leave, walks}
use Rattle.ledger.proofs.Same.{SameBook}
use Rattle.ledger.proofs.SameLaws.{same-enter}
use Rattle.ledger.proofs.SameLosers.{same-losers}
use Rattle.ledger.proofs.SameMoves.{same-propagated, same-evict}
use Rattle.ledger.specs.Ledger.{Ledger, with_book, visit_cap, verdict_cost, submitted_cost, submitted_base, charge_for, entered, enters_submission, turned_away, hears_submission}

-- ---- a base is a number of 64 bits

quotient-low : (n d : ℕ) → quotient_of n d ≤ cap
quotient-low n d = go (eqb d 0) (n / d)
  where
    go : (t : Bool) (x : ℕ) → pick t 0 (min x cap) ≤ cap
    go true x = omega arith
    go false x = omega arith

pub base-low : (s : FeeStrategy) (fee size cost : ℕ) → fee_per_factor s fee size cost ≤ cap
base-low s fee size cost = quotient-low _ (factor_of s size cost)

-- ---- one that is not pooled is not pooled after removals

count-without : (j k : ℕ) (es : List Entry) → count j (map key_of (without key_of k es)) ≤ count j (map key_of es)
count-without j k [] = omega arith
count-without j k (e ∷ es) = go (eqb e.id k) (count-without j k es)
  where
    go : (t : Bool) → count j (map key_of (without key_of k es)) ≤ count j (map key_of es) → count j (map key_of (pick t es (e ∷ without key_of k es))) ≤ count j (map key_of (e ∷ es))
    go true h = omega arith
    go false h = omega arith

count-removed : (j k : ℕ) (t : Tables) → count j (map key_of (remove_tx k t).entries) ≤ count j (map key_of t.entries)
count-removed j k t = go (pooled k t.entries)
  where
    go : (b : Bool) → count j (map key_of (pick b (record { entries = without key_of k t.entries; boxes = drop_owner k t.boxes }) t).entries) ≤ count j (map key_of t.entries)
    go true = count-without j k t.entries
    go false = omega arith

count-all : (j : ℕ) (ks : List ℕ) (t : Tables) → count j (map key_of (remove_all ks t).entries) ≤ count j (map key_of t.entries)
count-all j [] t = omega arith
count-all j (k ∷ ks) t = omega (arith, count-all j ks (remove_tx k t), count-removed j k t)

absent-pooled : (k : ℕ) (es : List Entry) → count k (map key_of es) ≡ 0 → pooled k es ≡ false
absent-pooled k [] h = refl
absent-pooled k (e ∷ es) h = go (eqb e.id k) (absent-pooled k es) h
  where
    go : (t : Bool) → (count k (map key_of es) ≡ 0 → pooled k es ≡ false) → pick t 1 0 + count k (map key_of es) ≡ 0 → pick t true (pooled k es) ≡ false
    go true ih z = absurd (omega arith)
    go false ih z = ih (omega arith)

pub still-new : (k : ℕ) (ks : List ℕ) (t : Tables) → pooled k t.entries ≡ false → pooled k (remove_all ks t).entries ≡ false
still-new k ks t h = absent-pooled k (remove_all ks t).entries (omega (arith, count-all k ks t, not-pooled k t.entries h))

-- ---- the admission

module _ (g : MempoolConfig) (a : Submission) (c : ℕ) (ins outs : List ℕ) (v : a.verdict ≡ Valid c) (l : Ledger) where
  pub cost-is : submitted_cost a ≡ cost_of c a.size
  cost-is = ap (λ x. max (verdict_cost x) a.size) v

  base-is : submitted_base g a outs ≡ base_of g a c outs
  base-is = ap (λ x. fee_per_factor g.fee_strategy (fee_of outs) a.size x) cost-is

  -- the pool's tables agree with the ledger that heard the outcome; whatever that was, the charge stands, and what next gave last
  pub record Settles (d : Admitted) : Type 0 where
    pub book : SameBook d.tables (hears_submission g a ins outs (reading_of d.outcome) l).book
    pub rest : hears_submission g a ins outs (reading_of d.outcome) l ≡ with_book (hears_submission g a ins outs (reading_of d.outcome) l).book (charge_for a l)

  either : (t : Bool) (x y : Admitted) → Settles x → Settles y → Settles (pick t x y)
  either true x y p q = p
  either false x y p q = q

  module _ (t : Tables) (s : SameBook t l.book) (new : pooled (id_of a.id) t.entries ≡ false) where
    abbrev ks : List ℕ
    ks = conflicts (index false t.boxes) (ids_of 5 ins)

    abbrev e : Entry
    e = newcomer a c (base_of g a c outs) ins outs

    gone : SameBook (remove_all ks t) (losers_leave (ids_of 5 ins) l.book)
    gone = same-losers (ids_of 5 ins) t l.book s

    in-book : SameBook (joined visit_cap e ins outs (remove_all ks t)) (walks visit_cap (submitted_base g a outs) (id_of a.id) (entered g a ins outs l.book))
    unfolding joined newcomer entered
    in-book =
        rw base-is
        (same-propagated visit_cap (base_of g a c outs) (id_of a.id) _ _
        (same-enter e (ids_of 5 ins) (ids_of 7 outs) (remove_all ks t) _ gone (still-new (id_of a.id) ks t new) refl (base-low g.fee_strategy (fee_of outs) a.size (cost_of c a.size))))

    admits-same : SameBook (evict g.capacity (joined visit_cap e ins outs (remove_all ks t))) (enters_submission g a ins outs l).book
    unfolding enters_submission charge_for
    admits-same = same-evict g.capacity _ _ in-book

    settles : (room : ℕ) (js : List ℕ) → Settles (settled room g.capacity js (joined visit_cap e ins outs (remove_all ks t)))
    unfolding settled hears_submission enters_submission
    settles room [] = record { book = admits-same; rest = refl }
    settles room (j ∷ js) = record { book = admits-same; rest = refl }

    low : Settles (record { outcome = refused 10 0; tables = t; written = [] })
    unfolding hears_submission turned_away charge_for
    low = record { book = s; rest = refl }

    lost : (n : ℕ) → Settles (record { outcome = refused 29 n; tables = t; written = ks })
    unfolding hears_submission turned_away charge_for
    lost n = record { book = s; rest = refl }

    full : Settles (record { outcome = refused 30 0; tables = remove_all ks t; written = [] })
    unfolding hears_submission turned_away charge_for
    full = record { book = gone; rest = refl }

    pub admission-same : (room : ℕ) → Settles (admit_spec visit_cap room g t a c ins outs)
    unfolding admit_spec contested seated
    admission-same room =
        either (ltb (fee_of outs) g.min_fee) _ _ low
        (either (loses e.base ks t.entries) _ _ (lost _)
        (either (crowded g.capacity e.base (remove_all ks t).entries) _ _ full (settles room ks)))
