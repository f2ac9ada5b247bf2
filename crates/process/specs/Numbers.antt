-- The outcomes that document 01 gives a submission, and that it gives no other, whatever it is asked.
use Rattle.std.specs.Prelude.{ℕ, ◌≡◌, refl, Bool, true, false, ◌||◌, ◌∷◌, eqb}
use Rattle.std.proofs.Common.{sym, ap, ◌∙◌, arith, eqb-true, ne_eqb}
use Rattle.words.specs.Lists.{pick}
use Rattle.pool_types.specs.declared.ProcessingOutcome.TheVariants.{Declined}
use Rattle.pool_types.specs.Refusals.{refusal_number}
use Rattle.pool_types.specs.declared.Refusal.{Refusal}
use Rattle.pool_types.specs.Outcomes.{Outcome, processed_of, refused, done, wrote, needed, candidate, ended, missing, invalid, valid, number, said, entry, none}
use Rattle.boxes.specs.Among.{among, among-cons}
use Rattle.pool_types.specs.Refusals.{numbered}
use Rattle.checks.specs.Numbers.{refusals}
use Rattle.admit.specs.Placed.{of_admission}
use Rattle.store.specs.Spares.{charging}

unfoldable pub of_submission : Outcome → Bool
of_submission (refused n k) = among n refusals
of_submission done = true
of_submission (wrote k) = true
of_submission needed = true
of_submission (candidate k) = false
of_submission (ended n) = false
of_submission (missing k) = false
of_submission (invalid k) = false
of_submission (valid k) = false
of_submission (number n) = false
of_submission (said b) = false
of_submission (entry k w b) = false
of_submission none = false

abbrev Ours : Outcome → Type 0
Ours o = of_submission o ≡ true

-- what the tests of a submission refuse it with
pub refused-ours : (r : Refusal) (k : ℕ) → among (refusal_number r) (0 ∷ refusals) ≡ true → Ours (refused (refusal_number r) k)
unfolding of_submission
refused-ours r k p =
    let n = refusal_number r in
    sym (among-cons n 0 refusals ∙ ap (λ (x : Bool). x || among n refusals) (ne_eqb 0 n (λ y. numbered r (sym y)))) ∙ p

-- what is answered where the words do not fit
pub unfit-ours : (t : Bool) (r : Refusal) → refusal_number r ≡ pick t 20 1 → Ours (processed_of (Declined r))
unfolding of_submission processed_of
unfit-ours true r e = rw e
unfit-ours false r e = rw e

-- ---- an admission's: one that refuses charges, and none asks for a verdict

pub record Charging (o : Outcome) : Type 0 where
  pub given : o ≡ needed → ⊥
  pub charges : (j i : ℕ) → o ≡ refused j i → charging j ≡ true

never : {A : Type 0} → ◌≡◌ {A = ℕ} 0 1 → A
never z = absurd (omega arith)

one_of : (P : ℕ → Type 0) (j : ℕ) → P 10 → P 29 → P 30 → (eqb j 10 || (eqb j 29 || eqb j 30)) ≡ true → P j
one_of P j a b c h = go (eqb j 10) (eqb j 29) (eqb j 30) refl refl refl h
  where
    go : (x y z : Bool) → eqb j 10 ≡ x → eqb j 29 ≡ y → eqb j 30 ≡ z → (x || (y || z)) ≡ true → P j
    go true y z p q r h = rw (eqb-true j 10 p) a
    go false true z p q r h = rw (eqb-true j 29 q) b
    go false false true p q r h = rw (eqb-true j 30 r) c
    go false false false p q r h = never cc

pub admission-ours : (o : Outcome) → of_admission o ≡ true → Ours o
unfolding of_admission of_submission
admission-ours (refused j i) h = one_of (λ j. Ours (refused j i)) j refl refl refl h
admission-ours done h = refl
admission-ours (wrote n) h = refl
admission-ours needed h = never cc
admission-ours (candidate k) h = never cc
admission-ours (ended n) h = never cc
admission-ours (missing k) h = never cc
admission-ours (invalid k) h = never cc
admission-ours (valid k) h = never cc
admission-ours (number n) h = never cc
admission-ours (said b) h = never cc
admission-ours (entry k w b) h = never cc
admission-ours none h = never cc

pub charging-of : (o : Outcome) → of_admission o ≡ true → Charging o
unfolding of_admission
charging-of (refused j i) h = record { given = λ q. never cc; charges = λ x y q. let z : j ≡ x = cc in rw (← z) (one_of (λ j. charging j ≡ true) j refl refl refl h) }
charging-of done h = record { given = λ q. never cc; charges = λ j i q. never cc }
charging-of (wrote n) h = record { given = λ q. never cc; charges = λ j i q. never cc }
charging-of needed h = never cc
charging-of (candidate k) h = never cc
charging-of (ended n) h = never cc
charging-of (missing k) h = never cc
charging-of (invalid k) h = never cc
charging-of (valid k) h = never cc
charging-of (number n) h = never cc
charging-of (said b) h = never cc
charging-of (entry k w b) h = never cc
charging-of none h = never cc
