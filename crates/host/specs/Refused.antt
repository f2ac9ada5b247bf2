-- A refusal as words: "Unless said, nothing changes and no answer byte is written." A number that says no success, and 'verdict needed' as well, leaves
-- every word that was lent, and every word of the state. Of a submission 9, 10, 29 and 30 are apart: `Spares` says what they leave.
use Rattle.std.specs.Prelude.{Err, Ok, Result}
use Rattle.pool_types.specs.declared.Refusal.{Refusal}
use Rattle.pool_types.specs.Refusals.{refusal_number}
use Rattle.std.specs.Prelude.{ℕ, ◌≡◌, true, false, List, [], ◌∷◌, eqb}
use Rattle.std.proofs.Math.Path.{refl}
use Rattle.std.proofs.Common.{sym, ap, ◌∙◌, arith, ne_eqb}
use Rattle.pool_types.specs.declared.Verdict.{Verdict}
use Rattle.pool_types.specs.declared.ProcessingOutcome.{ProcessingOutcome}
use Rattle.pool_types.specs.declared.ProcessingOutcome.TheVariants.{Accepted, Replaced, DoubleSpendLoser, VerdictNeeded, Declined}
use Rattle.pool_types.specs.declared.NextOutcome.{NextOutcome}
use Rattle.pool_types.specs.declared.NextOutcome.TheVariants.{Candidate, Ended}
use Rattle.pool_types.specs.declared.AnswerOutcome.{AnswerOutcome}
use Rattle.pool_types.specs.declared.AnswerOutcome.TheVariants.{InputMissing, AnswerNeeded, FoundInvalid, FoundValid}
use Rattle.pool_types.specs.Outcomes.{processed_of, done_of, listed_of, next_of, answered_of}
use Rattle.boxes.specs.Among.{among}
use Rattle.store.specs.Spares.{Spared, spared-all}
use Rattle.store.specs.Spares.{Lent as Held}
use Rattle.returns.specs.Numbers.{return_refusals, of_return, of_invalidation}
use Rattle.blocks.specs.Numbers.{of_block}
use Rattle.cleanup.specs.Numbers.{of_open, of_next, of_answer}
use Rattle.host.specs.State.{state_of}
use Rattle.host.specs.Codes.{code_of}
use Rattle.host.specs.Calls.{Lent, held_by, Ran}
use Rattle.host.specs.Changes.{Returning, Invalidating, Blocking}
use Rattle.host.specs.Passes.{Opening, Offering, Answering}

-- ---- a number that is none of 9, 10, 29 and 30

differ : {A : Type 0} → false ≡ true → A
differ e = let z : ◌≡◌ {A = ℕ} 0 1 = cc in absurd (omega arith)

-- of a number in the list l, and one that is not
is-not : (l : List ℕ) (j m : ℕ) → among j l ≡ true → among m l ≡ false → eqb j m ≡ false
is-not l j m p q = ne_eqb j m (λ e. differ (sym (ap (λ (i : ℕ). among i l) e ∙ q) ∙ p))

nothing : {m n : Held} (j : ℕ) → eqb j 9 ≡ false → eqb j 10 ≡ false → eqb j 29 ≡ false → eqb j 30 ≡ false → Spared j m n → n ≡ m
nothing j p q r s h = spared-all p s r (rw (q, r, s)) h

-- a refusal of a call that has none of them
plain : {m n : Held} (l : List ℕ) (j : ℕ) → among j l ≡ true → among 9 l ≡ false → among 10 l ≡ false → among 29 l ≡ false → among 30 l ≡ false → Spared j m n → n ≡ m
plain l j h p q r s x = nothing j (is-not l j 9 h p) (is-not l j 10 h q) (is-not l j 29 h r) (is-not l j 30 h s) x

-- ---- a submission

-- what was lent is what it was, and so are the state's words
pub record Left (w₀ w : Lent) (s₀ s : List ℕ) : Type 0 where
  pub entries : w.entries ≡ w₀.entries
  pub boxes : w.boxes ≡ w₀.boxes
  pub cache : w.cache ≡ w₀.cache
  pub peers : w.peers ≡ w₀.peers
  pub answer : w.answer ≡ w₀.answer
  pub state : s ≡ s₀

-- a submission that entered, and the refusals that document 01 says more of
abbrev pub apart : List ℕ
apart = 0 ∷ 100 ∷ 9 ∷ 10 ∷ 29 ∷ 30 ∷ []

module _ {w₀ w : Lent} {s₀ s r₀ r sub ins outs : List ℕ} {code : ℕ} (x : Ran w₀ w s₀ s r₀ r sub ins outs code) (z : among code apart ≡ false) where
  -- the number of its outcome
  none : (n : ℕ) → among n apart ≡ true → code ≡ n → {A : Type 0} → A
  none n h e = differ (sym z ∙ ap (λ (i : ℕ). among i apart) e ∙ h)

  other : (n m : ℕ) → code ≡ n → among m apart ≡ true → eqb n m ≡ false
  other n m e h = ne_eqb n m (λ q. none m h (e ∙ q))

  refusal-held : held_by w s ≡ held_by w₀ s₀
  unfolding processed_of code_of
  refusal-held = go x.outcome refl
    where
      go : (o : ProcessingOutcome) → x.outcome ≡ o → held_by w s ≡ held_by w₀ s₀
      go Accepted q = none 0 refl (x.left.answered ∙ rw q)
      go (Replaced n) q = none 100 refl (x.left.answered ∙ rw q)
      go (DoubleSpendLoser n) q = none 29 refl (x.left.answered ∙ rw q)
      go VerdictNeeded q = x.spares.asked (rw q)
      go (Declined n) q =
          let e : code ≡ (refusal_number n) = x.left.answered ∙ rw q in
          nothing (refusal_number n) (other (refusal_number n) 9 e refl) (other (refusal_number n) 10 e refl) (other (refusal_number n) 29 e refl) (other (refusal_number n) 30 e refl) (x.spares.refusal (refusal_number n) 0 (rw q))

  pub submit-refused : Left w₀ w s₀ s
  submit-refused =
      let h = refusal-held in
      record {
        entries = ap (λ (m : Held). m.entries) h;
        boxes = ap (λ (m : Held). m.boxes) h;
        cache = ap (λ (m : Held). m.cache) h;
        peers = ap (λ (m : Held). m.peers) h;
        answer = ap (λ (m : Held). m.answer) h;
        state = x.left.spared (ap (λ (m : Held). m.state) h);
      }

-- ---- a return

pub return_refused : {e₀ e b₀ b s₀ s r₀ r tx ins outs : List ℕ} {code : ℕ} → Returning e₀ e b₀ b s₀ s r₀ r tx ins outs code → (code ≡ 0 → ⊥) → (e ≡ e₀) × (b ≡ b₀) × (s ≡ s₀)
unfolding done_of code_of of_return
return_refused {e₀} {e} {b₀} {b} {s₀} {s} {code = code} x z = go x.outcome refl
  where
    go : (o : (Result Unit Refusal)) → x.outcome ≡ o → (e ≡ e₀) × (b ≡ b₀) × (s ≡ s₀)
    go (Ok tt) q = absurd (z (x.left.answered ∙ rw q))
    go (Err n) q =
        let h = plain return_refusals (refusal_number n) (rw q at x.ours) refl refl refl refl ((x.spares [] [] []).refusal (refusal_number n) 0 (rw q)) in
        (ap (λ (m : Held). m.entries) h, ap (λ (m : Held). m.boxes) h, x.left.spared (ap (λ (m : Held). m.state) h))

-- ---- an invalidation

pub invalidate-refused : {e₀ e b₀ b k₀ k s₀ s r₀ r : List ℕ} {time id code : ℕ} → Invalidating e₀ e b₀ b k₀ k s₀ s r₀ r time id code → (code ≡ 0 → ⊥) → (e ≡ e₀) × (b ≡ b₀) × (k ≡ k₀) × (s ≡ s₀)
unfolding done_of code_of of_invalidation
invalidate-refused {e₀} {e} {b₀} {b} {k₀} {k} {s₀} {s} x z = go x.outcome refl
  where
    go : (o : (Result Unit Refusal)) → x.outcome ≡ o → (e ≡ e₀) × (b ≡ b₀) × (k ≡ k₀) × (s ≡ s₀)
    go (Ok tt) q = absurd (z (x.left.answered ∙ rw q))
    go (Err n) q =
        let h = plain (20 ∷ 1 ∷ []) (refusal_number n) (rw q at x.ours) refl refl refl refl ((x.spares [] []).refusal (refusal_number n) 0 (rw q)) in
        (ap (λ (m : Held). m.entries) h, ap (λ (m : Held). m.boxes) h, ap (λ (m : Held). m.cache) h, x.left.spared (ap (λ (m : Held). m.state) h))

-- ---- a block

pub block_refused : {e₀ e b₀ b k₀ k a₀ a s₀ s t₀ t r₀ r : List ℕ} {time : ℕ} {txs ins : List ℕ} {code : ℕ} → Blocking e₀ e b₀ b k₀ k a₀ a s₀ s t₀ t r₀ r time txs ins code → (code ≡ 100 → ⊥)
    → (e ≡ e₀) × (b ≡ b₀) × (k ≡ k₀) × (a ≡ a₀) × (t ≡ t₀) × (s ≡ s₀)
unfolding listed_of code_of of_block
block_refused {e₀} {e} {b₀} {b} {k₀} {k} {a₀} {a} {s₀} {s} {t₀} {t} x z = go x.outcome refl
  where
    go : (o : (Result ℕ Refusal)) → x.outcome ≡ o → (e ≡ e₀) × (b ≡ b₀) × (k ≡ k₀) × (a ≡ a₀) × (t ≡ t₀) × (s ≡ s₀)
    go (Ok n) q = absurd (z (x.left.answered ∙ rw q))
    go (Err n) q =
        let h = plain (20 ∷ 1 ∷ 2 ∷ []) (refusal_number n) (rw q at x.ours) refl refl refl refl ((x.spares []).refusal (refusal_number n) 0 (rw q)) in
        (ap (λ (m : Held). m.entries) h, ap (λ (m : Held). m.boxes) h, ap (λ (m : Held). m.cache) h, ap (λ (m : Held). m.answer) h, x.spared (refusal_number n) 0 (rw q), x.left.spared (ap (λ (m : Held). m.state) h))

-- ---- the calls of a pass

pub open-refused : {s₀ s r₀ r : List ℕ} {time limit preheader code : ℕ} → Opening s₀ s r₀ r time limit preheader code → (code ≡ 0 → ⊥) → s ≡ s₀
unfolding done_of code_of of_open
open-refused {s₀} {s} x z = go x.outcome refl
  where
    go : (o : (Result Unit Refusal)) → x.outcome ≡ o → s ≡ s₀
    go (Ok tt) q = absurd (z (x.left.answered ∙ rw q))
    go (Err n) q = x.left.spared (ap (λ (m : Held). m.state) (plain (20 ∷ []) (refusal_number n) (rw q at x.ours) refl refl refl refl ((x.spares [] [] [] [] []).refusal (refusal_number n) 0 (rw q))))

pub next-refused : {e s₀ s r₀ r : List ℕ} {code : ℕ} → Offering e s₀ s r₀ r code → (code ≡ 102 → ⊥) → (code ≡ 103 → ⊥) → s ≡ s₀
unfolding next_of code_of of_next
next-refused {s₀ = s₀} {s = s} x y z = go x.outcome refl
  where
    go : (o : (Result NextOutcome Refusal)) → x.outcome ≡ o → s ≡ s₀
    go (Ok (Candidate n)) q = absurd (y (x.left.answered ∙ rw q))
    go (Ok (Ended n)) q = absurd (z (x.left.answered ∙ rw q))
    go (Err n) q = x.left.spared (ap (λ (m : Held). m.state) (plain (21 ∷ 1 ∷ []) (refusal_number n) (rw q at x.ours) refl refl refl refl ((x.spares [] [] [] []).refusal (refusal_number n) 0 (rw q))))

pub answer-refused : {e₀ e b₀ b k₀ k s₀ s r₀ r flags : List ℕ} {v : Verdict} {code : ℕ} → Answering e₀ e b₀ b k₀ k s₀ s r₀ r flags v code → among code (104 ∷ 105 ∷ 106 ∷ []) ≡ false
    → (e ≡ e₀) × (b ≡ b₀) × (k ≡ k₀) × (s ≡ s₀)
unfolding answered_of code_of of_answer
answer-refused {e₀} {e} {b₀} {b} {k₀} {k} {s₀} {s} {code = code} x z = go x.outcome refl
  where
    all : ((a : List ℕ) → ◌≡◌ {A = Held} (record { entries = e; boxes = b; cache = k; peers = []; answer = a; state = state_of s }) (record { entries = e₀; boxes = b₀; cache = k₀; peers = []; answer = a; state = state_of s₀ }))
        → (e ≡ e₀) × (b ≡ b₀) × (k ≡ k₀) × (s ≡ s₀)
    all f = let h = f [] in (ap (λ (m : Held). m.entries) h, ap (λ (m : Held). m.boxes) h, ap (λ (m : Held). m.cache) h, x.left.spared (ap (λ (m : Held). m.state) h))

    none : (n : ℕ) → among n (104 ∷ 105 ∷ 106 ∷ []) ≡ true → code ≡ n → {A : Type 0} → A
    none n h q = differ (sym z ∙ ap (λ (i : ℕ). among i (104 ∷ 105 ∷ 106 ∷ [])) q ∙ h)

    go : (o : (Result AnswerOutcome Refusal)) → x.outcome ≡ o → (e ≡ e₀) × (b ≡ b₀) × (k ≡ k₀) × (s ≡ s₀)
    go (Ok (InputMissing n)) q = none 104 refl (x.left.answered ∙ rw q)
    go (Ok AnswerNeeded) q = all (λ a. (x.spares [] a).asked (rw q))
    go (Ok (FoundInvalid n)) q = none 105 refl (x.left.answered ∙ rw q)
    go (Ok (FoundValid n)) q = none 106 refl (x.left.answered ∙ rw q)
    go (Err n) q = all (λ a. plain (21 ∷ 1 ∷ []) (refusal_number n) (rw q at x.ours) refl refl refl refl ((x.spares [] a).refusal (refusal_number n) 0 (rw q)))
