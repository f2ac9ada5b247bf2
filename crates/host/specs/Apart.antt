-- What the answered numbers tell: the number of a submission is always one of a submission, and with the number of ids written it tells the
-- outcome; that of a return, an invalidation, a block and the calls of a pass is always one of theirs; the number of a query that was refused is no count.
use Rattle.std.specs.Prelude.{Err, Ok, Result}
use Rattle.pool_types.specs.declared.Refusal.{Refusal}
use Rattle.pool_types.specs.Refusals.{refusal_number}
use Rattle.std.specs.Prelude.{ℕ, ◌*◌, ◌-◌, ◌^◌, ◌≤◌, ◌<◌, ◌≡◌, refl, Bool, true, false, not, ◌||◌, List, [], ◌∷◌, eqb, length}
use Rattle.std.proofs.Common.{sym, ap, ◌∙◌, arith, ne_eqb}
use Rattle.std.proofs.Math.Decide.{dec_lt}
use Rattle.words.specs.Lists.{pick}
use Rattle.words.specs.Sums.{cap}
use Rattle.pool_types.specs.declared.NextOutcome.{NextOutcome}
use Rattle.pool_types.specs.declared.NextOutcome.TheVariants.{Candidate, Ended}
use Rattle.pool_types.specs.declared.AnswerOutcome.{AnswerOutcome}
use Rattle.pool_types.specs.declared.AnswerOutcome.TheVariants.{InputMissing, AnswerNeeded, FoundInvalid, FoundValid}
use Rattle.pool_types.specs.Outcomes.{Outcome, processed_of, done_of, listed_of, next_of, answered_of, refused, done, wrote, needed, candidate, ended, missing, invalid, valid, number, said, entry, none}
use Rattle.pool_types.specs.declared.Verdict.{Verdict}
use Rattle.boxes.specs.Among.{among, among-cons}
use Rattle.checks.specs.Numbers.{refusals}
use Rattle.process.specs.Numbers.{of_submission}
use Rattle.returns.specs.Numbers.{return_refusals, of_return, of_invalidation}
use Rattle.blocks.specs.Numbers.{of_block}
use Rattle.cleanup.specs.Numbers.{of_open, of_next, of_answer}
use Rattle.host.specs.State.{pass_of}
use Rattle.host.specs.Codes.{code_of}
use Rattle.pool_types.specs.Outcomes.{written_of}
use Rattle.host.specs.Results.{lacking}
use Rattle.cleanup.specs.Post.{none_out}
use Rattle.host.specs.Calls.{Lent, Submitted}
use Rattle.host.specs.Changes.{ReturnCall, InvalidateCall, BlockCall}
use Rattle.host.specs.Passes.{OpenCall, NextCall, AnswerCall}

differ : {A : Type 0} → false ≡ true → A
differ e = let z : ◌≡◌ {A = ℕ} 0 1 = cc in absurd (omega arith)

-- one of two numbers
picked : (l : List ℕ) (m n : ℕ) (t : Bool) → among m l ≡ true → among n l ≡ true → among (pick t m n) l ≡ true
picked l m n true p q = p
picked l m n false p q = q

-- ---- a submission

-- accepted, replaced, verdict needed, and its refusals
abbrev pub codes : List ℕ
codes = 0 ∷ 100 ∷ 101 ∷ refusals

any : (a b c : Bool) → (a || (b || (c || true))) ≡ true
any true b c = refl
any false true c = refl
any false false true = refl
any false false false = refl

among-more : (n : ℕ) → among n refusals ≡ true → among n codes ≡ true
among-more n h =
    among-cons n 0 (100 ∷ 101 ∷ refusals)
    ∙ ap (λ (t : Bool). eqb 0 n || t) (among-cons n 100 (101 ∷ refusals) ∙ ap (λ (t : Bool). eqb 100 n || t) (among-cons n 101 refusals ∙ ap (λ (t : Bool). eqb 101 n || t) h))
    ∙ any (eqb 0 n) (eqb 100 n) (eqb 101 n)

code-of : (o : Outcome) → of_submission o ≡ true → among (code_of o) codes ≡ true
unfolding of_submission code_of
code-of (refused n k) h = among-more n h
code-of done h = refl
code-of (wrote k) h = refl
code-of needed h = refl
code-of (candidate k) h = differ h
code-of (ended n) h = differ h
code-of (missing k) h = differ h
code-of (invalid k) h = differ h
code-of (valid k) h = differ h
code-of (number n) h = differ h
code-of (said b) h = differ h
code-of (entry k w b) h = differ h
code-of none h = differ h

-- on any words the answer is a number of a submission
pub always-ours : {w₀ w : Lent} {s₀ s r₀ r sub ins outs : List ℕ} {code : ℕ} → Submitted w₀ w s₀ s r₀ r sub ins outs code → among code codes ≡ true
always-ours {s₀ = s₀} {r₀ = r₀} {sub = sub} {code = code} r = go (dec_lt (length s₀) 25) (lacking (length sub) 11 (length r₀)) refl
  where
    go : Dec (length s₀ < 25) → (t : Bool) → lacking (length sub) 11 (length r₀) ≡ t → among code codes ≡ true
    go (yes p) t q = rw (r.short_state p).answered
    go (no p) true q = rw (r.short (omega (arith, p)) q).answered (picked codes 20 1 (pass_of s₀).«open» refl refl)
    go (no p) false q = let a = r.ran (omega (arith, p)) q in rw a.left.answered (code-of (processed_of a.outcome) a.ours)

-- the outcome of a number, and of how many ids were written
abbrev pub outcome_of : ℕ → ℕ → Outcome
outcome_of code k = pick (eqb code 0) done (pick (eqb code 100) (wrote k) (pick (eqb code 101) needed (refused code k)))

-- .. is the one that was answered, so that no two are confused
pub told-apart : (o : Outcome) → of_submission o ≡ true → outcome_of (code_of o) (written_of o) ≡ o
unfolding of_submission code_of written_of
told-apart (refused n k) h = rw (is-not 0 refl, is-not 100 refl, is-not 101 refl)
  where
    is-not : (m : ℕ) → among m refusals ≡ false → eqb n m ≡ false
    is-not m z = ne_eqb n m (λ e. differ (sym (ap (λ (i : ℕ). among i refusals) e ∙ z) ∙ h))
told-apart done h = refl
told-apart (wrote k) h = refl
told-apart needed h = refl
told-apart (candidate k) h = differ h
told-apart (ended n) h = differ h
told-apart (missing k) h = differ h
told-apart (invalid k) h = differ h
told-apart (valid k) h = differ h
told-apart (number n) h = differ h
told-apart (said b) h = differ h
told-apart (entry k w b) h = differ h
told-apart none h = differ h

-- ---- a return and an invalidation are done with 0, a block with 100; else they answer one of their own refusals

or-true : (b : Bool) → (b || true) ≡ true
or-true true = refl
or-true false = refl

one_more : (n m : ℕ) (l : List ℕ) → among n l ≡ true → among n (m ∷ l) ≡ true
one_more n m l h = among-cons n m l ∙ ap (λ (t : Bool). eqb m n || t) h ∙ or-true (eqb m n)

return-code : (o : (Result Unit Refusal)) → of_return o ≡ true → among (code_of (done_of o)) (0 ∷ return_refusals) ≡ true
unfolding of_return done_of code_of
return-code (Ok tt) h = refl
return-code (Err n) h = one_more (refusal_number n) 0 return_refusals h

invalidate-code : (o : (Result Unit Refusal)) → of_invalidation o ≡ true → among (code_of (done_of o)) (0 ∷ 20 ∷ 1 ∷ []) ≡ true
unfolding of_invalidation done_of code_of
invalidate-code (Ok tt) h = refl
invalidate-code (Err n) h = one_more (refusal_number n) 0 (20 ∷ 1 ∷ []) h

block-code : (o : (Result ℕ Refusal)) → of_block (listed_of o) ≡ true → among (code_of (listed_of o)) (100 ∷ 20 ∷ 1 ∷ 2 ∷ []) ≡ true
unfolding of_block listed_of code_of
block-code (Ok k) h = refl
block-code (Err n) h = one_more (refusal_number n) 100 (20 ∷ 1 ∷ 2 ∷ []) h

pub return-ours : {e₀ e b₀ b s₀ s r₀ r tx ins outs : List ℕ} {code : ℕ} → ReturnCall e₀ e b₀ b s₀ s r₀ r tx ins outs code → among code (0 ∷ return_refusals) ≡ true
return-ours {s₀ = s₀} {r₀ = r₀} {tx = tx} {code = code} r = go (dec_lt (length s₀) 25) (lacking (length tx) 13 (length r₀)) refl
  where
    go : Dec (length s₀ < 25) → (t : Bool) → lacking (length tx) 13 (length r₀) ≡ t → among code (0 ∷ return_refusals) ≡ true
    go (yes p) t q = rw (r.short_state p).answered
    go (no p) true q = rw (r.short (omega (arith, p)) q).answered (picked (0 ∷ return_refusals) 20 1 (pass_of s₀).«open» refl refl)
    go (no p) false q = let a = r.ran (omega (arith, p)) q in rw a.left.answered (return-code a.outcome a.ours)

pub invalidate-ours : {e₀ e b₀ b k₀ k s₀ s r₀ r : List ℕ} {time id code : ℕ} → InvalidateCall e₀ e b₀ b k₀ k s₀ s r₀ r time id code → among code (0 ∷ 20 ∷ 1 ∷ []) ≡ true
invalidate-ours {s₀ = s₀} {r₀ = r₀} {code = code} r = go (dec_lt (length s₀) 25) (dec_lt (length r₀) 16)
  where
    go : Dec (length s₀ < 25) → Dec (length r₀ < 16) → among code (0 ∷ 20 ∷ 1 ∷ []) ≡ true
    go (yes p) q = rw (r.short_state p).answered
    go (no p) (yes q) = rw (r.short (omega (arith, p)) q).answered (picked (0 ∷ 20 ∷ 1 ∷ []) 20 1 (pass_of s₀).«open» refl refl)
    go (no p) (no q) = let a = r.ran (omega (arith, p)) (omega (arith, q)) in rw a.left.answered (invalidate-code a.outcome a.ours)

pub block-ours : {e₀ e b₀ b k₀ k a₀ a s₀ s t₀ t r₀ r : List ℕ} {time : ℕ} {txs ins : List ℕ} {code : ℕ} → BlockCall e₀ e b₀ b k₀ k a₀ a s₀ s t₀ t r₀ r time txs ins code
    → among code (100 ∷ 20 ∷ 1 ∷ 2 ∷ []) ≡ true
block-ours {s₀ = s₀} {t₀ = t₀} {r₀ = r₀} {code = code} r = go (dec_lt (length s₀) 25) (lacking (length t₀) 124 (length r₀)) refl
  where
    go : Dec (length s₀ < 25) → (t : Bool) → lacking (length t₀) 124 (length r₀) ≡ t → among code (100 ∷ 20 ∷ 1 ∷ 2 ∷ []) ≡ true
    go (yes p) t q = rw (r.short_state p).answered
    go (no p) true q = rw (r.short (omega (arith, p)) q).answered (picked (100 ∷ 20 ∷ 1 ∷ 2 ∷ []) 20 1 (pass_of s₀).«open» refl refl)
    go (no p) false q = let a = r.ran (omega (arith, p)) q in rw a.left.answered (block-code a.outcome a.ours)

-- ---- the calls of a pass: opened with 0; a candidate with 102 and ended with 103; an input missing, invalid and valid with 104 to 106

open_code : (o : (Result Unit Refusal)) → of_open o ≡ true → among (code_of (done_of o)) (0 ∷ 1 ∷ 20 ∷ []) ≡ true
unfolding of_open done_of code_of
open_code (Ok tt) h = refl
open_code (Err n) h = one_more (refusal_number n) 0 (1 ∷ 20 ∷ []) (one_more (refusal_number n) 1 (20 ∷ []) h)

next-code : (o : (Result NextOutcome Refusal)) → of_next o ≡ true → among (code_of (next_of o)) (102 ∷ 103 ∷ 21 ∷ 1 ∷ []) ≡ true
unfolding of_next next_of code_of
next-code (Ok (Candidate x)) h = refl
next-code (Ok (Ended n)) h = refl
next-code (Err n) h = one_more (refusal_number n) 102 (103 ∷ 21 ∷ 1 ∷ []) (one_more (refusal_number n) 103 (21 ∷ 1 ∷ []) h)

answer-code : (o : (Result AnswerOutcome Refusal)) → of_answer o ≡ true → among (code_of (answered_of o)) (101 ∷ 104 ∷ 105 ∷ 106 ∷ 21 ∷ 1 ∷ []) ≡ true
unfolding of_answer answered_of code_of
answer-code (Ok (InputMissing x)) h = refl
answer-code (Ok AnswerNeeded) h = refl
answer-code (Ok (FoundInvalid x)) h = refl
answer-code (Ok (FoundValid x)) h = refl
answer-code (Err n) h =
    one_more (refusal_number n) 101 (104 ∷ 105 ∷ 106 ∷ 21 ∷ 1 ∷ []) (one_more (refusal_number n) 104 (105 ∷ 106 ∷ 21 ∷ 1 ∷ []) (one_more (refusal_number n) 105 (106 ∷ 21 ∷ 1 ∷ []) (one_more (refusal_number n) 106 (21 ∷ 1 ∷ []) h)))

pub open-ours : {s₀ s r₀ r : List ℕ} {time limit preheader code : ℕ} → OpenCall s₀ s r₀ r time limit preheader code → among code (0 ∷ 1 ∷ 20 ∷ []) ≡ true
open-ours {s₀ = s₀} {r₀ = r₀} {code = code} r = go (dec_lt (length s₀) 25) (dec_lt (length r₀) 16)
  where
    go : Dec (length s₀ < 25) → Dec (length r₀ < 16) → among code (0 ∷ 1 ∷ 20 ∷ []) ≡ true
    go (yes p) q = rw (r.short_state p).answered
    go (no p) (yes q) = rw (r.short (omega (arith, p)) q).answered (picked (0 ∷ 1 ∷ 20 ∷ []) 20 1 (pass_of s₀).«open» refl refl)
    go (no p) (no q) = let a = r.ran (omega (arith, p)) (omega (arith, q)) in rw a.left.answered (open_code a.outcome a.ours)

pub next-ours : {e s₀ s r₀ r : List ℕ} {code : ℕ} → NextCall e s₀ s r₀ r code → among code (102 ∷ 103 ∷ 21 ∷ 1 ∷ []) ≡ true
next-ours {s₀ = s₀} {r₀ = r₀} {code = code} r = go (dec_lt (length s₀) 25) (dec_lt (length r₀) 16)
  where
    go : Dec (length s₀ < 25) → Dec (length r₀ < 16) → among code (102 ∷ 103 ∷ 21 ∷ 1 ∷ []) ≡ true
    go (yes p) q = rw (r.short_state p).answered
    go (no p) (yes q) = rw (r.short (omega (arith, p)) q).answered (picked (102 ∷ 103 ∷ 21 ∷ 1 ∷ []) 21 1 (not (pass_of s₀).«open») refl refl)
    go (no p) (no q) = let a = r.ran (omega (arith, p)) (omega (arith, q)) in rw a.left.answered (next-code a.outcome a.ours)

pub answer-ours : {e₀ e b₀ b k₀ k s₀ s r₀ r flags : List ℕ} {v : Verdict} {code : ℕ} → AnswerCall e₀ e b₀ b k₀ k s₀ s r₀ r flags v code → among code (101 ∷ 104 ∷ 105 ∷ 106 ∷ 21 ∷ 1 ∷ []) ≡ true
answer-ours {s₀ = s₀} {r₀ = r₀} {code = code} r = go (dec_lt (length s₀) 25) (dec_lt (length r₀) 16)
  where
    go : Dec (length s₀ < 25) → Dec (length r₀ < 16) → among code (101 ∷ 104 ∷ 105 ∷ 106 ∷ 21 ∷ 1 ∷ []) ≡ true
    go (yes p) q = rw (r.short_state p).answered
    go (no p) (yes q) = rw (r.short (omega (arith, p)) q).answered (picked (101 ∷ 104 ∷ 105 ∷ 106 ∷ 21 ∷ 1 ∷ []) 21 1 (none_out (pass_of s₀)) refl refl)
    go (no p) (no q) = let a = r.ran (omega (arith, p)) (omega (arith, q)) in rw a.left.answered (answer-code a.outcome a.ours)

-- ---- a query

-- entries take 14 words each, and lent words are fewer than 2^64: no count of them is the number of a refusal
pub no-count : (words k n : ℕ) → words < 2 ^ 64 → k * 14 ≤ words → n ≤ 30 → cap - n ≡ k → ⊥
no-count words k n h g m e = omega arith
