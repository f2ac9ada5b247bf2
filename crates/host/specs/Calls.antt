-- What the exported calls leave, by the words of the C side: the equations of the calls that they export, through the decodings of `State` and
-- the numbers of `Codes`.
use Rattle.std.specs.Prelude.{ℕ, ◌/◌, ◌≤◌, ◌<◌, ◌≡◌, refl, Bool, true, false, List, length}
use Rattle.std.proofs.Common.{sym, ◌∙◌, arith}
use Rattle.std.proofs.Math.Path.{ap}
use Rattle.words.specs.Lists.{pick}
use Rattle.pool_types.specs.declared.Mempool.{Mempool}
use Rattle.pool_types.specs.declared.Submission.{Submission}
use Rattle.pool_types.specs.declared.ProcessingOutcome.{ProcessingOutcome}
use Rattle.pool_types.specs.Outcomes.{processed_of, refused}
use Rattle.peers.specs.declared.PeerRecord.{PeerRecord}
use Rattle.store.specs.Fits.{all_fit}
use Rattle.store.specs.Spares.{Spares}
use Rattle.store.specs.Spares.{Lent as Held, lent as held}
use Rattle.pool_types.specs.Outcomes.{written_of as told_of}
use Rattle.process.specs.Promises.{ProcessPromise}
use Rattle.process.specs.Numbers.{of_submission}
use Rattle.pool_types.specs.declared.Done.{Done}
use Rattle.host.specs.State.{pass_of, state_of, submission_of, left_words, left-held}
use Rattle.host.specs.Codes.{code_of, result_of}
use Rattle.host.specs.Results.{filled, lacking, Says}
use Rattle.host.specs.Spared.{Changed, changed, left-spares}

-- the words of the lent tables and of the answer buffer, and the peer records
pub record Lent : Type 0 where
  pub entries : List ℕ
  pub boxes : List ℕ
  pub cache : List ℕ
  pub peers : List PeerRecord
  pub answer : List ℕ

abbrev pub lent : List ℕ → List ℕ → List ℕ → List PeerRecord → List ℕ → Lent
lent e b k p a = record { entries = e; boxes = b; cache = k; peers = p; answer = a }

-- what they hold, with the state's words s
abbrev pub held_by : Lent → List ℕ → Held
held_by w s = held w.entries w.boxes w.cache w.peers w.answer (state_of s)

-- ---- a submission

-- what process promises where the words hold the state st, and it answers r
abbrev pub Promised : Lent → Lent → Mempool → Submission → List ℕ → List ℕ → Done ProcessingOutcome → Type 0
Promised w₀ w st a ins outs r =
    ProcessPromise w₀.entries w₀.boxes w₀.cache w₀.peers st a ins outs w.entries w.boxes w.cache w.peers w₀.answer w.answer r

-- where the counts do not fit, 20 or 1
abbrev pub Unfit : Lent → Mempool → ProcessingOutcome → Type 0
Unfit w st o = all_fit w.entries w.boxes w.cache (length w.peers) st ≡ false → processed_of o ≡ refused (pick st.pass.«open» 20 1) 0

-- An outcome of process stands behind the number: with it, and with the state that the words now hold, this is what process says of itself.
pub record Ran (w₀ w : Lent) (s₀ s r₀ r sub ins outs : List ℕ) (code : ℕ) : Type 0 where
  pub outcome : ProcessingOutcome
  pub left : Changed s₀ s r₀ r (processed_of outcome) code
  pub ours : of_submission (processed_of outcome) ≡ true
  pub post : Promised w₀ w (state_of s₀) (submission_of sub) ins outs (record { mempool = state_of s; outcome = outcome })
  pub unfit : Unfit w₀ (state_of s₀) outcome
  pub spares : Spares (processed_of outcome) (held_by w₀ s₀) (held_by w s)
  pub few : told_of (processed_of outcome) ≤ length w₀.answer / 4

-- too few words are refused with n, and nothing changes but the result record, which says so where there is one
pub record Nothing (n : ℕ) (w₀ w : Lent) (s₀ s r₀ r : List ℕ) (code : ℕ) : Type 0 where
  pub answered : code ≡ n
  pub result : r ≡ filled r₀ (result_of (refused n 0))
  pub lent : w ≡ w₀
  pub state : s ≡ s₀

-- "20 or 21 first": where the state is there, an open pass is named before too few words of a submission or of a result
pub record Submitted (w₀ w : Lent) (s₀ s r₀ r sub ins outs : List ℕ) (code : ℕ) : Type 0 where
  pub short_state : length s₀ < 25 → Nothing 1 w₀ w s₀ s r₀ r code
  pub short : 25 ≤ length s₀ → lacking (length sub) 11 (length r₀) ≡ true → Nothing (pick (pass_of s₀).«open» 20 1) w₀ w s₀ s r₀ r code
  pub ran : 25 ≤ length s₀ → lacking (length sub) 11 (length r₀) ≡ false → Ran w₀ w s₀ s r₀ r sub ins outs code

-- from what process says of the state and the submission that were read
module _ (w₀ w : Lent) (s₀ s r₀ r' sub ins outs : List ℕ) {st : Mempool} {a : Submission} (r : Done ProcessingOutcome) (h : 25 ≤ length s₀) (e : st ≡ state_of s₀) (f : a ≡ submission_of sub)
    (p : Promised w₀ w st a ins outs r)
    (o : of_submission (processed_of r.outcome) ≡ true)
    (u : Unfit w₀ st r.outcome)
    (v : Spares (processed_of r.outcome) (held w₀.entries w₀.boxes w₀.cache w₀.peers w₀.answer st) (held w.entries w.boxes w.cache w.peers w.answer r.mempool))
    (t : told_of (processed_of r.outcome) ≤ length w₀.answer / 4)
    (q : s ≡ left_words s₀ r.mempool.counts r.mempool.cached r.mempool.sums) where
  posted : Promised w₀ w st a ins outs (record { mempool = state_of s; outcome = r.outcome })
  posted g = let t = p g in rw (left-held s₀ s st r.mempool h e q t.config t.pass) t

  pub ran-words : {code : ℕ} → Says r₀ r' (processed_of r.outcome) code → Ran w₀ w s₀ s r₀ r' sub ins outs code
  ran-words c =
      record {
        outcome = r.outcome;
        left = changed s₀ s r.mempool h q (processed_of r.outcome) c;
        ours = o;
        post = rw (← e, ← f) posted;
        unfit = rw (← e) u;
        spares = left-spares s₀ s r.mempool h q e v;
        few = t;
      }

-- ---- the call, from too few words, and from what process says of the state and the submission that were read

differ : {A : Type 0} {x : Bool} → x ≡ true → x ≡ false → A
differ p q = let z : ◌≡◌ {A = ℕ} 0 1 = cc in absurd (omega arith)

module _ (w : Lent) (s r₀ r sub ins outs : List ℕ) {code : ℕ} where
  nothing : {m : ℕ} (n : ℕ) → n ≡ m → Says r₀ r (refused n 0) code → Nothing m w w s s r₀ r code
  unfolding code_of
  nothing n d c = record { answered = c.answered ∙ d; result = c.result ∙ ap (λ (k : ℕ). filled r₀ (result_of (refused k 0))) d; lent = refl; state = refl }

  pub submit-few : length s < 25 → Says r₀ r (refused 1 0) code → Submitted w w s s r₀ r sub ins outs code
  submit-few h c = record { short_state = λ _. nothing 1 refl c; short = λ g _. absurd (omega arith); ran = λ g _. absurd (omega arith) }

  pub submit-short : {t : Bool} {n : ℕ} → 25 ≤ length s → t ≡ lacking (length sub) 11 (length r₀) → t ≡ true → n ≡ pick (pass_of s).«open» 20 1 → Says r₀ r (refused n 0) code → Submitted w w s s r₀ r sub ins outs code
  submit-short {n = n} h q t d c = record { short_state = λ f. absurd (omega arith); short = λ _ _. nothing n d c; ran = λ _ f. differ (sym q ∙ t) f }

module _ (w₀ w : Lent) (s₀ s r₀ r' sub ins outs : List ℕ) {t : Bool} {st : Mempool} {a : Submission} {code : ℕ} (r : Done ProcessingOutcome) (h : 25 ≤ length s₀) (g : t ≡ lacking (length sub) 11 (length r₀)) (g' : t ≡ false) (e : st ≡ state_of s₀)
    (f : a ≡ submission_of sub) (p : Promised w₀ w st a ins outs r)
    (o : of_submission (processed_of r.outcome) ≡ true)
    (u : Unfit w₀ st r.outcome)
    (v : Spares (processed_of r.outcome) (held w₀.entries w₀.boxes w₀.cache w₀.peers w₀.answer st) (held w.entries w.boxes w.cache w.peers w.answer r.mempool))
    (few : told_of (processed_of r.outcome) ≤ length w₀.answer / 4)
    (q : s ≡ left_words s₀ r.mempool.counts r.mempool.cached r.mempool.sums) where
  pub submit-words : Says r₀ r' (processed_of r.outcome) code → Submitted w₀ w s₀ s r₀ r' sub ins outs code
  submit-words c =
      record {
        short_state = λ z. absurd (omega arith);
        short = λ _ z. differ z (sym g ∙ g');
        ran = λ _ _. ran-words w₀ w s₀ s r₀ r' sub ins outs r h e f p o u v few q c;
      }
