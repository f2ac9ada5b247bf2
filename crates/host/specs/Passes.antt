-- What the exported calls of a pass and a rebroadcast leave, by the words of the C side. As for a submission, an outcome stands behind the number, and
-- with it and the state that the words now hold the call's own contract is met.
use Rattle.std.specs.Prelude.{Result}
use Rattle.pool_types.specs.declared.Refusal.{Refusal}
use Rattle.std.specs.Prelude.{ℕ, ◌-◌, ◌≤◌, ◌<◌, ◌≡◌, refl, true, false, not, List, [], ◌∷◌, leb, length, take, drop}
use Rattle.std.proofs.Common.{ap, arith}
use Rattle.words.specs.Lists.{pick}
use Rattle.words.specs.Sums.{cap}
use Rattle.pool_types.specs.declared.Mempool.{Mempool}
use Rattle.pool_types.specs.declared.Verdict.{Verdict}
use Rattle.pool_types.specs.declared.NextOutcome.{NextOutcome}
use Rattle.pool_types.specs.declared.AnswerOutcome.{AnswerOutcome}
use Rattle.pool_types.specs.Outcomes.{Outcome, refused, done_of, next_of, answered_of, listed_of}
use Rattle.peers.specs.declared.PeerRecord.{PeerRecord}
use Rattle.entries.specs.Layout.{entries_room}
use Rattle.pool.specs.Pool.{fits_test}
use Rattle.store.specs.World.{World}
use Rattle.store.specs.Fits.{cache_fits}
use Rattle.store.specs.Spares.{Spares, lent}
use Rattle.cleanup.specs.Passes.{opened}
use Rattle.cleanup.specs.Passes.{pass_of as pass_now}
use Rattle.cleanup.specs.Post.{PassOnly, repassed, none_out, Told}
use Rattle.cleanup.specs.Promises.{OpenPromise, NextPromise, AnswerPromise, RebroadcastPromise}
use Rattle.cleanup.specs.Numbers.{of_open, of_next, of_answer, of_rebroadcast}
use Rattle.pool_types.specs.declared.Done.{Done}
use Rattle.host.specs.State.{pass_of, state_of}
use Rattle.host.specs.Stored.{Stored, stored-held}
use Rattle.host.specs.Codes.{code_of, result_of}
use Rattle.host.specs.Results.{filled, Says}
use Rattle.host.specs.Spared.{stored-spares}
use Rattle.host.specs.Queries.{query_of}
use Rattle.host.specs.Changes.{Idle, idle}

-- the outcome is answered, by its number and in the result record, and the settings are as they were
pub record Passed (s₀ s r₀ r : List ℕ) (o : Outcome) (code : ℕ) : Type 0 where
  pub answered : code ≡ code_of o
  pub result : r ≡ filled r₀ (result_of o)
  pub kept : length s ≡ length s₀
  pub settings : take 9 s ≡ take 9 s₀
  pub rest : drop 24 s ≡ drop 24 s₀
  -- where the state is what it was, as in a refusal, so is every word
  pub spared : state_of s ≡ state_of s₀ → s ≡ s₀

passed : {s₀ s r₀ r : List ℕ} {m : Mempool} {o : Outcome} {code : ℕ} → Stored s₀ s m → Says r₀ r o code → Passed s₀ s r₀ r o code
passed z c = record { answered = c.answered; result = c.result; kept = z.kept; settings = z.settings; rest = z.rest; spared = z.spared }

-- ---- open

-- what a refusal spares, whatever the words and records are
abbrev pub OpenSpares : Mempool → Mempool → (Result Unit Refusal) → Type 0
OpenSpares st r o = (e b k : List ℕ) (ys : List PeerRecord) (a : List ℕ) → Spares (done_of o) (lent e b k ys a st) (lent e b k ys a r)

pub record Opening (s₀ s r₀ r : List ℕ) (time limit preheader code : ℕ) : Type 0 where
  pub outcome : (Result Unit Refusal)
  pub left : Passed s₀ s r₀ r (done_of outcome) code
  pub ours : of_open outcome ≡ true
  pub post : OpenPromise (state_of s₀) time limit preheader (state_of s) (done_of outcome)
  pub spares : OpenSpares (state_of s₀) (state_of s) outcome
  pub only : (w : World) → PassOnly (state_of s₀) (state_of s) (done_of outcome) (opened w (pass_now (state_of s₀).pass) time limit preheader)

pub record OpenCall (s₀ s r₀ r : List ℕ) (time limit preheader code : ℕ) : Type 0 where
  pub short_state : length s₀ < 25 → Idle 1 code r₀ r (s₀ ∷ []) (s ∷ [])
  pub short : 25 ≤ length s₀ → length r₀ < 16 → Idle (pick (pass_of s₀).«open» 20 1) code r₀ r (s₀ ∷ []) (s ∷ [])
  pub ran : 25 ≤ length s₀ → 16 ≤ length r₀ → Opening s₀ s r₀ r time limit preheader code

module _ (s r₀ r : List ℕ) (time limit preheader : ℕ) {code : ℕ} where
  pub open-few : length s < 25 → Says r₀ r (refused 1 0) code → OpenCall s s r₀ r time limit preheader code
  open-few h c = record { short_state = λ _. idle _ refl c; short = λ g _. absurd (omega arith); ran = λ g _. absurd (omega arith) }

  pub open-short : {n : ℕ} → 25 ≤ length s → length r₀ < 16 → n ≡ pick (pass_of s).«open» 20 1 → Says r₀ r (refused n 0) code → OpenCall s s r₀ r time limit preheader code
  open-short h g d c = record { short_state = λ f. absurd (omega arith); short = λ _ _. idle _ d c; ran = λ _ f. absurd (omega arith) }

-- from what open says of the state that was read
module _ (s₀ s r₀ r' : List ℕ) (time limit preheader : ℕ) {st : Mempool} (r : Done (Result Unit Refusal)) (h : 25 ≤ length s₀) (g : 16 ≤ length r₀) (f : st ≡ state_of s₀) (z : Stored s₀ s r.mempool)
    (p : OpenPromise st time limit preheader r.mempool (done_of r.outcome))
    (v : OpenSpares st r.mempool r.outcome)
    (x : (w : World) → PassOnly st r.mempool (done_of r.outcome) (opened w (pass_now st.pass) time limit preheader)) where
  open-held : World → state_of s ≡ r.mempool
  open-held w = stored-held z f (ap (λ (m : Mempool). m.config) (x w).state)

  pub open-words : {code : ℕ} → of_open r.outcome ≡ true → Says r₀ r' (done_of r.outcome) code → OpenCall s₀ s r₀ r' time limit preheader code
  open-words o c =
      record {
        short_state = λ z. absurd (omega arith);
        short = λ _ z. absurd (omega arith);
        ran =
            λ _ _.
            record {
              outcome = r.outcome;
              left = passed z c;
              ours = o;
              post = rw (← f) (λ e b k q g. let t = p e b k q g in rw (stored-held z f t.config) t);
              spares = λ e b k ys a. stored-spares z f (v e b k ys a);
              only = rw (← f) (λ w. rw (open-held w) (x w));
            };
      }

-- ---- next: the candidate's id, or the sum, stands in the result record

abbrev pub NextSpares : List ℕ → Mempool → Mempool → (Result NextOutcome Refusal) → Type 0
NextSpares e st r o = (b k : List ℕ) (ys : List PeerRecord) (a : List ℕ) → Spares (next_of o) (lent e b k ys a st) (lent e b k ys a r)

pub record Offering (e s₀ s r₀ r : List ℕ) (code : ℕ) : Type 0 where
  pub outcome : (Result NextOutcome Refusal)
  pub left : Passed s₀ s r₀ r (next_of outcome) code
  pub ours : of_next outcome ≡ true
  pub post : NextPromise e (state_of s₀) (state_of s) (next_of outcome)
  pub spares : NextSpares e (state_of s₀) (state_of s) outcome
  pub only : state_of s ≡ repassed (state_of s₀) (state_of s).pass
  pub unfit : leb (state_of s₀).counts.pooled (entries_room e) ≡ false → next_of outcome ≡ refused (pick (not (state_of s₀).pass.«open») 21 1) 0

-- "20 or 21 first": where the state is there, that no pass is open is named before too few words of a result
pub record NextCall (e s₀ s r₀ r : List ℕ) (code : ℕ) : Type 0 where
  pub short_state : length s₀ < 25 → Idle 1 code r₀ r (s₀ ∷ []) (s ∷ [])
  pub short : 25 ≤ length s₀ → length r₀ < 16 → Idle (pick (not (pass_of s₀).«open») 21 1) code r₀ r (s₀ ∷ []) (s ∷ [])
  pub ran : 25 ≤ length s₀ → 16 ≤ length r₀ → Offering e s₀ s r₀ r code

module _ (e s r₀ r : List ℕ) {code : ℕ} where
  pub next-few : length s < 25 → Says r₀ r (refused 1 0) code → NextCall e s s r₀ r code
  next-few h c = record { short_state = λ _. idle _ refl c; short = λ g _. absurd (omega arith); ran = λ g _. absurd (omega arith) }

  pub next-short : {n : ℕ} → 25 ≤ length s → length r₀ < 16 → n ≡ pick (not (pass_of s).«open») 21 1 → Says r₀ r (refused n 0) code → NextCall e s s r₀ r code
  next-short h g d c = record { short_state = λ f. absurd (omega arith); short = λ _ _. idle _ d c; ran = λ _ f. absurd (omega arith) }

module _ (e s₀ s r₀ r' : List ℕ) {st : Mempool} (r : Done (Result NextOutcome Refusal)) (h : 25 ≤ length s₀) (g : 16 ≤ length r₀) (f : st ≡ state_of s₀) (z : Stored s₀ s r.mempool)
    (p : NextPromise e st r.mempool (next_of r.outcome))
    (v : NextSpares e st r.mempool r.outcome)
    (x : leb st.counts.pooled (entries_room e) ≡ false → next_of r.outcome ≡ refused (pick (not st.pass.«open») 21 1) 0)
    (y : r.mempool ≡ repassed st r.mempool.pass) where
  next-held : state_of s ≡ r.mempool
  next-held = stored-held z f (ap (λ (m : Mempool). m.config) y)

  pub next-words : {code : ℕ} → of_next r.outcome ≡ true → Says r₀ r' (next_of r.outcome) code → NextCall e s₀ s r₀ r' code
  next-words o c =
      record {
        short_state = λ d. absurd (omega arith);
        short = λ _ d. absurd (omega arith);
        ran =
            λ _ _.
            record {
              outcome = r.outcome;
              left = passed z c;
              ours = o;
              post = rw (← f, next-held) p;
              spares = λ b k ys m. stored-spares z f (v b k ys m);
              only = rw (← f, next-held) y;
              unfit = rw (← f) x;
            };
      }

-- ---- answer

abbrev pub AnswerSpares : List ℕ → List ℕ → List ℕ → List ℕ → List ℕ → List ℕ → Mempool → Mempool → (Result AnswerOutcome Refusal) → Type 0
AnswerSpares e₀ e b₀ b k₀ k st r o = (ys : List PeerRecord) (a : List ℕ) → Spares (answered_of o) (lent e₀ b₀ k₀ ys a st) (lent e b k ys a r)

pub record Answering (e₀ e b₀ b k₀ k s₀ s r₀ r flags : List ℕ) (v : Verdict) (code : ℕ) : Type 0 where
  pub outcome : (Result AnswerOutcome Refusal)
  pub left : Passed s₀ s r₀ r (answered_of outcome) code
  pub ours : of_answer outcome ≡ true
  pub post : AnswerPromise e₀ b₀ k₀ (state_of s₀) flags v e b k (state_of s) (answered_of outcome)
  pub spares : AnswerSpares e₀ e b₀ b k₀ k (state_of s₀) (state_of s) outcome
  pub unfit : cache_fits e₀ b₀ k₀ (state_of s₀) ≡ false → answered_of outcome ≡ refused (pick (none_out (state_of s₀).pass) 21 1) 0

-- .. and that no candidate is out
pub record AnswerCall (e₀ e b₀ b k₀ k s₀ s r₀ r flags : List ℕ) (v : Verdict) (code : ℕ) : Type 0 where
  pub short_state : length s₀ < 25 → Idle 1 code r₀ r (e₀ ∷ b₀ ∷ k₀ ∷ s₀ ∷ []) (e ∷ b ∷ k ∷ s ∷ [])
  pub short : 25 ≤ length s₀ → length r₀ < 16 → Idle (pick (none_out (pass_of s₀)) 21 1) code r₀ r (e₀ ∷ b₀ ∷ k₀ ∷ s₀ ∷ []) (e ∷ b ∷ k ∷ s ∷ [])
  pub ran : 25 ≤ length s₀ → 16 ≤ length r₀ → Answering e₀ e b₀ b k₀ k s₀ s r₀ r flags v code

module _ (e b k s r₀ r flags : List ℕ) (v : Verdict) {code : ℕ} where
  pub answer-few : length s < 25 → Says r₀ r (refused 1 0) code → AnswerCall e e b b k k s s r₀ r flags v code
  answer-few h c = record { short_state = λ _. idle _ refl c; short = λ g _. absurd (omega arith); ran = λ g _. absurd (omega arith) }

  pub answer-short : {n : ℕ} → 25 ≤ length s → length r₀ < 16 → n ≡ pick (none_out (pass_of s)) 21 1 → Says r₀ r (refused n 0) code → AnswerCall e e b b k k s s r₀ r flags v code
  answer-short h g d c = record { short_state = λ f. absurd (omega arith); short = λ _ _. idle _ d c; ran = λ _ f. absurd (omega arith) }

module _ (e₀ e b₀ b k₀ k s₀ s r₀ r' flags : List ℕ) (v : Verdict) {st : Mempool} {u : Verdict} (r : Done (Result AnswerOutcome Refusal)) (h : 25 ≤ length s₀) (g : 16 ≤ length r₀) (f : st ≡ state_of s₀) (d : u ≡ v) (z : Stored s₀ s r.mempool)
    (p : AnswerPromise e₀ b₀ k₀ st flags u e b k r.mempool (answered_of r.outcome))
    (w : AnswerSpares e₀ e b₀ b k₀ k st r.mempool r.outcome)
    (x : cache_fits e₀ b₀ k₀ st ≡ false → answered_of r.outcome ≡ refused (pick (none_out st.pass) 21 1) 0) where
  answer-posted : AnswerPromise e₀ b₀ k₀ st flags u e b k (state_of s) (answered_of r.outcome)
  answer-posted q g = let t = p q g in rw (stored-held z f t.config) t

  pub answer-words : {code : ℕ} → of_answer r.outcome ≡ true → Says r₀ r' (answered_of r.outcome) code → AnswerCall e₀ e b₀ b k₀ k s₀ s r₀ r' flags v code
  answer-words o c =
      record {
        short_state = λ z. absurd (omega arith);
        short = λ _ z. absurd (omega arith);
        ran = λ _ _. record { outcome = r.outcome; left = passed z c; ours = o; post = rw (← f, ← d) answer-posted; spares = λ ys a. stored-spares z f (w ys a); unfit = rw (← f) x };
      }

-- ---- a rebroadcast, a query: how many ids were written, and refusal n as 2^64−1−n

pub record Sending (e b a₀ a s confirmed : List ℕ) (code : ℕ) : Type 0 where
  pub outcome : (Result ℕ Refusal)
  pub answered : code ≡ query_of (listed_of outcome)
  pub ours : of_rebroadcast outcome ≡ true
  pub post : RebroadcastPromise e b (state_of s) confirmed a₀ a (listed_of outcome)
  -- a refusal writes nothing
  pub told : Told a₀ a (listed_of outcome)
  pub unfit : fits_test e b (state_of s).counts ≡ false → listed_of outcome ≡ refused 1 0

pub record RebroadcastCall (e b a₀ a s confirmed : List ℕ) (code : ℕ) : Type 0 where
  pub short : length s < 25 → (code ≡ cap - 1) × (a ≡ a₀)
  pub ran : 25 ≤ length s → Sending e b a₀ a s confirmed code

pub rebroadcast-few : (e b a s confirmed : List ℕ) → length s < 25 → RebroadcastCall e b a a s confirmed (cap - 1)
rebroadcast-few e b a s confirmed h = record { short = λ _. (refl, refl); ran = λ g. absurd (omega arith) }

pub rebroadcast-words : (e b a₀ a s confirmed : List ℕ) {st : Mempool} (o : (Result ℕ Refusal)) {code : ℕ} → 25 ≤ length s → st ≡ state_of s → RebroadcastPromise e b st confirmed a₀ a (listed_of o) → of_rebroadcast o ≡ true
    → Told a₀ a (listed_of o) → (fits_test e b st.counts ≡ false → listed_of o ≡ refused 1 0) → code ≡ query_of (listed_of o) → RebroadcastCall e b a₀ a s confirmed code
rebroadcast-words e b a₀ a s confirmed o h f p d t x c =
    record { short = λ g. absurd (omega arith); ran = λ _. record { outcome = o; answered = c; ours = d; post = rw (← f) p; told = t; unfit = rw (← f) x } }
