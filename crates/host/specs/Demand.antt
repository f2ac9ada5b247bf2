-- Demand 3 (document 01) of the words that the C side holds: over every list of exported calls from an accepted gunthyd_start, with any arguments and
-- any answer buffers and result records, the words decode to the pool that the ledger says. The ledger is fed the decoded arguments and the outcome behind each number.
use Rattle.pool_types.specs.declared.Refusal.TheVariants.{Settings}
use Rattle.std.specs.Prelude.{Err, Ok, Result}
use Rattle.pool_types.specs.declared.Refusal.{Refusal}
use Rattle.pool_types.specs.declared.Mempool.{Mempool}
use Rattle.pool_types.specs.Refusals.{refusal_number}
use Rattle.std.specs.Prelude.{ℕ, ◌≤◌, ◌<◌, ◌≡◌, Bool, true, false, List, [], ◌∷◌, length}
use Rattle.std.proofs.Math.Path.{refl}
use Rattle.std.proofs.Common.{sym, ap, subst, ◌∙◌, arith}
use Rattle.words.specs.Lists.{pick}
use Rattle.pool_types.specs.declared.MempoolConfig.{MempoolConfig}
use Rattle.pool_types.specs.declared.Verdict.{Verdict}
use Rattle.pool_types.specs.Outcomes.{Outcome, processed_of, done_of, listed_of, next_of, answered_of}
use Rattle.peers.specs.declared.PeerRecord.{PeerRecord}
use Rattle.mempool.specs.Start.{Sizes, sized, settled, empty, started}
use Rattle.ledger.specs.Ledger.{Call, Submit, Return, Block, Invalidate, Open, Next, Answer, Heard}
use Rattle.ledger.specs.Run.{Moment, moment, sizes_at}
use Rattle.ledger.proofs.Steps.{submit-step, return-step, block-step, invalidate-step, open_step, next-step, answer-step}
use Rattle.ledger.proofs.Theorem.{Told, start-begins, told-begin, told-call, told-demand3}
use Rattle.ledger.specs.Demand3.{Demand3}
use Rattle.host.specs.State.{config_of, state_of, submission_of}
use Rattle.host.specs.Statistics.{stats_of}
use Rattle.host.specs.Calls.{Lent, lent, Submitted}
use Rattle.host.specs.Changes.{tx_of, ReturnCall, InvalidateCall, BlockCall}
use Rattle.host.specs.Passes.{OpenCall, NextCall, AnswerCall}
use Rattle.host.specs.Results.{lacking}
use Rattle.host.specs.Starts.{Answered, sizes_of, scant, scant-none, Started}

-- ---- what the C side holds between two calls

-- the words of the lent tables, the peer records, and the words of the state
pub record HostMoment : Type 0 where
  pub entries : List ℕ
  pub boxes : List ℕ
  pub cache : List ℕ
  pub peers : List PeerRecord
  pub state : List ℕ

abbrev pub held : List ℕ → List ℕ → List ℕ → List PeerRecord → List ℕ → HostMoment
held e b k p s = record { entries = e; boxes = b; cache = k; peers = p; state = s }

-- what they decode to
abbrev pub decoded : HostMoment → Moment
decoded m = moment m.entries m.boxes m.cache m.peers (state_of m.state)

-- lent with an answer buffer
abbrev pub with : HostMoment → List ℕ → Lent
with m a = lent m.entries m.boxes m.cache m.peers a

-- what the ledger hears of a call
abbrev pub hears : Call → Outcome → Heard
hears c o = record { call = c; outcome = o }

-- ---- lists of exported calls, the last first

-- "A list begins with what an accepted start left; each call gets store and state as the last left or returned them; nobody else writes them". Each
-- call comes with its contract, as its `ensures` has it, of the words before and after it, and with words enough for its arguments: the ledger hears of
-- it. Where there are too few the ledger hears nothing. A query is lent words that it cannot write, and so is the store to a start of another state: a
-- list with them is the list without them.
-- That there is a whole state is no assumption: `host-long`.
pub data HostRun (g : MempoolConfig) : List Heard → HostMoment → Type 0 where
  -- a start with these settings and a peer limit of at least 1 answered 0
  begins : {time : ℕ} {c t₀ t s₀ r₀ r : List ℕ} (m : HostMoment) → Started time c m.entries m.boxes m.cache (length m.peers) t₀ t s₀ m.state r₀ r 0 → config_of c ≡ g
      → 1 ≤ g.cost_per_peer_per_block → HostRun g [] m
  submits : {h : List Heard} {m n : HostMoment} {r₀ r sub ins outs a₀ a : List ℕ} {code : ℕ} → HostRun g h m
      → (x : Submitted (with m a₀) (with n a) m.state n.state r₀ r sub ins outs code) (l : 25 ≤ length m.state) (q : lacking (length sub) 11 (length r₀) ≡ false)
      → HostRun g (hears (Submit (submission_of sub) ins outs) (processed_of (x.ran l q).outcome) ∷ h) n
  returns : {h : List Heard} {m : HostMoment} {e b s r₀ r tx ins outs : List ℕ} {code : ℕ} → HostRun g h m
      → (x : ReturnCall m.entries e m.boxes b m.state s r₀ r tx ins outs code) (l : 25 ≤ length m.state) (q : lacking (length tx) 13 (length r₀) ≡ false)
      → HostRun g (hears (Return (tx_of tx) ins outs) (done_of (x.ran l q).outcome) ∷ h) (held e b m.cache m.peers s)
  invalidates : {h : List Heard} {m : HostMoment} {e b k s r₀ r : List ℕ} {time id code : ℕ} → HostRun g h m
      → (x : InvalidateCall m.entries e m.boxes b m.cache k m.state s r₀ r time id code) (l : 25 ≤ length m.state) (q : 16 ≤ length r₀)
      → HostRun g (hears (Invalidate time id) (done_of (x.ran l q).outcome) ∷ h) (held e b k m.peers s)
  applies : {h : List Heard} {m : HostMoment} {e b k a₀ a s t₀ t r₀ r : List ℕ} {time : ℕ} {txs ins : List ℕ} {code : ℕ} → HostRun g h m
      → (x : BlockCall m.entries e m.boxes b m.cache k a₀ a m.state s t₀ t r₀ r time txs ins code) (l : 25 ≤ length m.state) (q : lacking (length t₀) 124 (length r₀) ≡ false)
      → HostRun g (hears (Block time txs ins) (listed_of (x.ran l q).outcome) ∷ h) (held e b k m.peers s)
  opens : {h : List Heard} {m : HostMoment} {s r₀ r : List ℕ} {time limit preheader code : ℕ} → HostRun g h m
      → (x : OpenCall m.state s r₀ r time limit preheader code) (l : 25 ≤ length m.state) (q : 16 ≤ length r₀)
      → HostRun g (hears (Open time limit preheader) (done_of (x.ran l q).outcome) ∷ h) (held m.entries m.boxes m.cache m.peers s)
  nexts : {h : List Heard} {m : HostMoment} {s r₀ r : List ℕ} {code : ℕ} → HostRun g h m
      → (x : NextCall m.entries m.state s r₀ r code) (l : 25 ≤ length m.state) (q : 16 ≤ length r₀)
      → HostRun g (hears Next (next_of (x.ran l q).outcome) ∷ h) (held m.entries m.boxes m.cache m.peers s)
  answers : {h : List Heard} {m : HostMoment} {e b k s r₀ r flags : List ℕ} {v : Verdict} {code : ℕ} → HostRun g h m
      → (x : AnswerCall m.entries e m.boxes b m.cache k m.state s r₀ r flags v code) (l : 25 ≤ length m.state) (q : 16 ≤ length r₀)
      → HostRun g (hears (Answer flags v) (answered_of (x.ran l q).outcome) ∷ h) (held e b k m.peers s)
  -- too few words of a submission, of a transaction, of statistics or of a result
  submits-few : {h : List Heard} {m n : HostMoment} {r₀ r sub ins outs a₀ a : List ℕ} {code : ℕ} → HostRun g h m
      → Submitted (with m a₀) (with n a) m.state n.state r₀ r sub ins outs code → lacking (length sub) 11 (length r₀) ≡ true → HostRun g h n
  returns-few : {h : List Heard} {m : HostMoment} {e b s r₀ r tx ins outs : List ℕ} {code : ℕ} → HostRun g h m
      → ReturnCall m.entries e m.boxes b m.state s r₀ r tx ins outs code → lacking (length tx) 13 (length r₀) ≡ true → HostRun g h (held e b m.cache m.peers s)
  invalidates-few : {h : List Heard} {m : HostMoment} {e b k s r₀ r : List ℕ} {time id code : ℕ} → HostRun g h m
      → InvalidateCall m.entries e m.boxes b m.cache k m.state s r₀ r time id code → length r₀ < 16 → HostRun g h (held e b k m.peers s)
  applies-few : {h : List Heard} {m : HostMoment} {e b k a₀ a s t₀ t r₀ r : List ℕ} {time : ℕ} {txs ins : List ℕ} {code : ℕ} → HostRun g h m
      → BlockCall m.entries e m.boxes b m.cache k a₀ a m.state s t₀ t r₀ r time txs ins code → lacking (length t₀) 124 (length r₀) ≡ true → HostRun g h (held e b k m.peers s)
  opens-few : {h : List Heard} {m : HostMoment} {s r₀ r : List ℕ} {time limit preheader code : ℕ} → HostRun g h m
      → OpenCall m.state s r₀ r time limit preheader code → length r₀ < 16 → HostRun g h (held m.entries m.boxes m.cache m.peers s)
  nexts-few : {h : List Heard} {m : HostMoment} {s r₀ r : List ℕ} {code : ℕ} → HostRun g h m
      → NextCall m.entries m.state s r₀ r code → length r₀ < 16 → HostRun g h (held m.entries m.boxes m.cache m.peers s)
  answers-few : {h : List Heard} {m : HostMoment} {e b k s r₀ r flags : List ℕ} {v : Verdict} {code : ℕ} → HostRun g h m
      → AnswerCall m.entries e m.boxes b m.cache k m.state s r₀ r flags v code → length r₀ < 16 → HostRun g h (held e b k m.peers s)
  -- a start that is refused; one that is not begins a new list
  starts-not : {h : List Heard} {m : HostMoment} {time : ℕ} {c t₀ t s r₀ r : List ℕ} {code : ℕ} → HostRun g h m
      → Started time c m.entries m.boxes m.cache (length m.peers) t₀ t m.state s r₀ r code → (code ≡ 0 → ⊥) → HostRun g h (held m.entries m.boxes m.cache m.peers s)

-- ---- a start

-- it is refused with 6 alone
not-six : (z : Sizes) (c : MempoolConfig) (f : Refusal) → started z c ≡ Err f → f ≡ Settings
unfolding started
not-six z c f = go (sized z) (settled z c)
  where
    go : (a b : Bool) → pick a (pick b (Ok (empty c)) (Err Settings)) (Err Settings) ≡ Err f → f ≡ Settings
    go true true e = let x : ◌≡◌ {A = ℕ} 0 1 = cc in absurd (omega arith)
    go true false e = cc
    go false b e = cc

module _ {time : ℕ} {c e b k : List ℕ} {p : ℕ} {t₀ t s₀ s r₀ r : List ℕ} {code : ℕ} (x : Started time c e b k p t₀ t s₀ s r₀ r code) where
  -- refused, the state's words are those that it was lent
  pub start-kept : (code ≡ 0 → ⊥) → s ≡ s₀
  unfolding Answered
  start-kept z = go (scant c t₀ s₀ r₀) refl
    where
      by : (o : Result Mempool Refusal) → Answered o time c t₀ t s₀ s r₀ r code → s ≡ s₀
      by (Ok st) w = absurd (z w.answered)
      by (Err n) w = let q = w.words in cc

      go : (y : Bool) → scant c t₀ s₀ r₀ ≡ y → s ≡ s₀
      go true q = let w = (x.short q).words in cc
      go false q = by (started (sizes_of e b k p) (config_of c)) (x.begun q)

-- accepted, with 25 words at least, they hold the state that start handed back
pub record Accepted (c e b k : List ℕ) (p : ℕ) (s : List ℕ) : Type 0 where
  pub long : 25 ≤ length s
  pub ready : started (sizes_of e b k p) (config_of c) ≡ Ok (state_of s)

pub start-accepted : {time : ℕ} {c e b k : List ℕ} {p : ℕ} {t₀ t s₀ s r₀ r : List ℕ} → Started time c e b k p t₀ t s₀ s r₀ r 0 → Accepted c e b k p s
unfolding Answered
start-accepted {time} {c} {e} {b} {k} {p} {t₀} {t} {s₀} {s} {r₀} {r} x = go (scant c t₀ s₀ r₀) refl
  where
    by : 25 ≤ length s₀ → (o : Result Mempool Refusal) → started (sizes_of e b k p) (config_of c) ≡ o → Answered o time c t₀ t s₀ s r₀ r 0 → Accepted c e b k p s
    by l (Ok st) q w = record { long = omega (arith, w.words.kept, l); ready = q ∙ ap Ok (sym w.state) }
    by l (Err n) q w = absurd (omega (arith, w.answered, ap refusal_number (not-six _ _ n q)))

    go : (y : Bool) → scant c t₀ s₀ r₀ ≡ y → Accepted c e b k p s
    go true q = absurd (omega (arith, (x.short q).answered))
    go false q = by (scant-none c t₀ s₀ r₀ q).1 (started (sizes_of e b k p) (config_of c)) refl (x.begun q)

-- ---- too few words: nothing changed

module _ (m : HostMoment) (l : 25 ≤ length m.state) where
  submit-same : {n : HostMoment} {r₀ r sub ins outs a₀ a : List ℕ} {code : ℕ} → Submitted (with m a₀) (with n a) m.state n.state r₀ r sub ins outs code → lacking (length sub) 11 (length r₀) ≡ true → n ≡ m
  submit-same x q =
      let z = x.short l q in
      λ i. held (z.lent i).entries (z.lent i).boxes (z.lent i).cache (z.lent i).peers (z.state i)

  return-same : {e b s r₀ r tx ins outs : List ℕ} {code : ℕ} → ReturnCall m.entries e m.boxes b m.state s r₀ r tx ins outs code → lacking (length tx) 13 (length r₀) ≡ true → held e b m.cache m.peers s ≡ m
  return-same {e} {b} {s} x q =
      let z = (x.short l q).words in
      let p : e ≡ m.entries = cc in
      let r : b ≡ m.boxes = cc in
      let t : s ≡ m.state = cc in
      λ i. held (p i) (r i) m.cache m.peers (t i)

  three : {e b k s : List ℕ} → ◌≡◌ {A = List (List ℕ)} (e ∷ b ∷ k ∷ s ∷ []) (m.entries ∷ m.boxes ∷ m.cache ∷ m.state ∷ []) → held e b k m.peers s ≡ m
  three {e} {b} {k} {s} z =
      let p : e ≡ m.entries = cc in
      let r : b ≡ m.boxes = cc in
      let u : k ≡ m.cache = cc in
      let v : s ≡ m.state = cc in
      λ i. held (p i) (r i) (u i) m.peers (v i)

  one : {s : List ℕ} → ◌≡◌ {A = List (List ℕ)} (s ∷ []) (m.state ∷ []) → held m.entries m.boxes m.cache m.peers s ≡ m
  one {s} z = let v : s ≡ m.state = cc in λ i. held m.entries m.boxes m.cache m.peers (v i)

  block_same : {e b k a₀ a s t₀ t r₀ r : List ℕ} {time : ℕ} {txs ins : List ℕ} {code : ℕ} → BlockCall m.entries e m.boxes b m.cache k a₀ a m.state s t₀ t r₀ r time txs ins code
      → lacking (length t₀) 124 (length r₀) ≡ true → held e b k m.peers s ≡ m
  block_same {e} {b} {k} {s = s} x q =
      let z = (x.short l q).words in
      let p : e ≡ m.entries = cc in
      let r : b ≡ m.boxes = cc in
      let u : k ≡ m.cache = cc in
      let v : s ≡ m.state = cc in
      λ i. held (p i) (r i) (u i) m.peers (v i)

-- ---- from call to call

-- the state is whole
pub host-long : {g : MempoolConfig} {h : List Heard} {m : HostMoment} → HostRun g h m → 25 ≤ length m.state
host-long (begins m x c one) = (start-accepted x).long
host-long (submits r x l q) = omega (arith, (x.ran l q).left.kept)
host-long (returns r x l q) = omega (arith, (x.ran l q).left.kept)
host-long (invalidates r x l q) = omega (arith, (x.ran l q).left.kept)
host-long (applies r x l q) = omega (arith, (x.ran l q).left.kept)
host-long (opens r x l q) = omega (arith, (x.ran l q).left.kept)
host-long (nexts r x l q) = omega (arith, (x.ran l q).left.kept)
host-long (answers r x l q) = omega (arith, (x.ran l q).left.kept)
host-long (submits-few {m = m} r x q) = let l = host-long r in subst (λ (k : HostMoment). 25 ≤ length k.state) (sym (submit-same m l x q)) l
host-long (returns-few {m = m} r x q) = let l = host-long r in subst (λ (k : HostMoment). 25 ≤ length k.state) (sym (return-same m l x q)) l
host-long (invalidates-few {m = m} r x q) = let l = host-long r in subst (λ (k : HostMoment). 25 ≤ length k.state) (sym (three m l (x.short l q).words)) l
host-long (applies-few {m = m} r x q) = let l = host-long r in subst (λ (k : HostMoment). 25 ≤ length k.state) (sym (block_same m l x q)) l
host-long (opens-few {m = m} r x q) = let l = host-long r in subst (λ (k : HostMoment). 25 ≤ length k.state) (sym (one m l (x.short l q).words)) l
host-long (nexts-few {m = m} r x q) = let l = host-long r in subst (λ (k : HostMoment). 25 ≤ length k.state) (sym (one m l (x.short l q).words)) l
host-long (answers-few {m = m} r x q) = let l = host-long r in subst (λ (k : HostMoment). 25 ≤ length k.state) (sym (three m l (x.short l q).words)) l
host-long (starts-not r x z) = let l = host-long r in subst (λ (s : List ℕ). 25 ≤ length s) (sym (start-kept x z)) l

-- an accepted start of these very words
accepted-here : {g : MempoolConfig} {time : ℕ} {c t₀ t s₀ r₀ r : List ℕ} (m : HostMoment) → Started time c m.entries m.boxes m.cache (length m.peers) t₀ t s₀ m.state r₀ r 0 → config_of c ≡ g
    → started (sizes_at (decoded m)) g ≡ Ok (decoded m).state
accepted-here m x q = rw (← q) (start-accepted x).ready

pub host-told : {g : MempoolConfig} {h : List Heard} {m : HostMoment} → HostRun g h m → Told g h (decoded m)
host-told {g} (begins m x c one) = told-begin g (decoded m) (start-begins (decoded m) g (accepted-here m x c)) one
host-told {g} (submits {m = m} {n = n} r x l q) = told-call g {n = decoded n} (host-told r) _ _ (submit-step (decoded m) _ _ _ (x.ran l q).post)
host-told {g} (returns {m = m} r x l q) = told-call g (host-told r) _ _ (return-step (decoded m) _ _ _ (x.ran l q).post)
host-told {g} (invalidates {m = m} r x l q) = told-call g (host-told r) _ _ (invalidate-step (decoded m) _ _ (x.ran l q).post)
host-told {g} (applies {m = m} {t₀ = t₀} r x l q) = told-call g (host-told r) _ _ (block-step (decoded m) (stats_of t₀) _ _ _ (x.ran l q).post)
host-told {g} (opens {m = m} r x l q) = told-call g (host-told r) _ _ (open_step (decoded m) _ _ _ (x.ran l q).post)
host-told {g} (nexts {m = m} r x l q) = told-call g (host-told r) _ _ (next-step (decoded m) (x.ran l q).post)
host-told {g} (answers {m = m} r x l q) = told-call g (host-told r) _ _ (answer-step (decoded m) _ _ (x.ran l q).post)
host-told {g} {h} (submits-few {m = m} r x q) = let l = host-long r in subst (λ (k : HostMoment). Told g h (decoded k)) (sym (submit-same m l x q)) (host-told r)
host-told {g} {h} (returns-few {m = m} r x q) = let l = host-long r in subst (λ (k : HostMoment). Told g h (decoded k)) (sym (return-same m l x q)) (host-told r)
host-told {g} {h} (invalidates-few {m = m} r x q) = let l = host-long r in subst (λ (k : HostMoment). Told g h (decoded k)) (sym (three m l (x.short l q).words)) (host-told r)
host-told {g} {h} (applies-few {m = m} r x q) = let l = host-long r in subst (λ (k : HostMoment). Told g h (decoded k)) (sym (block_same m l x q)) (host-told r)
host-told {g} {h} (opens-few {m = m} r x q) = let l = host-long r in subst (λ (k : HostMoment). Told g h (decoded k)) (sym (one m l (x.short l q).words)) (host-told r)
host-told {g} {h} (nexts-few {m = m} r x q) = let l = host-long r in subst (λ (k : HostMoment). Told g h (decoded k)) (sym (one m l (x.short l q).words)) (host-told r)
host-told {g} {h} (answers-few {m = m} r x q) = let l = host-long r in subst (λ (k : HostMoment). Told g h (decoded k)) (sym (three m l (x.short l q).words)) (host-told r)
host-told {g} {h} (starts-not {m = m} r x z) =
    subst (λ (s : List ℕ). Told g h (decoded (held m.entries m.boxes m.cache m.peers s))) (sym (start-kept x z)) (host-told r)

-- ---- demand 3

pub host-demand3 : {g : MempoolConfig} {h : List Heard} {m : HostMoment} → HostRun g h m → Demand3 g h (decoded m)
host-demand3 {g} {h} {m} r = told-demand3 g h (decoded m) (host-told r)
