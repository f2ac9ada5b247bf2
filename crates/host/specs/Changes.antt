-- What the exported calls beside a submission leave, by the words of the C side: a return, an invalidation and a block. As for a submission, an
-- outcome stands behind the number, and with it and the state that the words now hold the call's own contract is met.
use Rattle.std.specs.Prelude.{Result}
use Rattle.pool_types.specs.declared.Refusal.{Refusal}
use Rattle.std.specs.Prelude.{None}
use Rattle.std.specs.Prelude.{ℕ, ◌/◌, ◌≤◌, ◌<◌, ◌≡◌, refl, Bool, true, false, List, [], ◌∷◌, length, get_or}
use Rattle.std.proofs.Common.{sym, ap, ◌∙◌, arith}
use Rattle.words.specs.Lists.{pick}
use Rattle.words.specs.Ids.{words_at}
use Rattle.pool_types.specs.declared.Mempool.{Mempool}
use Rattle.pool_types.specs.declared.Source.TheVariants.{Peer}
use Rattle.pool_types.specs.Outcomes.{refused, wrote, done_of, listed_of}
use Rattle.stats.specs.declared.FeeStats.{FeeStats}
use Rattle.peers.specs.declared.PeerRecord.{PeerRecord}
use Rattle.entries.specs.Layout.{cost_of}
use Rattle.pool.specs.Pool.{fits_test}
use Rattle.store.specs.Fits.{cache_fits}
use Rattle.store.specs.Spares.{Spares, lent}
use Rattle.returns.specs.Promises.{ReturnPromise, InvalidatePromise}
use Rattle.returns.specs.Numbers.{of_return, of_invalidation}
use Rattle.returns.specs.declared.UnconfirmedTx.{UnconfirmedTx}
use Rattle.pool_types.specs.declared.Done.{Done}
use Rattle.blocks.specs.Post.{BlockPromise}
use Rattle.blocks.specs.Numbers.{of_block}
use Rattle.blocks.specs.declared.Applied.{Applied}
use Rattle.host.specs.State.{low_half, pass_of, state_of, source_of, left_words, left-held}
use Rattle.host.specs.Statistics.{stats_of, Restored, same-stats}
use Rattle.host.specs.Codes.{code_of, result_of}
use Rattle.host.specs.Results.{filled, lacking, Says}
use Rattle.host.specs.Spared.{Changed, changed, left-spares}

-- ---- a transaction that is given back: 13 words

unfoldable pub tx_of : List ℕ → UnconfirmedTx
tx_of l =
    record {
      id = words_at l 0;
      fee = get_or l 4 0;
      size = get_or l 5 0;
      cost = low_half (get_or l 6 0);
      validation_cost = cost_of (get_or l 7 0) (get_or l 8 0);
      created = get_or l 9 0;
      last_checked = get_or l 10 0;
      source = source_of (get_or l 11 0) (get_or l 12 0);
    }

-- each word where it belongs; a cost keeps its low half, and 0 is unmeasured
given_back : tx_of (1 ∷ 2 ∷ 3 ∷ 4 ∷ 5 ∷ 300 ∷ 4294967303 ∷ 0 ∷ 9 ∷ 10 ∷ 11 ∷ 1 ∷ 42 ∷ [])
    ≡ record { id = record { a = 1; b = 2; c = 3; d = 4 }; fee = 5; size = 300; cost = 7; validation_cost = None; created = 10; last_checked = 11; source = Peer 42 }
unfolding tx_of
given_back = refl

-- ---- too few words

-- they are refused with n, which the result record says where there is one, and no word of the call's slices, which were `was` and are `are`, is another
pub record Idle (n code : ℕ) (r₀ r : List ℕ) (was are : List (List ℕ)) : Type 0 where
  pub answered : code ≡ n
  pub result : r ≡ filled r₀ (result_of (refused n 0))
  pub words : are ≡ was

pub idle : {n m code : ℕ} {r₀ r : List ℕ} (l : List (List ℕ)) → m ≡ n → Says r₀ r (refused m 0) code → Idle n code r₀ r l l
unfolding code_of
idle {r₀ = r₀} l e c = record { answered = c.answered ∙ e; result = c.result ∙ ap (λ (k : ℕ). filled r₀ (result_of (refused k 0))) e; words = refl }

differ : {A : Type 0} {x : Bool} → x ≡ true → x ≡ false → A
differ p q = let z : ◌≡◌ {A = ℕ} 0 1 = cc in absurd (omega arith)

-- ---- a return

-- what a refusal spares, whatever the words of the cache, the peer records and the answer buffer's words are
abbrev pub ReturnSpares : List ℕ → List ℕ → List ℕ → List ℕ → Mempool → Mempool → (Result Unit Refusal) → Type 0
ReturnSpares e₀ e b₀ b st r o = (k : List ℕ) (ys : List PeerRecord) (a : List ℕ) → Spares (done_of o) (lent e₀ b₀ k ys a st) (lent e b k ys a r)

pub record Returning (e₀ e b₀ b s₀ s r₀ r tx ins outs : List ℕ) (code : ℕ) : Type 0 where
  pub outcome : (Result Unit Refusal)
  pub left : Changed s₀ s r₀ r (done_of outcome) code
  pub ours : of_return outcome ≡ true
  pub post : ReturnPromise e₀ b₀ (state_of s₀) (tx_of tx) ins outs e b (state_of s) (done_of outcome)
  pub spares : ReturnSpares e₀ e b₀ b (state_of s₀) (state_of s) outcome
  pub unfit : fits_test e₀ b₀ (state_of s₀).counts ≡ false → done_of outcome ≡ refused (pick (state_of s₀).pass.«open» 20 1) 0

-- "20 or 21 first": where the state is there, an open pass is named before too few words of a transaction or of a result
pub record ReturnCall (e₀ e b₀ b s₀ s r₀ r tx ins outs : List ℕ) (code : ℕ) : Type 0 where
  pub short_state : length s₀ < 25 → Idle 1 code r₀ r (e₀ ∷ b₀ ∷ s₀ ∷ []) (e ∷ b ∷ s ∷ [])
  pub short : 25 ≤ length s₀ → lacking (length tx) 13 (length r₀) ≡ true → Idle (pick (pass_of s₀).«open» 20 1) code r₀ r (e₀ ∷ b₀ ∷ s₀ ∷ []) (e ∷ b ∷ s ∷ [])
  pub ran : 25 ≤ length s₀ → lacking (length tx) 13 (length r₀) ≡ false → Returning e₀ e b₀ b s₀ s r₀ r tx ins outs code

module _ (e b s r₀ r tx ins outs : List ℕ) {code : ℕ} where
  pub return-few : length s < 25 → Says r₀ r (refused 1 0) code → ReturnCall e e b b s s r₀ r tx ins outs code
  return-few h c = record { short_state = λ _. idle _ refl c; short = λ g _. absurd (omega arith); ran = λ g _. absurd (omega arith) }

  pub return-short : {t : Bool} {n : ℕ} → 25 ≤ length s → t ≡ lacking (length tx) 13 (length r₀) → t ≡ true → n ≡ pick (pass_of s).«open» 20 1 → Says r₀ r (refused n 0) code → ReturnCall e e b b s s r₀ r tx ins outs code
  return-short h q t d c = record { short_state = λ f. absurd (omega arith); short = λ _ _. idle _ d c; ran = λ _ f. differ (sym q ∙ t) f }

-- from what return_to_pool says of the state and the transaction that were read
module _ (e₀ e b₀ b s₀ s r₀ r' tx ins outs : List ℕ) {t : Bool} {st : Mempool} {u : UnconfirmedTx} (r : Done (Result Unit Refusal)) (h : 25 ≤ length s₀) (g : t ≡ lacking (length tx) 13 (length r₀)) (g' : t ≡ false) (f : st ≡ state_of s₀) (d : u ≡ tx_of tx)
    (p : ReturnPromise e₀ b₀ st u ins outs e b r.mempool (done_of r.outcome))
    (v : ReturnSpares e₀ e b₀ b st r.mempool r.outcome)
    (x : fits_test e₀ b₀ st.counts ≡ false → done_of r.outcome ≡ refused (pick st.pass.«open» 20 1) 0)
    (q : s ≡ left_words s₀ r.mempool.counts r.mempool.cached r.mempool.sums) where
  return-posted : ReturnPromise e₀ b₀ st u ins outs e b (state_of s) (done_of r.outcome)
  return-posted k ys z = let t = p k ys z in rw (left-held s₀ s st r.mempool h f q t.config t.pass) t

  pub return-words : {code : ℕ} → of_return r.outcome ≡ true → Says r₀ r' (done_of r.outcome) code → ReturnCall e₀ e b₀ b s₀ s r₀ r' tx ins outs code
  return-words o c =
      record {
        short_state = λ z. absurd (omega arith);
        short = λ _ z. differ z (sym g ∙ g');
        ran =
            λ _ _.
            record {
              outcome = r.outcome;
              left = changed s₀ s r.mempool h q (done_of r.outcome) c;
              ours = o;
              post = rw (← f, ← d) return-posted;
              spares = λ k ys a. left-spares s₀ s r.mempool h q f (v k ys a);
              unfit = rw (← f) x;
            };
      }

-- ---- an invalidation

abbrev pub InvalidateSpares : List ℕ → List ℕ → List ℕ → List ℕ → List ℕ → List ℕ → Mempool → Mempool → (Result Unit Refusal) → Type 0
InvalidateSpares e₀ e b₀ b k₀ k st r o = (ys : List PeerRecord) (a : List ℕ) → Spares (done_of o) (lent e₀ b₀ k₀ ys a st) (lent e b k ys a r)

pub record Invalidating (e₀ e b₀ b k₀ k s₀ s r₀ r : List ℕ) (time id code : ℕ) : Type 0 where
  pub outcome : (Result Unit Refusal)
  pub left : Changed s₀ s r₀ r (done_of outcome) code
  pub ours : of_invalidation outcome ≡ true
  pub post : InvalidatePromise e₀ b₀ k₀ (state_of s₀) time id e b k (state_of s) (done_of outcome)
  pub spares : InvalidateSpares e₀ e b₀ b k₀ k (state_of s₀) (state_of s) outcome
  pub unfit : cache_fits e₀ b₀ k₀ (state_of s₀) ≡ false → done_of outcome ≡ refused (pick (state_of s₀).pass.«open» 20 1) 0

pub record InvalidateCall (e₀ e b₀ b k₀ k s₀ s r₀ r : List ℕ) (time id code : ℕ) : Type 0 where
  pub short_state : length s₀ < 25 → Idle 1 code r₀ r (e₀ ∷ b₀ ∷ k₀ ∷ s₀ ∷ []) (e ∷ b ∷ k ∷ s ∷ [])
  pub short : 25 ≤ length s₀ → length r₀ < 16 → Idle (pick (pass_of s₀).«open» 20 1) code r₀ r (e₀ ∷ b₀ ∷ k₀ ∷ s₀ ∷ []) (e ∷ b ∷ k ∷ s ∷ [])
  pub ran : 25 ≤ length s₀ → 16 ≤ length r₀ → Invalidating e₀ e b₀ b k₀ k s₀ s r₀ r time id code

module _ (e b k s r₀ r : List ℕ) (time id : ℕ) {code : ℕ} where
  pub invalidate-few : length s < 25 → Says r₀ r (refused 1 0) code → InvalidateCall e e b b k k s s r₀ r time id code
  invalidate-few h c = record { short_state = λ _. idle _ refl c; short = λ g _. absurd (omega arith); ran = λ g _. absurd (omega arith) }

  pub invalidate-short : {n : ℕ} → 25 ≤ length s → length r₀ < 16 → n ≡ pick (pass_of s).«open» 20 1 → Says r₀ r (refused n 0) code → InvalidateCall e e b b k k s s r₀ r time id code
  invalidate-short h g d c = record { short_state = λ f. absurd (omega arith); short = λ _ _. idle _ d c; ran = λ _ f. absurd (omega arith) }

module _ (e₀ e b₀ b k₀ k s₀ s r₀ r' : List ℕ) (time id : ℕ) {st : Mempool} (r : Done (Result Unit Refusal)) (h : 25 ≤ length s₀) (g : 16 ≤ length r₀) (f : st ≡ state_of s₀)
    (p : InvalidatePromise e₀ b₀ k₀ st time id e b k r.mempool (done_of r.outcome))
    (v : InvalidateSpares e₀ e b₀ b k₀ k st r.mempool r.outcome)
    (x : cache_fits e₀ b₀ k₀ st ≡ false → done_of r.outcome ≡ refused (pick st.pass.«open» 20 1) 0)
    (q : s ≡ left_words s₀ r.mempool.counts r.mempool.cached r.mempool.sums) where
  invalidate-posted : InvalidatePromise e₀ b₀ k₀ st time id e b k (state_of s) (done_of r.outcome)
  invalidate-posted ys z = let t = p ys z in rw (left-held s₀ s st r.mempool h f q t.config t.pass) t

  pub invalidate-words : {code : ℕ} → of_invalidation r.outcome ≡ true → Says r₀ r' (done_of r.outcome) code → InvalidateCall e₀ e b₀ b k₀ k s₀ s r₀ r' time id code
  invalidate-words o c =
      record {
        short_state = λ z. absurd (omega arith);
        short = λ _ z. absurd (omega arith);
        ran =
            λ _ _.
            record {
              outcome = r.outcome;
              left = changed s₀ s r.mempool h q (done_of r.outcome) c;
              ours = o;
              post = rw (← f) invalidate-posted;
              spares = λ ys a. left-spares s₀ s r.mempool h q f (v ys a);
              unfit = rw (← f) x;
            };
      }

-- ---- a block: t₀ were the words of the statistics, and t they are

abbrev pub BlockSpares : List ℕ → List ℕ → List ℕ → List ℕ → List ℕ → List ℕ → List ℕ → List ℕ → Mempool → Mempool → (Result ℕ Refusal) → Type 0
BlockSpares e₀ e b₀ b k₀ k a₀ a st r o = (ys : List PeerRecord) → Spares (listed_of o) (lent e₀ b₀ k₀ ys a₀ st) (lent e b k ys a r)

pub record Blocking (e₀ e b₀ b k₀ k a₀ a s₀ s t₀ t r₀ r : List ℕ) (time : ℕ) (txs ins : List ℕ) (code : ℕ) : Type 0 where
  pub outcome : (Result ℕ Refusal)
  pub left : Changed s₀ s r₀ r (listed_of outcome) code
  pub ours : of_block (listed_of outcome) ≡ true
  pub stats : Restored t₀ t (stats_of t)
  pub post : BlockPromise e₀ b₀ k₀ (state_of s₀) (stats_of t₀) time txs ins e b k a₀ a (record { mempool = state_of s; stats = stats_of t; outcome = outcome })
  pub spares : BlockSpares e₀ e b₀ b k₀ k a₀ a (state_of s₀) (state_of s) outcome
  -- a refusal leaves the statistics' words
  pub spared : (j i : ℕ) → listed_of outcome ≡ refused j i → t ≡ t₀
  pub unfit : cache_fits e₀ b₀ k₀ (state_of s₀) ≡ false → listed_of outcome ≡ refused (pick (state_of s₀).pass.«open» 20 1) 0
  pub few : (n : ℕ) → listed_of outcome ≡ wrote n → n ≤ length a₀ / 4

-- .. and before too few words of statistics
pub record BlockCall (e₀ e b₀ b k₀ k a₀ a s₀ s t₀ t r₀ r : List ℕ) (time : ℕ) (txs ins : List ℕ) (code : ℕ) : Type 0 where
  pub short_state : length s₀ < 25 → Idle 1 code r₀ r (e₀ ∷ b₀ ∷ k₀ ∷ a₀ ∷ s₀ ∷ t₀ ∷ []) (e ∷ b ∷ k ∷ a ∷ s ∷ t ∷ [])
  pub short : 25 ≤ length s₀ → lacking (length t₀) 124 (length r₀) ≡ true → Idle (pick (pass_of s₀).«open» 20 1) code r₀ r (e₀ ∷ b₀ ∷ k₀ ∷ a₀ ∷ s₀ ∷ t₀ ∷ []) (e ∷ b ∷ k ∷ a ∷ s ∷ t ∷ [])
  pub ran : 25 ≤ length s₀ → lacking (length t₀) 124 (length r₀) ≡ false → Blocking e₀ e b₀ b k₀ k a₀ a s₀ s t₀ t r₀ r time txs ins code

module _ (e b k a s t r₀ r : List ℕ) (time : ℕ) (txs ins : List ℕ) {code : ℕ} where
  pub block-few : length s < 25 → Says r₀ r (refused 1 0) code → BlockCall e e b b k k a a s s t t r₀ r time txs ins code
  block-few h c = record { short_state = λ _. idle _ refl c; short = λ g _. absurd (omega arith); ran = λ g _. absurd (omega arith) }

  pub block-short : {x : Bool} {n : ℕ} → 25 ≤ length s → x ≡ lacking (length t) 124 (length r₀) → x ≡ true → n ≡ pick (pass_of s).«open» 20 1 → Says r₀ r (refused n 0) code
      → BlockCall e e b b k k a a s s t t r₀ r time txs ins code
  block-short h q x d c = record { short_state = λ f. absurd (omega arith); short = λ _ _. idle _ d c; ran = λ _ f. differ (sym q ∙ x) f }

pub block-ran : {e₀ e b₀ b k₀ k a₀ a s₀ s t₀ t r₀ r : List ℕ} {time : ℕ} {txs ins : List ℕ} {x : Bool} {code : ℕ} → 25 ≤ length s₀ → x ≡ lacking (length t₀) 124 (length r₀) → x ≡ false
    → Blocking e₀ e b₀ b k₀ k a₀ a s₀ s t₀ t r₀ r time txs ins code → BlockCall e₀ e b₀ b k₀ k a₀ a s₀ s t₀ t r₀ r time txs ins code
block-ran h q x b = record { short_state = λ f. absurd (omega arith); short = λ _ f. differ f (sym q ∙ x); ran = λ _ _. b }

module _ (e₀ e b₀ b k₀ k a₀ a s₀ s t₀ t r₀ r' : List ℕ) (time : ℕ) (txs ins : List ℕ) {st : Mempool} {v : FeeStats} (r : Applied) (h : 25 ≤ length s₀) (g : 124 ≤ length t₀) (f : st ≡ state_of s₀) (d : v ≡ stats_of t₀)
    (p : BlockPromise e₀ b₀ k₀ st v time txs ins e b k a₀ a r)
    (x : BlockSpares e₀ e b₀ b k₀ k a₀ a st r.mempool r.outcome)
    (z : (j i : ℕ) → listed_of r.outcome ≡ refused j i → r.stats ≡ v)
    (u : cache_fits e₀ b₀ k₀ st ≡ false → listed_of r.outcome ≡ refused (pick st.pass.«open» 20 1) 0)
    (m : (n : ℕ) → listed_of r.outcome ≡ wrote n → n ≤ length a₀ / 4)
    (y : Restored t₀ t r.stats)
    (q : s ≡ left_words s₀ r.mempool.counts r.mempool.cached r.mempool.sums) where
  -- what was handed back is what the words hold
  handed : r.mempool.config ≡ st.config → r.mempool.pass ≡ st.pass → r ≡ record { mempool = state_of s; stats = stats_of t; outcome = r.outcome }
  handed c w = λ i. record { mempool = sym (left-held s₀ s st r.mempool h f q c w) i; stats = sym y.stats i; outcome = r.outcome }

  block-posted : BlockPromise e₀ b₀ k₀ st v time txs ins e b k a₀ a (record { mempool = state_of s; stats = stats_of t; outcome = r.outcome })
  block-posted ys c = let w = p ys c in rw (← handed w.config w.pass) w

  pub block_words : {code : ℕ} → of_block (listed_of r.outcome) ≡ true → Says r₀ r' (listed_of r.outcome) code → Blocking e₀ e b₀ b k₀ k a₀ a s₀ s t₀ t r₀ r' time txs ins code
  block_words o c =
      record {
        outcome = r.outcome;
        left = changed s₀ s r.mempool h q (listed_of r.outcome) c;
        ours = o;
        stats = record { kept = y.kept; stats = refl; rest = y.rest };
        post = rw (← f, ← d) block-posted;
        spares = λ ys. left-spares s₀ s r.mempool h q f (x ys);
        spared = λ j i l. same-stats t₀ t g y.kept (y.stats ∙ z j i l ∙ d) y.rest;
        unfit = rw (← f) u;
        few = m;
      }
