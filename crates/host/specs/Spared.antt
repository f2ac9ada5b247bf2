-- What a changing call leaves in the state's words, and what a refusal spares there: "Unless said, nothing changes". What the wrapped call says of the
-- state that it was handed holds of the state that the words now hold.
use Rattle.std.specs.Prelude.{ℕ, ◌≤◌, ◌≡◌, false, List, length, get_or}
use Rattle.std.proofs.Common.{sym, ◌∙◌}
use Rattle.std.proofs.Math.Path.{ap}
use Rattle.pool_types.specs.declared.Mempool.{Mempool}
use Rattle.pool_types.specs.Outcomes.{Outcome}
use Rattle.peers.specs.declared.PeerRecord.{PeerRecord}
use Rattle.store.specs.Spares.{Lent, lent, Spares}
use Rattle.host.specs.State.{config_of, counts_of, sums_of, pass_of, state_of, changing, left_words, left-length, left-same, left-state, left-others, left-held}
use Rattle.host.specs.Stored.{Stored, stored-held}
use Rattle.host.specs.Codes.{code_of, result_of}
use Rattle.host.specs.Results.{filled, Says}

-- ---- a submission, a return, an invalidation and a block

-- the outcome is answered, by its number and in the result record; the settings and the pass are as they were, and where the state is what it was, so
-- is every word
pub record Changed (s₀ s r₀ r : List ℕ) (o : Outcome) (code : ℕ) : Type 0 where
  pub answered : code ≡ code_of o
  pub result : r ≡ filled r₀ (result_of o)
  pub kept : length s ≡ length s₀
  pub others : (i : ℕ) → changing i ≡ false → get_or s i 0 ≡ get_or s₀ i 0
  pub spared : state_of s ≡ state_of s₀ → s ≡ s₀

-- the state r was handed back from st, and stored
module _ (s₀ s : List ℕ) (r : Mempool) (h : 25 ≤ length s₀) (q : s ≡ left_words s₀ r.counts r.cached r.sums) where
  still : length s ≡ length s₀
  still = ap length q ∙ left-length s₀ r.counts r.cached r.sums

  others : (i : ℕ) → changing i ≡ false → get_or s i 0 ≡ get_or s₀ i 0
  others i z = ap (λ (l : List ℕ). get_or l i 0) q ∙ left-others s₀ r.counts r.cached r.sums h i z

  -- what is stored of r is what was there
  as-was : state_of s ≡ state_of s₀ → record { config = config_of s₀; counts = r.counts; cached = r.cached; sums = r.sums; pass = pass_of s₀ } ≡ state_of s₀
  as-was z = sym (left-state s₀ r.counts r.cached r.sums h) ∙ sym (ap state_of q) ∙ z

  counts_same : state_of s ≡ state_of s₀ → r.counts ≡ counts_of s₀
  unfolding state_of
  counts_same z = ap (λ (m : Mempool). m.counts) (as-was z)

  cached-same : state_of s ≡ state_of s₀ → r.cached ≡ get_or s₀ 11 0
  unfolding state_of
  cached-same z = ap (λ (m : Mempool). m.cached) (as-was z)

  sums_same : state_of s ≡ state_of s₀ → r.sums ≡ sums_of s₀
  unfolding state_of
  sums_same z = ap (λ (m : Mempool). m.sums) (as-was z)

  pub changed : {r₀ r' : List ℕ} {code : ℕ} (o : Outcome) → Says r₀ r' o code → Changed s₀ s r₀ r' o code
  changed o c =
      record {
        answered = c.answered;
        result = c.result;
        kept = still;
        others = others;
        spared = λ z. q ∙ left-same s₀ r.counts r.cached r.sums h (counts_same z) (cached-same z) (sums_same z);
      }

  pub left-spares : {st : Mempool} → st ≡ state_of s₀ → {o : Outcome} {e₀ e b₀ b k₀ k : List ℕ} {y₀ y : List PeerRecord} {a₀ a : List ℕ}
      → Spares o (lent e₀ b₀ k₀ y₀ a₀ st) (lent e b k y a r) → Spares o (lent e₀ b₀ k₀ y₀ a₀ (state_of s₀)) (lent e b k y a (state_of s))
  left-spares {st} f x =
      rw (← f)
      (record {
        asked = λ z. let t = x.asked z in rw (left-held s₀ s st r h f q (ap (λ (m : Lent). m.state.config) t) (ap (λ (m : Lent). m.state.pass) t)) t;
        refusal = λ j i z. let t = x.refusal j i z in rw (left-held s₀ s st r h f q t.rest.0 t.rest.1) t;
      })

-- ---- the calls of a pass

pub stored-spares : {s₀ s : List ℕ} {st r : Mempool} → Stored s₀ s r → st ≡ state_of s₀ → {o : Outcome} {e₀ e b₀ b k₀ k : List ℕ} {y₀ y : List PeerRecord} {a₀ a : List ℕ}
    → Spares o (lent e₀ b₀ k₀ y₀ a₀ st) (lent e b k y a r) → Spares o (lent e₀ b₀ k₀ y₀ a₀ (state_of s₀)) (lent e b k y a (state_of s))
stored-spares v f x =
    rw (← f)
    (record {
      asked = λ z. let t = x.asked z in rw (stored-held v f (ap (λ (m : Lent). m.state.config) t)) t;
      refusal = λ j i z. let t = x.refusal j i z in rw (stored-held v f t.rest.0) t;
    })
