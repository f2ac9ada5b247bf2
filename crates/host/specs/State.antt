-- The state and a submission as the C side holds them: words of 64 bits, in the order of the fields. Each struct of crate pool_types has its own
-- decoding. The words 9 to 13 are what a submission changes, 14 to 23 a pass, and word 24 is kept for later.
use Prim.Native.Nat.{ℕ, ◌%◌, ◌≤◌, ◌<◌}
use Rattle.std.specs.Prelude.{◌≡◌, refl, Bool, true, false, not, eqb, length, get_or}
use Rattle.std.proofs.Math.Path.{sym, ap}
use Rattle.std.proofs.Common.{◌∙◌, arith, get_or-set_same, get_or-set_other, eq-eqb, ne_eqb}
use mathlib.Core.List.{List, [], ◌∷◌}
use Rattle.std.proofs.Math.Decide.{ℕ_discrete}
use Rattle.std.proofs.Math.ListN.{set, length-set}
use Rattle.std.proofs.lemmas.List.{set_split}
use Rattle.std.proofs.Math.Seq.{split_at}
use Rattle.words.specs.Lists.{pick}
use Rattle.words.specs.Ids.{words_at}
use Rattle.pool_types.specs.declared.Counts.{Counts}
use Rattle.pool_types.specs.declared.Sums.{Sums}
use Rattle.pool_types.specs.declared.Pass.{Pass}
use Rattle.pool_types.specs.declared.FeeStrategy.TheVariants.{FeePerCycle}
use Rattle.pool_types.specs.declared.MempoolConfig.{MempoolConfig}
use Rattle.pool_types.specs.declared.Mempool.{Mempool}
use Rattle.pool_types.specs.declared.Submission.{Submission}
use Rattle.pool_types.specs.declared.Source.{Source}
use Rattle.pool_types.specs.declared.Source.TheVariants.{Local, Peer}
use Rattle.pool_types.specs.declared.Verdict.{Verdict}
use Rattle.pool_types.specs.declared.Verdict.TheVariants.{Valid, Invalid, Absent}
use Rattle.arguments.specs.Arguments.{flagged}
use Rattle.cleanup.specs.Post.{none_out}
use Rattle.host.specs.Host.{strategy_of}

-- a number of 32 bits is the low half of its word
abbrev pub low_half : ℕ → ℕ
low_half w = w % 4294967296

-- ---- the state: 25 words

unfoldable pub config_of : List ℕ → MempoolConfig
config_of l =
    record {
      capacity = get_or l 0 0;
      min_fee = get_or l 1 0;
      fee_strategy = strategy_of (get_or l 2 0);
      cleanup_interval = get_or l 3 0;
      rebroadcast_count = get_or l 4 0;
      invalidation_ttl = get_or l 5 0;
      invalidation_capacity = get_or l 6 0;
      cost_per_block = get_or l 7 0;
      cost_per_peer_per_block = get_or l 8 0;
    }

unfoldable pub counts_of : List ℕ → Counts
counts_of l = record { pooled = get_or l 9 0; records = get_or l 10 0 }

unfoldable pub sums_of : List ℕ → Sums
sums_of l = record { interblock_cost = get_or l 12 0; peers = get_or l 13 0 }

unfoldable pub pass_of : List ℕ → Pass
pass_of l =
    record {
      «open» = flagged (get_or l 14 0);
      out = flagged (get_or l 15 0);
      candidate = words_at l 16;
      time = get_or l 20 0;
      limit = get_or l 21 0;
      preheader = low_half (get_or l 22 0);
      spent = get_or l 23 0;
    }

unfoldable pub state_of : List ℕ → Mempool
state_of l = record { config = config_of l; counts = counts_of l; cached = get_or l 11 0; sums = sums_of l; pass = pass_of l }

-- each word where it belongs; a strategy and a flag are any word but 0, a preheader keeps its low half
in_order_at : state_of (1 ∷ 2 ∷ 3 ∷ 4 ∷ 5 ∷ 6 ∷ 7 ∷ 8 ∷ 9 ∷ 10 ∷ 11 ∷ 12 ∷ 13 ∷ 14 ∷ 15 ∷ 0 ∷ 17 ∷ 18 ∷ 19 ∷ 20 ∷ 21 ∷ 22 ∷ 4294967319 ∷ 24 ∷ 25 ∷ [])
    ≡ record {
      config = record { capacity = 1; min_fee = 2; fee_strategy = FeePerCycle; cleanup_interval = 4; rebroadcast_count = 5; invalidation_ttl = 6; invalidation_capacity = 7; cost_per_block = 8; cost_per_peer_per_block = 9 };
      counts = record { pooled = 10; records = 11 };
      cached = 12;
      sums = record { interblock_cost = 13; peers = 14 };
      pass = record { «open» = true; out = false; candidate = record { a = 17; b = 18; c = 19; d = 20 }; time = 21; limit = 22; preheader = 23; spent = 24 };
    }
unfolding state_of config_of counts_of sums_of pass_of
in_order_at = refl

-- what next names first, of a pass that was read from them, ..
module _ (l : List ℕ) {p : Pass} (e : p ≡ pass_of l) where
  pub next-open : p.«open» ≡ true → ◌≡◌ {A = ℕ} 1 (pick (not (pass_of l).«open») 21 1)
  next-open h = rw (← e, h)

  pub next-closed : p.«open» ≡ false → ◌≡◌ {A = ℕ} 21 (pick (not (pass_of l).«open») 21 1)
  next-closed h = rw (← e, h)

  -- .. and what answer does
  pub answer-out : p.«open» ≡ true → p.out ≡ true → ◌≡◌ {A = ℕ} 1 (pick (none_out (pass_of l)) 21 1)
  answer-out h g = rw (← e, h, g)

  pub answer-none : p.«open» ≡ true → p.out ≡ false → ◌≡◌ {A = ℕ} 21 (pick (none_out (pass_of l)) 21 1)
  answer-none h g = rw (← e, h, g)

  pub answer-closed : p.«open» ≡ false → ◌≡◌ {A = ℕ} 21 (pick (none_out (pass_of l)) 21 1)
  answer-closed h = rw (← e, h)

-- ---- a submission: 11 words

-- 0 is local, any other word a peer
abbrev pub source_of : ℕ → ℕ → Source
source_of kind peer = pick (eqb kind 0) Local (Peer peer)

-- 0 is absent, 1 invalid, any other word valid
abbrev pub verdict_of : ℕ → ℕ → Verdict
verdict_of kind cost = pick (eqb kind 0) Absent (pick (eqb kind 1) Invalid (Valid cost))

unfoldable pub submission_of : List ℕ → Submission
submission_of l =
    record {
      time = get_or l 0 0;
      id = words_at l 1;
      size = get_or l 5 0;
      preheader = low_half (get_or l 6 0);
      source = source_of (get_or l 7 0) (get_or l 8 0);
      verdict = verdict_of (get_or l 9 0) (get_or l 10 0);
    }

-- a submission of every kind of word: a peer is any source but 0, a preheader keeps its low half, a verdict of 2 is valid
by-words : submission_of (7 ∷ 1 ∷ 2 ∷ 3 ∷ 4 ∷ 300 ∷ 4294967299 ∷ 9 ∷ 42 ∷ 2 ∷ 50 ∷ [])
    ≡ record { time = 7; id = record { a = 1; b = 2; c = 3; d = 4 }; size = 300; preheader = 3; source = Peer 42; verdict = Valid 50 }
unfolding submission_of
by-words = refl

-- ---- what a call leaves in the state's words

-- counts, cached and sums are stored; nothing else
unfoldable pub left_words : List ℕ → Counts → ℕ → Sums → List ℕ
left_words l n k s = set (set (set (set (set l 9 n.pooled) 10 n.records) 11 k) 12 s.interblock_cost) 13 s.peers

-- whether a submission may change the word at this index
abbrev pub changing : ℕ → Bool
changing i = pick (eqb i 9) true (pick (eqb i 10) true (pick (eqb i 11) true (pick (eqb i 12) true (eqb i 13))))

-- what stands at an index after one word is stored
put : (l : List ℕ) (p v i : ℕ) → p < length l → get_or (set l p v) i 0 ≡ pick (eqb i p) v (get_or l i 0)
put l p v i h = go (ℕ_discrete i p)
  where
    go : Dec (i ≡ p) → get_or (set l p v) i 0 ≡ pick (eqb i p) v (get_or l i 0)
    go (yes e) = rw (eq-eqb i p e) (ap (λ (j : ℕ). get_or (set l p v) j 0) e ∙ get_or-set_same l p v 0 h)
    go (no e) = rw (ne_eqb i p e) (get_or-set_other l p i v 0 e)

-- a word that is stored where it stands changes nothing
pub set_self : (l : List ℕ) (i : ℕ) → i < length l → set l i (get_or l i 0) ≡ l
set_self l i h = set_split l i (get_or l i 0) h ∙ sym (split_at l i 0 h)

-- all five, in two parts
pub left-parts : (l m o : List ℕ) (n : Counts) (k : ℕ) (s : Sums) (u : ℕ) → m ≡ set (set l 9 n.pooled) 10 n.records → u ≡ k → o ≡ set (set (set m 11 u) 12 s.interblock_cost) 13 s.peers
    → o ≡ left_words l n k s
unfolding left_words
left-parts l m o n k s u p q r = rw (r, p, q)

module _ (l : List ℕ) (n : Counts) (k : ℕ) (s : Sums) where
  pub left-length : length (left_words l n k s) ≡ length l
  unfolding left_words
  left-length = simp length-set

  module _ (h : 25 ≤ length l) where
    left_at : (i : ℕ) → get_or (left_words l n k s) i 0
        ≡ pick (eqb i 13) s.peers (pick (eqb i 12) s.interblock_cost (pick (eqb i 11) k (pick (eqb i 10) n.records (pick (eqb i 9) n.pooled (get_or l i 0)))))
    unfolding left_words
    left_at i =
        let l9 : List ℕ = set l 9 n.pooled in
        let l10 : List ℕ = set l9 10 n.records in
        let l11 : List ℕ = set l10 11 k in
        let l12 : List ℕ = set l11 12 s.interblock_cost in
        put l12 13 s.peers i (simp length-set (omega arith))
        ∙ ap (pick (eqb i 13) s.peers)
        (put l11 12 s.interblock_cost i (simp length-set (omega arith))
        ∙ ap (pick (eqb i 12) s.interblock_cost)
        (put l10 11 k i (simp length-set (omega arith))
        ∙ ap (pick (eqb i 11) k)
        (put l9 10 n.records i (simp length-set (omega arith))
        ∙ ap (pick (eqb i 10) n.records) (put l 9 n.pooled i (omega arith)))))

    -- where they are what they were, so are the words
    pub left-same : n ≡ counts_of l → k ≡ get_or l 11 0 → s ≡ sums_of l → left_words l n k s ≡ l
    unfolding left_words counts_of sums_of
    left-same p q r =
        rw (p, q, r, set_self l 9 (omega arith), set_self l 10 (omega arith), set_self l 11 (omega arith), set_self l 12 (omega arith), set_self l 13 (omega arith))

    pub left-state : state_of (left_words l n k s) ≡ record { config = config_of l; counts = n; cached = k; sums = s; pass = pass_of l }
    unfolding state_of config_of counts_of sums_of pass_of
    left-state = λ t.
        record {
          config =
              record {
                capacity = left_at 0 t;
                min_fee = left_at 1 t;
                fee_strategy = strategy_of (left_at 2 t);
                cleanup_interval = left_at 3 t;
                rebroadcast_count = left_at 4 t;
                invalidation_ttl = left_at 5 t;
                invalidation_capacity = left_at 6 t;
                cost_per_block = left_at 7 t;
                cost_per_peer_per_block = left_at 8 t;
              };
          counts = record { pooled = left_at 9 t; records = left_at 10 t };
          cached = left_at 11 t;
          sums = record { interblock_cost = left_at 12 t; peers = left_at 13 t };
          pass =
              record {
                «open» = flagged (left_at 14 t);
                out = flagged (left_at 15 t);
                candidate = record { a = left_at 16 t; b = left_at 17 t; c = left_at 18 t; d = left_at 19 t };
                time = left_at 20 t;
                limit = left_at 21 t;
                preheader = low_half (left_at 22 t);
                spent = left_at 23 t;
              };
        }

    pub left-others : (i : ℕ) → changing i ≡ false → get_or (left_words l n k s) i 0 ≡ get_or l i 0
    left-others i q = left_at i ∙ go (eqb i 9) (eqb i 10) (eqb i 11) (eqb i 12) (eqb i 13) q
      where
        differ : true ≡ false → ⊥
        differ e = let z : ◌≡◌ {A = ℕ} 0 1 = cc in omega arith

        go : (a b c d e : Bool) → pick a true (pick b true (pick c true (pick d true e))) ≡ false
            → pick e s.peers (pick d s.interblock_cost (pick c k (pick b n.records (pick a n.pooled (get_or l i 0))))) ≡ get_or l i 0
        go true b c d e z = absurd (differ z)
        go false true c d e z = absurd (differ z)
        go false false true d e z = absurd (differ z)
        go false false false true e z = absurd (differ z)
        go false false false false true z = absurd (differ z)
        go false false false false false z = refl

-- from the state st that was read, r was handed back and stored: settings and pass are those that were read
module _ (s₀ s : List ℕ) (st r : Mempool) (h : 25 ≤ length s₀) (e : st ≡ state_of s₀) (q : s ≡ left_words s₀ r.counts r.cached r.sums) where
  pub left-held : r.config ≡ st.config → r.pass ≡ st.pass → state_of s ≡ r
  unfolding state_of
  left-held u v =
      ap state_of q
      ∙ left-state s₀ r.counts r.cached r.sums h
      ∙ λ t. record { config = sym (u ∙ ap (λ (m : Mempool). m.config) e) t; counts = r.counts; cached = r.cached; sums = r.sums; pass = sym (v ∙ ap (λ (m : Mempool). m.pass) e) t }
