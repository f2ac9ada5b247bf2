-- What an exported start leaves: the answer of start to the settings, the words of an empty pool, and empty statistics.
use Rattle.pool_types.specs.declared.Refusal.TheVariants.{Settings}
use Rattle.std.specs.Prelude.{Err, Ok, Result}
use Rattle.pool_types.specs.declared.Refusal.{Refusal}
use Rattle.pool_types.specs.Refusals.{refusal_number}
use Rattle.std.specs.Prelude.{ℕ, ◌+◌, ◌≤◌, ◌<◌, ◌≡◌, Bool, List, [], ◌∷◌, get_or, set}
use Rattle.std.proofs.Math.Path.{refl}
use Rattle.std.proofs.Common.{sym, ap, ◌∙◌, arith, length-set, get_or-set_same, get_or-set_other}
use Rattle.std.proofs.Math.Bool.{true, false}
use Rattle.std.proofs.Math.Decide.{ℕ_discrete}
use Rattle.std.proofs.Math.Dec.{ltb}
use Rattle.std.proofs.Math.ListN.{length}
use borrow.Author.Tests.{ltb-false, lt-ltb, le-ltb}
use Rattle.words.specs.Lists.{pick}
use Rattle.pool_types.specs.declared.Mempool.{Mempool}
use Rattle.pool_types.specs.declared.MempoolConfig.{MempoolConfig}
use Rattle.pool_types.specs.Outcomes.{done, refused}
use Rattle.stats.specs.Stats.{fresh}
use Rattle.stats.specs.declared.FeeStats.{FeeStats}
use Rattle.arguments.specs.Arguments.{flagged}
use Rattle.entries.specs.Layout.{entries_room}
use Rattle.boxes.specs.Layout.{boxes_room}
use Rattle.expiring_cache.specs.Layout.{cache_room}
use Rattle.mempool.specs.Start.{Sizes, sizes, sized, settled, empty, started}
use Rattle.host.specs.Host.{strategy_of}
use Rattle.host.specs.State.{low_half, config_of, counts_of, sums_of, pass_of, state_of}
use Rattle.host.specs.Statistics.{Restored}
use Rattle.host.specs.Codes.{code_of, result_of}
use Rattle.host.specs.Results.{filled, lacking, lacks-none, Says}
use Rattle.host.specs.Changes.{Idle, idle}

-- a word of an empty pool's state: its setting, or 0
abbrev pub first_word : List ℕ → ℕ → ℕ
first_word g i = pick (ltb i 9) (get_or g i 0) 0

-- the words were l and are m: an empty pool under the settings g, and those behind as they were
pub record Begun (g l m : List ℕ) : Type 0 where
  pub kept : length m ≡ length l
  pub words : (i : ℕ) → i < 25 → get_or m i 0 ≡ first_word g i
  pub behind : (i : ℕ) → 25 ≤ i → get_or m i 0 ≡ get_or l i 0

pub begun-state : (g l m : List ℕ) → Begun g l m → state_of m ≡ empty (config_of g)
unfolding state_of config_of counts_of sums_of pass_of empty
begun-state g l m b =
    λ t.
    record {
      config =
          record {
            capacity = b.words 0 (omega arith) t;
            min_fee = b.words 1 (omega arith) t;
            fee_strategy = strategy_of (b.words 2 (omega arith) t);
            cleanup_interval = b.words 3 (omega arith) t;
            rebroadcast_count = b.words 4 (omega arith) t;
            invalidation_ttl = b.words 5 (omega arith) t;
            invalidation_capacity = b.words 6 (omega arith) t;
            cost_per_block = b.words 7 (omega arith) t;
            cost_per_peer_per_block = b.words 8 (omega arith) t;
          };
      counts = record { pooled = b.words 9 (omega arith) t; records = b.words 10 (omega arith) t };
      cached = b.words 11 (omega arith) t;
      sums = record { interblock_cost = b.words 12 (omega arith) t; peers = b.words 13 (omega arith) t };
      pass =
          record {
            «open» = flagged (b.words 14 (omega arith) t);
            out = flagged (b.words 15 (omega arith) t);
            candidate = record { a = b.words 16 (omega arith) t; b = b.words 17 (omega arith) t; c = b.words 18 (omega arith) t; d = b.words 19 (omega arith) t };
            time = b.words 20 (omega arith) t;
            limit = b.words 21 (omega arith) t;
            preheader = low_half (b.words 22 (omega arith) t);
            spent = b.words 23 (omega arith) t;
          };
    }

-- ---- word by word: those before i are an empty pool's

pub record Beginning (g l₀ l : List ℕ) (i : ℕ) : Type 0 where
  pub kept : length l ≡ length l₀
  pub words : (j : ℕ) → j < i → get_or l j 0 ≡ first_word g j
  pub behind : (j : ℕ) → i ≤ j → get_or l j 0 ≡ get_or l₀ j 0

pub beginning-none : (g l : List ℕ) → Beginning g l l 0
beginning-none g l = record { kept = refl; words = λ j a. absurd (omega arith); behind = λ j a. refl }

pub beginning-more : (g l₀ l : List ℕ) (i : ℕ) {v : ℕ} → i < length l → v ≡ first_word g i → Beginning g l₀ l i → Beginning g l₀ (set l i v) (i + 1)
beginning-more g l₀ l i {v} room q c =
    record {
      kept = length-set l i v ∙ c.kept;
      words = λ j a. go j a (ℕ_discrete j i);
      behind = λ j a. get_or-set_other l i j v 0 (λ e. omega (arith, e)) ∙ c.behind j (omega arith);
    }
  where
    go : (j : ℕ) → j < i + 1 → Dec (j ≡ i) → get_or (set l i v) j 0 ≡ first_word g j
    go j a (yes e) = ap (λ (k : ℕ). get_or (set l i v) k 0) e ∙ get_or-set_same l i v 0 room ∙ q ∙ ap (first_word g) (sym e)
    go j a (no e) = get_or-set_other l i j v 0 e ∙ c.words j (omega (arith, e))

pub beginning-all : (g l₀ l : List ℕ) (i : ℕ) → i ≡ 25 → Beginning g l₀ l i → Begun g l₀ l
beginning-all g l₀ l i e c = record { kept = c.kept; words = λ j a. c.words j (omega arith); behind = λ j a. c.behind j (omega arith) }

-- ---- the call: t₀ and s₀ were the words of statistics and state, t and s they are

-- by what start answers: ready is 0, and a refusal's number stands for itself and changes nothing but the result
pub record Emptied (st : Mempool) (time : ℕ) (g t₀ t s₀ s r₀ r : List ℕ) (code : ℕ) : Type 0 where
  pub answered : code ≡ 0
  pub result : r ≡ filled r₀ (result_of done)
  pub state : state_of s ≡ st
  pub words : Begun g s₀ s
  pub stats : Restored t₀ t (fresh time)

unfoldable pub Answered : Result Mempool Refusal → ℕ → List ℕ → List ℕ → List ℕ → List ℕ → List ℕ → List ℕ → List ℕ → ℕ → Type 0
Answered (Ok st) time g t₀ t s₀ s r₀ r code = Emptied st time g t₀ t s₀ s r₀ r code
Answered (Err n) time g t₀ t s₀ s r₀ r code = Idle (refusal_number n) code r₀ r (t₀ ∷ s₀ ∷ []) (t ∷ s ∷ [])

-- the sizes of the lent words, and how many peer records are lent
abbrev pub sizes_of : List ℕ → List ℕ → List ℕ → ℕ → Sizes
sizes_of e b k p = sizes (entries_room e) (boxes_room b) (cache_room k) p

-- too few words of settings, state, statistics or result
unfoldable pub scant : List ℕ → List ℕ → List ℕ → List ℕ → Bool
scant g t s r = pick (ltb (length g) 9) true (pick (ltb (length s) 25) true (lacking (length t) 124 (length r)))

-- .. are refused with 1
pub record Started (time : ℕ) (g e b k : List ℕ) (p : ℕ) (t₀ t s₀ s r₀ r : List ℕ) (code : ℕ) : Type 0 where
  pub short : scant g t₀ s₀ r₀ ≡ true → Idle 1 code r₀ r (t₀ ∷ s₀ ∷ []) (t ∷ s ∷ [])
  pub begun : scant g t₀ s₀ r₀ ≡ false → Answered (started (sizes_of e b k p) (config_of g)) time g t₀ t s₀ s r₀ r code

-- a start that is ready hands back the empty state
ready-empty : (z : Sizes) (c : MempoolConfig) (st : Mempool) → started z c ≡ Ok st → empty c ≡ st
unfolding started
ready-empty z c st q = go (sized z) (settled z c) q
  where
    differ : (f : Refusal) → Err f ≡ Ok st → ⊥
    differ f e = let x : ◌≡◌ {A = ℕ} 0 1 = cc in omega arith

    go : (a b : Bool) → pick a (pick b (Ok (empty c)) (Err Settings)) (Err Settings) ≡ Ok st → empty c ≡ st
    go true true e = cc
    go true false e = absurd (differ Settings e)
    go false b e = absurd (differ Settings e)

differ : {A : Type 0} {x : Bool} → x ≡ true → x ≡ false → A
differ p q = let z : ◌≡◌ {A = ℕ} 0 1 = cc in absurd (omega arith)

-- test by test
module _ (g t s r : List ℕ) where
  pub scant-settings : length g < 9 → true ≡ scant g t s r
  unfolding scant
  scant-settings h = rw (lt-ltb _ _ h)

  pub scant-state : 9 ≤ length g → length s < 25 → true ≡ scant g t s r
  unfolding scant
  scant-state h k = rw (le-ltb _ _ h, lt-ltb _ _ k)

  pub scant-rest : {x : Bool} → 9 ≤ length g → 25 ≤ length s → x ≡ lacking (length t) 124 (length r) → x ≡ scant g t s r
  unfolding scant
  scant-rest h k q = q ∙ rw (le-ltb _ _ h, le-ltb _ _ k)

  -- nothing is missing
  pub scant-none : scant g t s r ≡ false → (9 ≤ length g) × (25 ≤ length s) × (124 ≤ length t)
  unfolding scant
  scant-none q = go (ltb (length g) 9) (ltb (length s) 25) refl refl q
    where
      go : (x y : Bool) → ltb (length g) 9 ≡ x → ltb (length s) 25 ≡ y → pick x true (pick y true (lacking (length t) 124 (length r))) ≡ false → (9 ≤ length g) × (25 ≤ length s) × (124 ≤ length t)
      go true y a b c = differ refl c
      go false true a b c = differ refl c
      go false false a b c = (ltb-false (length g) 9 a, ltb-false (length s) 25 b, (lacks-none (length t) 124 (length r) c).0)

module _ (time : ℕ) (g e b k : List ℕ) (p : ℕ) (t₀ s₀ r₀ r : List ℕ) {x : Bool} {code : ℕ} (h : x ≡ scant g t₀ s₀ r₀) where
  pub start-short : x ≡ true → Says r₀ r (refused 1 0) code → Started time g e b k p t₀ t₀ s₀ s₀ r₀ r code
  start-short q c = record { short = λ _. idle _ refl c; begun = λ f. differ (sym h ∙ q) f }

  module _ (q : x ≡ false) {c : MempoolConfig} {o : Result Mempool Refusal} (f : c ≡ config_of g) (z : o ≡ started (sizes_of e b k p) c) where
    pub start-ready : (t s : List ℕ) {v : FeeStats} (st : Mempool) → o ≡ Ok st → Begun g s₀ s → v ≡ fresh time → Restored t₀ t v → Says r₀ r done code → Started time g e b k p t₀ t s₀ s r₀ r code
    unfolding Answered code_of
    start-ready t s st d m n y w =
        record {
          short = λ u. differ u (sym h ∙ q);
          begun =
              λ _.
              rw (← f, ← z, d)
              (record { answered = w.answered; result = w.result; state = begun-state g s₀ s m ∙ rw (← f) (ready-empty (sizes_of e b k p) c st (sym z ∙ d)); words = m; stats = rw (← n) y });
        }

    pub start-refused : (why : Refusal) → o ≡ Err why → Says r₀ r (refused (refusal_number why) 0) code → Started time g e b k p t₀ t₀ s₀ s₀ r₀ r code
    unfolding Answered
    start-refused why d w = record { short = λ u. differ u (sym h ∙ q); begun = λ _. rw (← f, ← z, d) (idle _ refl w) }
