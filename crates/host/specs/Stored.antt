-- The whole state, stored: words 9 to 23 as a call of a pass leaves them. What is stored decodes to itself.
use Rattle.std.specs.Prelude.{ℕ, ◌+◌, ◌≤◌, ◌<◌, ◌≡◌, refl, Bool, true, false, not, List, [], ◌∷◌, ◌++◌, eqb, length, get_or, take, drop, set}
use Rattle.std.proofs.Common.{sym, ap, ◌∙◌, append_assoc, arith, length-take, get_or-set_other, take_at, drop_at, get_or-take, get_or-drop, drop-drop, eqb-true, eq-eqb, ne_eqb}
use Rattle.std.proofs.lemmas.List.Edits.{sets, sets-eq}
use Rattle.std.proofs.Math.Seq.{length-sets}
use Rattle.words.specs.Lists.{pick}
use Rattle.pool_types.specs.declared.Pass.{Pass}
use Rattle.pool_types.specs.declared.Mempool.{Mempool}
use Rattle.arguments.specs.Arguments.{flagged}
use Rattle.host.specs.Host.{strategy_of}
use Rattle.host.specs.State.{low_half, config_of, counts_of, sums_of, pass_of, state_of, set_self}

-- a flag's word, and that of a number of 32 bits, where w stood: w stays where it says the same
abbrev pub flag_word : ℕ → Bool → ℕ
flag_word w b = pick b (pick (eqb w 0) 1 w) 0

abbrev pub half_word : ℕ → ℕ → ℕ
half_word w n = pick (eqb (low_half w) n) w n

-- a pass: 10 words, in place of those of l
abbrev pub pass_words : List ℕ → Pass → List ℕ
pass_words l p =
    flag_word (get_or l 14 0) p.«open» ∷ flag_word (get_or l 15 0) p.out ∷ p.candidate.a ∷ p.candidate.b ∷ p.candidate.c ∷ p.candidate.d ∷ p.time ∷ p.limit ∷ half_word (get_or l 22 0) p.preheader ∷ p.spent ∷ []

-- the words 9 to 23
abbrev pub state_words : List ℕ → Mempool → List ℕ
state_words l r =
    r.counts.pooled ∷ r.counts.records ∷ r.cached ∷ r.sums.interblock_cost ∷ r.sums.peers ∷ pass_words l r.pass

-- the words that were l and are m hold the state r under the settings of l; settings and what is behind are as they were
pub record Stored (l m : List ℕ) (r : Mempool) : Type 0 where
  pub state : state_of m ≡ record { config = config_of l; counts = r.counts; cached = r.cached; sums = r.sums; pass = r.pass }
  pub kept : length m ≡ length l
  pub settings : take 9 m ≡ take 9 l
  pub rest : drop 24 m ≡ drop 24 l
  -- where the state is what it was, so is every word
  pub spared : state_of m ≡ state_of l → m ≡ l

-- ---- as the code finds them, case by case

differ : {A : Type 0} → false ≡ true → A
differ e = let z : ◌≡◌ {A = ℕ} 0 1 = cc in absurd (omega arith)

pub flag_off : (w : ℕ) (b : Bool) → not b ≡ true → ◌≡◌ {A = ℕ} 0 (flag_word w b)
flag_off w true h = differ h
flag_off w false h = refl

pub flag-new : (w : ℕ) (b : Bool) → not b ≡ false → w ≡ 0 → ◌≡◌ {A = ℕ} 1 (flag_word w b)
flag-new w true h e = rw (eq-eqb w 0 e)
flag-new w false h e = differ (sym h)

pub flag-stays : (w : ℕ) (b : Bool) → not b ≡ false → (w ≡ 0 → ⊥) → w ≡ flag_word w b
flag-stays w true h e = rw (ne_eqb w 0 e)
flag-stays w false h e = differ (sym h)

module _ (w n : ℕ) {v : ℕ} (q : v ≡ low_half w) where
  pub half-stays : v ≡ n → w ≡ half_word w n
  half-stays e = rw (eq-eqb (low_half w) n (sym q ∙ e))

  pub half-new : (v ≡ n → ⊥) → n ≡ half_word w n
  half-new e = rw (ne_eqb (low_half w) n (λ z. e (q ∙ z)))

-- ---- what they hold

flag-held : (w : ℕ) (b : Bool) → flagged (flag_word w b) ≡ b
flag-held w true = go (eqb w 0) refl
  where
    go : (t : Bool) → eqb w 0 ≡ t → flagged (pick t 1 w) ≡ true
    go true q = refl
    go false q = rw q
flag-held w false = refl

flag_same : (w : ℕ) → flag_word w (flagged w) ≡ w
flag_same w = go (eqb w 0) refl
  where
    go : (t : Bool) → eqb w 0 ≡ t → pick (not t) (pick t 1 w) 0 ≡ w
    go true q = sym (eqb-true w 0 q)
    go false q = refl

half-held : (w n : ℕ) → low_half n ≡ n → low_half (half_word w n) ≡ n
half-held w n h = go (eqb (low_half w) n) refl
  where
    go : (t : Bool) → eqb (low_half w) n ≡ t → low_half (pick t w n) ≡ n
    go true q = eqb-true (low_half w) n q
    go false q = h

half-same : (w : ℕ) → half_word w (low_half w) ≡ w
half-same w = rw (eq-eqb (low_half w) (low_half w) refl)

-- the state that they hold, stored back
same-words : (l : List ℕ) → 25 ≤ length l → sets l 9 (state_words l (state_of l)) ≡ l
unfolding state_of counts_of sums_of pass_of
same-words l h =
    rw (flag_same (get_or l 14 0), flag_same (get_or l 15 0), half-same (get_or l 22 0))
    (rw (
      set_self l 9 (omega arith),
      set_self l 10 (omega arith),
      set_self l 11 (omega arith),
      set_self l 12 (omega arith),
      set_self l 13 (omega arith),
      set_self l 14 (omega arith),
      set_self l 15 (omega arith),
      set_self l 16 (omega arith),
      set_self l 17 (omega arith),
      set_self l 18 (omega arith),
      set_self l 19 (omega arith),
      set_self l 20 (omega arith),
      set_self l 21 (omega arith),
      set_self l 22 (omega arith),
      set_self l 23 (omega arith),
    ))

module _ (l m : List ℕ) (r : Mempool) (h : 25 ≤ length l) (g : low_half r.pass.preheader ≡ r.pass.preheader) (q : m ≡ sets l 9 (state_words l r)) where
  long : length (take 9 l) ≡ 9
  long = length-take 9 l ∙ omega arith

  split : m ≡ take 9 l ++ (state_words l r ++ drop 24 l)
  split = q ∙ sets-eq (state_words l r) l 9 (omega arith) ∙ append_assoc (take 9 l) (state_words l r) (drop 24 l)

  behind : drop 9 m ≡ state_words l r ++ drop 24 l
  behind = ap (drop 9) split ∙ drop_at (take 9 l) _ 9 long

  settings : take 9 m ≡ take 9 l
  settings = ap (take 9) split ∙ take_at (take 9 l) _ 9 long

  front : (i : ℕ) → i < 9 → get_or m i 0 ≡ get_or l i 0
  front i z = sym (get_or-take 9 m i 0 z) ∙ ap (λ (x : List ℕ). get_or x i 0) settings ∙ get_or-take 9 l i 0 z

  word : (j : ℕ) → get_or m (9 + j) 0 ≡ get_or (state_words l r ++ drop 24 l) j 0
  word j = sym (get_or-drop 9 m j 0) ∙ ap (λ (x : List ℕ). get_or x j 0) behind

  holds : state_of m ≡ record { config = config_of l; counts = r.counts; cached = r.cached; sums = r.sums; pass = r.pass }
  unfolding state_of config_of counts_of sums_of pass_of
  holds = λ t.
      record {
        config =
            record {
              capacity = front 0 (omega arith) t;
              min_fee = front 1 (omega arith) t;
              fee_strategy = strategy_of (front 2 (omega arith) t);
              cleanup_interval = front 3 (omega arith) t;
              rebroadcast_count = front 4 (omega arith) t;
              invalidation_ttl = front 5 (omega arith) t;
              invalidation_capacity = front 6 (omega arith) t;
              cost_per_block = front 7 (omega arith) t;
              cost_per_peer_per_block = front 8 (omega arith) t;
            };
        counts = record { pooled = word 0 t; records = word 1 t };
        cached = word 2 t;
        sums = record { interblock_cost = word 3 t; peers = word 4 t };
        pass =
            record {
              «open» = (ap flagged (word 5) ∙ flag-held (get_or l 14 0) r.pass.«open») t;
              out = (ap flagged (word 6) ∙ flag-held (get_or l 15 0) r.pass.out) t;
              candidate = record { a = word 7 t; b = word 8 t; c = word 9 t; d = word 10 t };
              time = word 11 t;
              limit = word 12 t;
              preheader = (ap low_half (word 13) ∙ half-held (get_or l 22 0) r.pass.preheader g) t;
              spent = word 14 t;
            };
      }

  -- what is stored of r is what was there
  as-was : state_of m ≡ state_of l → record { config = config_of l; counts = r.counts; cached = r.cached; sums = r.sums; pass = r.pass } ≡ state_of l
  as-was z = sym holds ∙ z

  pub stored-all : Stored l m r
  stored-all =
      record {
        state = holds;
        kept = ap length q ∙ length-sets l 9 (state_words l r);
        settings = settings;
        rest = sym (drop-drop 15 9 m) ∙ ap (drop 15) behind;
        spared = λ z. q ∙ ap (λ (x : Mempool). sets l 9 (state_words l x)) (as-was z) ∙ same-words l h;
      }

-- the words before 14, stored, leave those behind them
far : (l : List ℕ) (a b c d e i : ℕ) → 14 ≤ i → get_or (set (set (set (set (set l 9 a) 10 b) 11 c) 12 d) 13 e) i 0 ≡ get_or l i 0
far l a b c d e i k =
    get_or-set_other (set (set (set (set l 9 a) 10 b) 11 c) 12 d) 13 i e 0 (λ x. omega (arith, x))
    ∙ get_or-set_other (set (set (set l 9 a) 10 b) 11 c) 12 i d 0 (λ x. omega (arith, x))
    ∙ get_or-set_other (set (set l 9 a) 10 b) 11 i c 0 (λ x. omega (arith, x))
    ∙ get_or-set_other (set l 9 a) 10 i b 0 (λ x. omega (arith, x))
    ∙ get_or-set_other l 9 i a 0 (λ x. omega (arith, x))

-- as the code stores it: counts, cached, charges and the pass
pub stored-parts : (l m n o : List ℕ) (r : Mempool) (u : ℕ) → 25 ≤ length l → low_half r.pass.preheader ≡ r.pass.preheader
    → m ≡ set (set l 9 r.counts.pooled) 10 r.counts.records → u ≡ r.cached → n ≡ set (set (set m 11 u) 12 r.sums.interblock_cost) 13 r.sums.peers
    → o ≡ sets n 14 (pass_words n r.pass) → Stored l o r
stored-parts l m n o r u h g a b c d = stored-all l o r h g (rw (d, there 14 (omega arith), there 15 (omega arith), there 22 (omega arith), c, b, a))
  where
    there : (i : ℕ) → 14 ≤ i → get_or n i 0 ≡ get_or l i 0
    there i k = ap (λ (x : List ℕ). get_or x i 0) (c ∙ ap (λ (x : List ℕ). set (set (set x 11 u) 12 r.sums.interblock_cost) 13 r.sums.peers) a) ∙ far l _ _ _ _ _ i k

-- from the state st that was read, r was handed back and stored
pub stored-held : {s₀ s : List ℕ} {st r : Mempool} → Stored s₀ s r → st ≡ state_of s₀ → r.config ≡ st.config → state_of s ≡ r
unfolding state_of
stored-held {r = r} z e u = z.state ∙ λ t. record { config = sym (u ∙ ap (λ (m : Mempool). m.config) e) t; counts = r.counts; cached = r.cached; sums = r.sums; pass = r.pass }
