-- The statistics as the C side holds them: 124 words, the fields of FeeStats in their order, and each word is a number of them.
use Rattle.std.specs.Prelude.{ℕ, ◌+◌, ◌≤◌, ◌<◌, ◌≡◌, refl, length, get_or, take, set, replicate}
use Rattle.std.proofs.Common.{sym, ap, ◌∙◌, zero-add, add-one, arith, length-set, length-drop, take-append-drop, drop-cons, take_all, get_or-drop, drop-drop}
use mathlib.Core.List.{List, [], ◌∷◌, ◌++◌, append_assoc, append-nil}
use Rattle.std.proofs.Math.ListN.{drop}
use Rattle.std.proofs.lemmas.List.{length-replicate}
use Rattle.std.proofs.Math.Seq.{paste, paste-zero, paste-suc, sets-eq, take_at, drop_at}
use Rattle.std.proofs.lemmas.List.Edits.{sets, take-paste, drop-paste, length-paste}
use Rattle.stats.specs.declared.FeeStats.{FeeStats}

unfoldable pub stats_of : List ℕ → FeeStats
stats_of l =
    record {
      counts = take 60 l;
      totals = take 60 (drop 60 l);
      window_start = get_or l 120 0;
      taken = get_or l 121 0;
      snap_time = get_or l 122 0;
      snap_taken = get_or l 123 0;
    }

-- 60 bins of each kind
abbrev pub Sized : FeeStats → Type 0
Sized s = (length s.counts ≡ 60) × (length s.totals ≡ 60)

-- ---- the words that were l and are m hold the statistics s; the words behind them are as they were

pub record Restored (l m : List ℕ) (s : FeeStats) : Type 0 where
  pub kept : length m ≡ length l
  pub stats : stats_of m ≡ s
  pub rest : drop 124 m ≡ drop 124 l

-- their words, before others
unfoldable pub stats_words : FeeStats → List ℕ → List ℕ
stats_words s r = s.counts ++ (s.totals ++ (s.window_start ∷ s.taken ∷ s.snap_time ∷ s.snap_taken ∷ r))

module _ (s : FeeStats) (r : List ℕ) (z : Sized s) where
  from-totals : drop 60 (stats_words s r) ≡ s.totals ++ (s.window_start ∷ s.taken ∷ s.snap_time ∷ s.snap_taken ∷ r)
  unfolding stats_words
  from-totals = drop_at s.counts _ 60 z.0

  from-window : drop 120 (stats_words s r) ≡ s.window_start ∷ s.taken ∷ s.snap_time ∷ s.snap_taken ∷ r
  from-window = sym (drop-drop 60 60 (stats_words s r)) ∙ ap (drop 60) from-totals ∙ drop_at s.totals _ 60 z.1

  word : (i : ℕ) → get_or (stats_words s r) (120 + i) 0 ≡ get_or (s.window_start ∷ s.taken ∷ s.snap_time ∷ s.snap_taken ∷ r) i 0
  word i = sym (get_or-drop 120 (stats_words s r) i 0) ∙ ap (λ (l : List ℕ). get_or l i 0) from-window

  first-bins : take 60 (stats_words s r) ≡ s.counts
  unfolding stats_words
  first-bins = take_at s.counts _ 60 z.0

  pub words-stats : stats_of (stats_words s r) ≡ s
  unfolding stats_of
  words-stats = λ t.
      record {
        counts = first-bins t;
        totals = (ap (take 60) from-totals ∙ take_at s.totals _ 60 z.1) t;
        window_start = word 0 t;
        taken = word 1 t;
        snap_time = word 2 t;
        snap_taken = word 3 t;
      }

  pub words-rest : drop 124 (stats_words s r) ≡ r
  words-rest = sym (drop-drop 4 120 (stats_words s r)) ∙ ap (drop 4) from-window

-- ---- words that hold the same statistics are the same words

as-words : (l : List ℕ) → 124 ≤ length l → stats_words (stats_of l) (drop 124 l) ≡ l
unfolding stats_words stats_of
as-words l h = ap (λ (r : List ℕ). take 60 l ++ (take 60 (drop 60 l) ++ r)) four ∙ ap (λ (r : List ℕ). take 60 l ++ (take 60 (drop 60 l) ++ r)) (sym (drop-drop 60 60 l)) ∙ ap (λ (r : List ℕ). take 60 l ++ r) (take-append-drop 60 (drop 60 l)) ∙ take-append-drop 60 l
  where
    four : get_or l 120 0 ∷ get_or l 121 0 ∷ get_or l 122 0 ∷ get_or l 123 0 ∷ drop 124 l ≡ drop 120 l
    four =
        sym
        (drop-cons l 120 0 (omega arith)
        ∙ ap (λ (r : List ℕ). get_or l 120 0 ∷ r)
        (drop-cons l 121 0 (omega arith)
        ∙ ap (λ (r : List ℕ). get_or l 121 0 ∷ r) (drop-cons l 122 0 (omega arith) ∙ ap (λ (r : List ℕ). get_or l 122 0 ∷ r) (drop-cons l 123 0 (omega arith)))))

pub same-stats : (l m : List ℕ) → 124 ≤ length l → length m ≡ length l → stats_of m ≡ stats_of l → drop 124 m ≡ drop 124 l → m ≡ l
same-stats l m h k s r = sym (as-words m (omega arith)) ∙ ap (λ (x : FeeStats). stats_words x (drop 124 m)) s ∙ ap (stats_words (stats_of l)) r ∙ as-words l h

-- ---- 60 words from an index on, copied word by word: to new bins, ..

pub record Loading (l : List ℕ) (at : ℕ) (bins : List ℕ) (i : ℕ) : Type 0 where
  pub long : length bins ≡ 60
  pub so_far : bins ≡ paste (replicate 60 0) 0 (drop at l) i

pub loading-none : (l : List ℕ) (at : ℕ) → Loading l at (replicate 60 0) 0
loading-none l at = record { long = length-replicate {A = ℕ} 60 0; so_far = paste-zero (replicate 60 0) 0 (drop at l) }

pub loading-more : (l : List ℕ) (at : ℕ) (bins : List ℕ) (i : ℕ) → at + 60 ≤ length l → i < 60 → Loading l at bins i → Loading l at (set bins i (get_or l (at + i) 0)) (i + 1)
loading-more l at bins i room h c =
    record {
      long = length-set bins i (get_or l (at + i) 0) ∙ c.long;
      so_far =
          rw (c.so_far, ← get_or-drop at l i 0, add-one i)
          (ap (λ (k : ℕ). set (paste (replicate 60 0) 0 (drop at l) i) k (get_or (drop at l) i 0)) (sym (zero-add i))
          ∙ paste-suc (replicate 60 0) 0 (drop at l) i 0 (omega (arith, length-replicate {A = ℕ} 60 0)) (omega (arith, length-drop at l)));
    }

pub loading-all : (l : List ℕ) (at : ℕ) (bins : List ℕ) (i : ℕ) → i ≡ 60 → Loading l at bins i → bins ≡ take 60 (drop at l)
loading-all l at bins i e c = c.so_far ∙ rw e (append-nil (take 60 (drop at l)))

-- .. and from bins that are given

pub record Storing (l : List ℕ) (at : ℕ) (bins m : List ℕ) (i : ℕ) : Type 0 where
  pub long : length bins ≡ 60
  pub kept : length m ≡ length l
  pub so_far : m ≡ paste l at bins i

pub storing-none : (l : List ℕ) (at : ℕ) (bins : List ℕ) → length bins ≡ 60 → Storing l at bins l 0
storing-none l at bins z = record { long = z; kept = refl; so_far = paste-zero l at bins }

pub storing-more : (l : List ℕ) (at : ℕ) (bins m : List ℕ) (i : ℕ) → at + 60 ≤ length l → i < 60 → Storing l at bins m i → Storing l at bins (set m (at + i) (get_or bins i 0)) (i + 1)
storing-more l at bins m i room h c =
    record {
      long = c.long;
      kept = length-set m (at + i) (get_or bins i 0) ∙ c.kept;
      so_far = rw (c.so_far, add-one i) (paste-suc l at bins i 0 (omega arith) (omega (arith, c.long)));
    }

pub storing-all : (l : List ℕ) (at : ℕ) (bins m : List ℕ) (i : ℕ) → i ≡ 60 → Storing l at bins m i → m ≡ paste l at bins 60
storing-all l at bins m i e c = c.so_far ∙ rw e

-- ---- as the code stores them: both kinds of bins, then the four numbers

module _ (l : List ℕ) (s : FeeStats) (h : 124 ≤ length l) (z : Sized s) where
  abbrev once : List ℕ
  once = paste l 0 s.counts 60

  abbrev twice : List ℕ
  twice = paste once 60 s.totals 60

  abbrev four : List ℕ
  four = s.window_start ∷ s.taken ∷ s.snap_time ∷ s.snap_taken ∷ []

  long-once : length once ≡ length l
  long-once = length-paste l 0 s.counts 60 (omega arith) (omega (arith, z.0))

  long-twice : length twice ≡ length l
  long-twice = length-paste once 60 s.totals 60 (omega (arith, long-once)) (omega (arith, z.1)) ∙ long-once

  front : take 120 twice ≡ s.counts ++ s.totals
  front =
      take-paste once 60 s.totals 60 (omega (arith, long-once)) (omega (arith, z.1))
      ∙ ap (λ (r : List ℕ). r ++ take 60 s.totals) (take-paste l 0 s.counts 60 (omega arith) (omega (arith, z.0)) ∙ take_all 60 s.counts (omega (arith, z.0)))
      ∙ ap (λ (r : List ℕ). s.counts ++ r) (take_all 60 s.totals (omega (arith, z.1)))

  behind-once : drop 120 once ≡ drop 120 l
  behind-once =
      sym (drop-drop 60 60 once)
      ∙ ap (drop 60) (drop-paste l 0 s.counts 60 (omega arith) (omega (arith, z.0)))
      ∙ drop-drop 60 60 l

  behind : drop 124 twice ≡ drop 124 l
  behind =
      sym (drop-drop 4 120 twice)
      ∙ ap (drop 4) (drop-paste once 60 s.totals 60 (omega (arith, long-once)) (omega (arith, z.1)) ∙ behind-once)
      ∙ drop-drop 4 120 l

  stored-words : sets twice 120 four ≡ stats_words s (drop 124 l)
  unfolding stats_words
  stored-words =
      sets-eq four twice 120 (omega (arith, long-twice))
      ∙ rw (front, behind) (append_assoc (s.counts ++ s.totals) four (drop 124 l) ∙ append_assoc s.counts s.totals (four ++ drop 124 l))

  pub restored : (m n : List ℕ) → m ≡ paste l 0 s.counts 60 → n ≡ paste m 60 s.totals 60
      → Restored l (set (set (set (set n 120 s.window_start) 121 s.taken) 122 s.snap_time) 123 s.snap_taken) s
  restored m n p q =
      rw (q, p)
      (record {
        kept = simp length-set long-twice;
        stats = ap stats_of stored-words ∙ words-stats s (drop 124 l) z;
        rest = ap (drop 124) stored-words ∙ words-rest s (drop 124 l) z;
      })
