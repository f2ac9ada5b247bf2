-- A block step by step: what the code carries from one to the next, against what the definitions say that it has come to.
use Prim.Native.Nat.{ℕ, suc, ◌+◌, ◌-◌, ◌*◌, ◌≤◌, ◌<◌}
use Rattle.std.specs.Prelude.{◌≡◌, refl, Bool, eqb, length, take, drop}
use Rattle.std.proofs.Math.Path.{sym, ap}
use Rattle.std.proofs.Common.{◌∙◌, zero-add, length-append, eqb-true}
use Rattle.std.proofs.Math.Bool.{true, false}
use mathlib.Core.List.{List, [], ◌∷◌, ◌++◌}
use Rattle.std.proofs.Math.Numerals.{add-one}
use native.Mathlib.Omega.{arith}
use Rattle.words.specs.Lists.{pick, yes, no}
use Rattle.words.specs.Find.{found, without}
use Rattle.words.specs.Sums.{cap}
use Rattle.words.specs.Ids.{id_at}
use Rattle.words.specs.Tables.{drop_of}
use Rattle.pool_types.specs.declared.Counts.{Counts}
use Rattle.arguments.specs.Arguments.{records, field, total_from, counts_agree}
use Rattle.arguments.specs.Laws.{turn}
use Rattle.stats.specs.declared.FeeStats.{FeeStats}
use Rattle.entries.specs.Entries.{pooled}
use Rattle.entries.specs.Laws.{length_without}
use Rattle.entries.specs.Layout.{entries_of, entries, ok-bound}
use Rattle.boxes.specs.Records.{index, lookup, drop_owner}
use Rattle.boxes.specs.Layout.{boxes_of}
use Rattle.boxes.specs.Index.{BoxesKept}
use Rattle.boxes.specs.Flat.{count_of, ids_of, ids}
use Rattle.boxes.specs.declared.lists.Ids.{Ids}
use Rattle.pool.specs.Pool.{Tables, tables_of, PoolFits, PoolKept, Fewer, Left, remove_tx}
use Rattle.pool.specs.Laws.{as_many, fewer}
use Rattle.pool.specs.declared.lent.PoolMut.{PoolMut}
use Rattle.answers.specs.Answers.{Wrote, wrote-both}
use Rattle.blocks.specs.Blocks.{Progress, recorded, confirm_one, drive_out, rivals, spent_one, spent, applied_tx, applied_txs, inputs_at, confirmed_from, confirmed_of}

-- ---- what a step asks for, and what it does

-- what goes from step to step beside the words: how much of the tables is in use, which the code has in the pool, and how many ids were written
pub record Removal : Type 0 where
  pub counts : Counts
  pub written : ℕ

abbrev pub removal : PoolMut → ℕ → Removal
removal p n = record { counts = p.counts; written = n }

-- the counts fit the words, and no more can be written than a word counts
pub record Safe (e b : List ℕ) (g : Removal) : Type 0 where
  pub fits : PoolFits e b g.counts
  pub few : g.written + g.counts.pooled ≤ cap

-- on words e and b whose indexes are right, with an answer buffer that was a₀ when the block began and is a, the code is where the definitions are; it
-- keeps no statistics
pub record Doing (e b a₀ a : List ℕ) (g : Removal) (m : Progress) : Type 0 where
  pub kept : PoolKept e b g.counts
  pub tables : tables_of e b g.counts ≡ m.tables
  pub wrote : Wrote a₀ a 0 m.removed
  pub count : g.written ≡ length m.removed

-- the code does what f does, where the indexes are right; on any words the counts fit, and what was written and what is pooled are no more than before
-- together, so that the answer's room is enough
pub record Does (f : Progress → Progress) (e b a : List ℕ) (g : Removal) (e' b' a' : List ℕ) (r : Removal) : Type 0 where
  pub fits : PoolFits e' b' r.counts
  pub sum : r.written + r.counts.pooled ≤ g.written + g.counts.pooled
  pub does : (a₀ : List ℕ) (m : Progress) → Doing e b a₀ a g m → Doing e' b' a₀ a' r (f m)

pub safe-after : {f : Progress → Progress} {e b a e' b' a' : List ℕ} {g r : Removal} → Safe e b g → Does f e b a g e' b' a' r → Safe e' b' r
safe-after s d = record { fits = d.fits; few = omega (arith, s.few, d.sum) }

-- nothing; one step after the other; another name for it
pub does-none : {e b a : List ℕ} {g : Removal} → Safe e b g → Does (λ m. m) e b a g e b a g
does-none s = record { fits = s.fits; sum = omega arith; does = λ a₀ m d. d }

pub does-both : {f h : Progress → Progress} {e b a e' b' a' e'' b'' a'' : List ℕ} {g g' g'' : Removal}
    → Does f e b a g e' b' a' g' → Does h e' b' a' g' e'' b'' a'' g'' → Does (λ m. h (f m)) e b a g e'' b'' a'' g''
does-both {f = f} p q = record { fits = q.fits; sum = omega (arith, p.sum, q.sum); does = λ a₀ m d. q.does a₀ (f m) (p.does a₀ m d) }

pub does-as : {f : Progress → Progress} (h : Progress → Progress) {e b a e' b' a' : List ℕ} {g r : Removal}
    → ((a₀ : List ℕ) (m : Progress) → Doing e b a₀ a g m → f m ≡ h m) → Does f e b a g e' b' a' r → Does h e b a g e' b' a' r
does-as h q d = record { fits = d.fits; sum = d.sum; does = λ a₀ m i. rw (← q a₀ m i) (d.does a₀ m i) }

-- ---- a transaction leaves

same-pooled : (k : ℕ) {t u : Tables} {x : Bool} → t ≡ u → pooled k t.entries ≡ x → pooled k u.entries ≡ x
same-pooled k q h = sym (ap (λ (v : Tables). pooled k v.entries) q) ∙ h

remove-length : (k : ℕ) (t : Tables) → length (remove_tx k t).entries + pick (pooled k t.entries) 1 0 ≡ length t.entries
remove-length k t = go (pooled k t.entries) (length_without k t.entries)
  where
    out : Tables
    out = record { entries = without (λ x. x.id) k t.entries; boxes = drop_owner k t.boxes }

    go : (x : Bool) → length (without (λ x. x.id) k t.entries) + pick x 1 0 ≡ length t.entries → length (pick x out t).entries + pick x 1 0 ≡ length t.entries
    go true h = h
    go false h = omega arith

module _ (k : ℕ) (e b a e' b' : List ℕ) (g : Removal) (c : Counts) (f : Fewer e' b' g.counts c)
    (l : PoolKept e b g.counts → Left e' b' c (remove_tx k (tables_of e b g.counts))) where
  -- whether it was there shows in how many are left
  left-count : PoolKept e b g.counts → c.pooled + pick (pooled k (entries_of e g.counts.pooled)) 1 0 ≡ g.counts.pooled
  left-count kept =
      let u : length (entries_of e' c.pooled) ≡ length (remove_tx k (tables_of e b g.counts)).entries = ap (λ (t : Tables). length t.entries) (l kept).tables in
      omega (arith, u, remove-length k (tables_of e b g.counts), entries.len e' c.pooled, entries.len e g.counts.pooled)

  -- as many as before: it was not pooled
  pub does-nothing : c.pooled ≡ g.counts.pooled → Does (drive_out k) e b a g e' b' a (record { counts = c; written = g.written })
  unfolding drive_out
  does-nothing h =
      record {
        fits = f.fits;
        sum = omega arith;
        does = λ a₀ m d.
            let q : pooled k (entries_of e g.counts.pooled) ≡ false = as_many _ c.pooled g.counts.pooled (left-count d.kept) h in
            let z : pooled k m.tables.entries ≡ false = same-pooled k d.tables q in
            let o = l d.kept in
            rw z (record { kept = o.kept; tables = o.tables ∙ rw q d.tables; wrote = d.wrote; count = d.count });
      }

  -- fewer: it was, and it is written behind the others
  pub does-leave : (a' : List ℕ) (n r : ℕ) → (c.pooled ≡ g.counts.pooled → ⊥) → n ≡ g.written → r ≡ g.written + 1 → Wrote a a' n (k ∷ [])
      → Does (drive_out k) e b a g e' b' a' (record { counts = c; written = r })
  unfolding drive_out
  does-leave a' n r h u v w =
      record {
        fits = f.fits;
        sum = omega (arith, h, f.entries);
        does = λ a₀ m d.
            let p : pooled k (entries_of e g.counts.pooled) ≡ true = fewer (pooled k (entries_of e g.counts.pooled)) c.pooled g.counts.pooled (left-count d.kept) h in
            let z : pooled k m.tables.entries ≡ true = same-pooled k d.tables p in
            let o = l d.kept in
            rw z (record {
              kept = o.kept;
              tables = o.tables ∙ ap (remove_tx k) d.tables ∙ rw z;
              wrote = wrote-both a₀ a a' 0 g.written m.removed (k ∷ []) d.count d.wrote (rw (zero-add g.written, ← u) w);
              count = v ∙ rw (length-append m.removed (k ∷ []), d.count);
            });
      }

-- ---- it is confirmed: it leaves as one that is driven out, and the statistics are another's matter

like-drive : (time k : ℕ) (m : Progress) → ((drive_out k m).tables ≡ (confirm_one time k m).tables) × ((drive_out k m).removed ≡ (confirm_one time k m).removed)
unfolding drive_out confirm_one
like-drive time k m = go (pooled k m.tables.entries)
  where
    out : FeeStats → Progress
    out s = record { tables = remove_tx k m.tables; stats = s; removed = m.removed ++ (k ∷ []) }

    go : (t : Bool)
        → ((pick t (out m.stats) m).tables ≡ (pick t (out (recorded time (found (λ e. e.id) k m.tables.entries) m.stats)) m).tables)
        × ((pick t (out m.stats) m).removed ≡ (pick t (out (recorded time (found (λ e. e.id) k m.tables.entries) m.stats)) m).removed)
    go true = (refl, refl)
    go false = (refl, refl)

pub does-confirm : (time k : ℕ) {e b a e' b' a' : List ℕ} {g r : Removal} → Does (drive_out k) e b a g e' b' a' r → Does (confirm_one time k) e b a g e' b' a' r
does-confirm time k h =
    record {
      fits = h.fits;
      sum = h.sum;
      does = λ a₀ m d.
          let i = h.does a₀ m d in
          let q = like-drive time k m in
          record { kept = i.kept; tables = i.tables ∙ q.0; wrote = rw q.1 at i.wrote; count = i.count ∙ ap length q.1 };
    }

-- ---- one input: what the index names

module _ (k key : ℕ) (e b a : List ℕ) (g : Removal) where
  -- .. where the indexes are right
  abbrev Names : List ℕ → Type 0
  Names ks = BoxesKept b g.counts.records → ks ≡ lookup (index false (boxes_of b g.counts.records)) key

  -- .. is what the definitions look up
  named : (ks : List ℕ) → Names ks → (a₀ : List ℕ) (m : Progress) → Doing e b a₀ a g m → rivals k ks m ≡ spent_one k key m
  named ks q a₀ m d = ap (λ (x : List ℕ). rivals k x m) (q d.kept.boxes ∙ ap (λ (t : Tables). lookup (index false t.boxes) key) d.tables)

  pub does-nobody : Names [] → Safe e b g → Does (spent_one k key) e b a g e b a g
  unfolding rivals
  does-nobody q s = does-as (spent_one k key) (λ a₀ m d. named [] q a₀ m d) (does-none s)

  module _ (x : ℕ) (q : Names (x ∷ [])) where
    pub does-itself : Safe e b g → eqb x k ≡ true → Does (spent_one k key) e b a g e b a g
    unfolding rivals
    does-itself s z = does-as (spent_one k key) (λ a₀ m d. sym (yes (eqb x k) m (drive_out x m) z) ∙ named (x ∷ []) q a₀ m d) (does-none s)

    pub does-rival : {e' b' a' : List ℕ} {r : Removal} → eqb x k ≡ false → Does (drive_out x) e b a g e' b' a' r → Does (spent_one k key) e b a g e' b' a' r
    unfolding rivals
    does-rival z h = does-as (spent_one k key) (λ a₀ m d. sym (no (eqb x k) m (drive_out x m) z) ∙ named (x ∷ []) q a₀ m d) h

-- ---- one after the other: folding what is left (F) over where we are gives what folding all (G) gives over where we began

pub record Reached (F : Progress → Progress) (x : Progress) (e b a₀ a : List ℕ) (g : Removal) : Type 0 where
  pub here : Progress
  pub doing : Doing e b a₀ a g here
  pub same : F here ≡ x

pub record Turned (F G : Progress → Progress) (e b a : List ℕ) (g : Removal) (e' b' a' : List ℕ) (r : Removal) : Type 0 where
  pub safe : Safe e' b' r
  pub sum : r.written + r.counts.pooled ≤ g.written + g.counts.pooled
  pub reached : (a₀ : List ℕ) (m : Progress) → Doing e b a₀ a g m → Reached F (G m) e' b' a₀ a' r

pub turn-none : {F G : Progress → Progress} {e b a : List ℕ} {g : Removal} → Safe e b g → ((m : Progress) → F m ≡ G m) → Turned F G e b a g e b a g
turn-none s q = record { safe = s; sum = omega arith; reached = λ a₀ m d. record { here = m; doing = d; same = q m } }

pub turn_more : (H : Progress → Progress) {F G f : Progress → Progress} {e b a e' b' a' e'' b'' a'' : List ℕ} {g g' g'' : Removal}
    → Turned F G e b a g e' b' a' g' → Does f e' b' a' g' e'' b'' a'' g'' → ((m : Progress) → H (f m) ≡ F m) → Turned H G e b a g e'' b'' a'' g''
turn_more H {f = f} t d q =
    record {
      safe = safe-after t.safe d;
      sum = omega (arith, d.sum, t.sum);
      reached = λ a₀ m i.
          let x = t.reached a₀ m i in
          record { here = f x.here; doing = d.does a₀ x.here x.doing; same = q x.here ∙ x.same };
    }

pub turn-all : {F G : Progress → Progress} {e b a e' b' a' : List ℕ} {g r : Removal} → Turned F G e b a g e' b' a' r → ((m : Progress) → F m ≡ m) → Does G e b a g e' b' a' r
turn-all t q =
    record {
      fits = t.safe.fits;
      sum = t.sum;
      does = λ a₀ m i. let x = t.reached a₀ m i in rw (sym (q x.here) ∙ x.same) at x.doing;
    }

-- ---- the inputs from j on and before `to`, of a list of any width

-- so many ids from j on
abbrev pub inputs_in : Ids → ℕ → ℕ → List ℕ
inputs_in l j n = take n (drop j (ids_of l.width l.words.now))

-- in a block's list of inputs each has four words
pub inputs-four : (l : Ids) {ins : List ℕ} (j n : ℕ) → l.words.now ≡ ins → l.width ≡ 4 → inputs_in l j n ≡ inputs_at ins j n
unfolding inputs_at
inputs-four l j n p q = rw (p, q)

module _ (w : ℕ) (ins : List ℕ) (j to : ℕ) where
  inputs-more : j < to → to ≤ count_of w ins → take (to - j) (drop j (ids_of w ins)) ≡ id_at ins (j * w) ∷ take (to - (j + 1)) (drop (j + 1) (ids_of w ins))
  inputs-more h l =
      let e : to - j ≡ suc (to - (j + 1)) = omega arith in
      rw (e, drop_of (ids w) ins (count_of w ins) j (omega arith))

  pub spent-more : (k x : ℕ) → j < to → to ≤ count_of w ins → x ≡ id_at ins (j * w) → (m : Progress)
      → spent k (take (to - (j + 1)) (drop (j + 1) (ids_of w ins))) (spent_one k x m) ≡ spent k (take (to - j) (drop j (ids_of w ins))) m
  unfolding spent
  spent-more k x h l q m = rw (inputs-more h l, q)

  pub spent_all : (k : ℕ) → to ≤ j → (m : Progress) → spent k (take (to - j) (drop j (ids_of w ins))) m ≡ m
  unfolding spent
  spent_all k h m = let e : to - j ≡ 0 = omega arith in rw e

-- ---- the transactions from i on, whose inputs begin at j

module _ (txs ins : List ℕ) (i j : ℕ) where
  -- of the inputs those from j on belong to them
  pub record Agreed : Type 0 where
    pub sum : j + total_from txs i (records 5 txs - i) ≡ count_of 4 ins

  -- those that are left, over what the others came to
  abbrev pub later : ℕ → Progress → Progress
  later time m = applied_txs time (confirmed_from txs ins i j (records 5 txs - i)) m

pub agreed-none : (txs ins : List ℕ) → counts_agree txs ins ≡ true → Agreed txs ins 0 0
unfolding counts_agree
agreed-none txs ins h = let e : records 5 txs - 0 ≡ records 5 txs = omega arith in record { sum = rw e (omega (arith, eqb-true (total_from txs 0 (records 5 txs)) (records 4 ins) h)) }

pub later-none : (txs ins : List ℕ) (time : ℕ) (m : Progress) → later txs ins 0 0 time m ≡ applied_txs time (confirmed_of txs ins) m
unfolding confirmed_of
later-none txs ins time m = let e : records 5 txs - 0 ≡ records 5 txs = omega arith in rw e

module _ (txs ins : List ℕ) (i j to : ℕ) (h : i < records 5 txs) (q : to ≡ j + field 5 4 txs i) where
  pub agreed-more : Agreed txs ins i j → Agreed txs ins (i + 1) to
  agreed-more g = record { sum = omega (arith, g.sum, turn (total_from txs) (field 5 4 txs) (λ x y. x + y) (λ i n. refl) i (records 5 txs) h) }

  pub agreed-there : Agreed txs ins i j → j + field 5 4 txs i ≤ count_of 4 ins
  agreed-there g = omega (arith, (agreed-more g).sum)

  pub later_more : (time x n : ℕ) → x ≡ id_at txs (i * 5) → n ≡ field 5 4 txs i → (m : Progress) → later txs ins (i + 1) to time (applied_tx time x (inputs_at ins j n) m) ≡ later txs ins i j time m
  unfolding applied_txs confirmed_from
  later_more time x n p f m = let e : records 5 txs - i ≡ suc (records 5 txs - (i + 1)) = omega arith in rw (e, f, q, p, add-one i)

pub later-all : (txs ins : List ℕ) (i j : ℕ) → records 5 txs ≤ i → (time : ℕ) (m : Progress) → later txs ins i j time m ≡ m
unfolding applied_txs confirmed_from
later-all txs ins i j h time m = let e : records 5 txs - i ≡ 0 = omega arith in rw e

-- ---- where a block begins: nothing is written, and a count of entries is a word
pub safe-none : {e b : List ℕ} {c : Counts} → PoolFits e b c → length e ≤ cap → Safe e b (record { counts = c; written = 0 })
safe-none {e} {b} {c} f h = record { fits = f; few = omega (arith, ok-bound e c.pooled f.entries) }
