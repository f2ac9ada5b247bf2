-- What the fee queries go by: tests decided one by one, and what a turn of each loop does, over plain variables.
use Prim.Native.Nat.{ℕ, ◌+◌, ◌-◌, ◌*◌, ◌/◌, ◌≤◌, ◌<◌, min}
use mathlib.Core.Path.{◌≡◌, refl, sym, ap, ◌∙◌}
use mathlib.Core.Bool.{Bool, true, false}
use mathlib.Core.List.{List, [], ◌∷◌, ◌++◌}
use native.Mathlib.Nat.{add-zero}
use native.Mathlib.Omega.{arith}
use lib.Dec.{ltb}
use lib.ListN.{length, get_or, drop, set, replicate, length-set, length-replicate, get_or-append}
use lib.Seq.{drop-set-lt}
use Rattle.std.specs.Prelude.{Ok, Err, cond, count_by}
use Rattle.std.specs.List.{range_with_len}
use Rattle.std.proofs.lemmas.List.{length-append, length-drop, get_or-replicate, ext_get_or}
use Rattle.std.proofs.lemmas.List.Folds.{fold-map}
use Rattle.std.proofs.lemmas.List.FromFn.{fill_by_all}
use Rattle.std.proofs.lemmas.List.Recursion.{is_count_by}
use Rattle.std.proofs.lemmas.Slice.{drop-append-drop}
use borrow.Author.Tests.{le-leb, lt-leb, le-ltb, lt-ltb, ne_eqb}
use Rattle.words.specs.Lists.{pick}
use Rattle.words.specs.Rows.{rec_at, blk-lit, recs-store}
use Rattle.words.specs.Tables.{of_none, of-suc}
use Rattle.pool_types.specs.declared.Mempool.{Mempool}
use Rattle.pool_types.specs.Outcomes.{wrote, listed_of}
use Rattle.pool_types.specs.declared.Refusal.{Refusal}
use Rattle.pool_types.specs.Refusals.{refusal_number}
use Rattle.entries.specs.Entries.{Entry}
use Rattle.entries.specs.Layout.{entry_at, entries_of, entries_room, entries}
use Rattle.fees.specs.Fees.{above, Bin, bin, no_bin, bin_of, more, add_to, binned, Histogram, histogram, no_histogram, histogram_of}
use Rattle.fees.specs.Bins.{bin_dec, bin_at, bins_of, bins, Put, Laid, Drawn}

-- ---- a wait for a fee

above-count : (w : ℕ) (es : List Entry) → above w es ≡ count_by (λ x. ltb w x.weight) es
above-count w es = is_count_by (above w) (λ x. ltb w x.weight) refl (λ x xs. step (ltb w x.weight) (above w xs)) es
  where
    step : (t : Bool) (n : ℕ) → pick t 1 0 + n ≡ cond t (1 + n) n
    step true n = refl
    step false n = omega arith

-- those above a weight, counted by their places
pub above_places : (w : ℕ) (e : List ℕ) (n : ℕ) → count_by (λ i. ltb w (entry_at e i).weight) (range_with_len 0 n) ≡ above w (entries_of e n)
above_places w e n =
    sym (above-count w (entries_of e n)
    ∙ ap (count_by (λ x. ltb w x.weight)) (fill_by_all (entry_at e) (entries_of e n) n (entry_at e 0) (entries.len e n) (λ k h. entries.get e n k (entry_at e 0) h))
    ∙ fold-map (λ a x. a + cond (ltb w x.weight) 1 0) (entry_at e) 0 (range_with_len 0 n))

-- ---- bins in words

pub put_words : (l : List ℕ) (i n t : ℕ) → i * 2 + 2 ≤ length l → Put l (set (set l (i * 2) n) (i * 2 + 1) t) i (bin n t)
unfolding bins_of bin_dec
put_words l i n t h =
    record {
      kept = simp length-set;
      bins = λ k. recs-store 2 bin_dec l (n ∷ t ∷ []) i refl h k;
      rest = λ k b. drop-set-lt (k * 2) _ (i * 2 + 1) t (omega arith) ∙ drop-set-lt (k * 2) l (i * 2) n (omega arith);
    }

pub count_word : (l : List ℕ) (i : ℕ) → get_or l (i * 2) 0 ≡ (bin_at l i).count
unfolding bin_at rec_at bin_dec
count_word l i = simp (blk-lit 2 l i, tt {0}, add-zero)

pub total_word : (l : List ℕ) (i : ℕ) → get_or l (i * 2 + 1) 0 ≡ (bin_at l i).total
unfolding bin_at rec_at bin_dec
total_word l i = simp (blk-lit 2 l i, tt {0})

-- ---- bins cleared

pub clear_none : (l : List ℕ) → Laid l l 0 (replicate 0 no_bin)
clear_none l = record { kept = refl; bins = of_none bins l; rest = refl }

-- the words of the first n bins are 0
pub cleared : (l z : List ℕ) (n : ℕ) → n * 2 ≤ length l → z ≡ replicate (n * 2) 0 → Laid l (z ++ drop (n * 2) l) n (replicate n no_bin)
cleared l z n h e = rw e (record { kept = kept; bins = bins'; rest = drop-append-drop (n * 2) l (replicate (n * 2) 0) (n * 2) (omega arith) len })
  where
    m : List ℕ
    m = replicate (n * 2) 0 ++ drop (n * 2) l

    len : length {A = ℕ} (replicate (n * 2) 0) ≡ n * 2
    len = length-replicate {A = ℕ} (n * 2) 0

    kept : length m ≡ length l
    kept = length-append (replicate (n * 2) 0) (drop (n * 2) l) ∙ omega (arith, len, length-drop (n * 2) l, h)

    zero : (k : ℕ) → k < n * 2 → get_or m k 0 ≡ 0
    zero k b = get_or-append (replicate (n * 2) 0) (drop (n * 2) l) 0 k (omega (arith, b, len)) ∙ get_or-replicate {A = ℕ} (n * 2) k 0 0 b

    empty : (i : ℕ) → i < n → bin_at m i ≡ no_bin
    empty i b = λ k. bin ((sym (count_word m i) ∙ zero (i * 2) (omega arith)) k) ((sym (total_word m i) ∙ zero (i * 2 + 1) (omega arith)) k)

    bins' : bins_of m n ≡ replicate n no_bin
    bins' =
        ext_get_or no_bin _ _ (bins.len m n ∙ sym (length-replicate n no_bin))
        (λ i b. let c : i < n = omega (arith, b, bins.len m n) in bins.get m n i no_bin c ∙ empty i c ∙ sym (get_or-replicate n i no_bin no_bin c))

-- ---- the bin of a wait

module _ (bins longest wait : ℕ) where
  pub bin-most : bin_of bins longest wait ≤ bins
  bin-most = go (ltb wait longest)
    where
      go : (t : Bool) → pick t (min (wait / (longest / bins)) bins) bins ≤ bins
      go true = omega arith
      go false = omega arith

-- ---- entries counted one by one

added : (l m : List ℕ) (n i base : ℕ) → i < n → Put l m i (more (bin_at l i) base) → Laid l m n (add_to (bins_of l n) i base)
added l m n i base h p = record { kept = p.kept; bins = p.bins n ∙ rw (bins.get l n i no_bin h); rest = p.rest n h }

-- the entry at i is counted in the bin k of its wait
pub entry_added : (e l m : List ℕ) (i time size longest created wait k base : ℕ) → created ≡ (entry_at e i).created → wait ≡ time - created → k ≡ bin_of size longest wait
    → base ≡ (entry_at e i).base → Put l m k (more (bin_at l k) base)
    → Laid l m (size + 1) (add_to (bins_of l (size + 1)) (bin_of size longest (time - (entry_at e i).created)) (entry_at e i).base)
entry_added e l m i time size longest created wait k base c w b f p =
    let here : k ≡ bin_of size longest (time - (entry_at e i).created) = b ∙ ap (bin_of size longest) (w ∙ ap (λ (x : ℕ). time - x) c) in
    rw (here, f) at (added l m (size + 1) k base (omega (arith, b, bin-most size longest wait)) p)

module _ (size longest time : ℕ) where
  binned-append : (a b : List Entry) (bs : List Bin) → binned size longest time (a ++ b) bs ≡ binned size longest time b (binned size longest time a bs)
  binned-append [] b bs = refl
  binned-append (e ∷ a) b bs = binned-append a b _

  length-binned : (es : List Entry) (bs : List Bin) → length (binned size longest time es bs) ≡ length bs
  length-binned [] bs = refl
  length-binned (e ∷ es) bs = length-binned es _ ∙ simp length-set

  pub binned_none : (e l : List ℕ) (n : ℕ) → Laid l l n (binned size longest time (entries_of e 0) (bins_of l n))
  binned_none e l n = rw (of_none entries e) (record { kept = refl; bins = refl; rest = refl })

  pub binned_more : (e l₀ l m : List ℕ) (n i : ℕ) (bs : List Bin) → Laid l₀ l n (binned size longest time (entries_of e i) bs)
      → Laid l m n (add_to (bins_of l n) (bin_of size longest (time - (entry_at e i).created)) (entry_at e i).base)
      → Laid l₀ m n (binned size longest time (entries_of e (i + 1)) bs)
  binned_more e l₀ l m n i bs w p =
      record {
        kept = p.kept ∙ w.kept;
        bins = p.bins ∙ rw w.bins (sym (rw (of-suc entries e i) (binned-append (entries_of e i) (entry_at e i ∷ []) bs)));
        rest = p.rest ∙ w.rest;
      }

-- ---- the histogram, test by test

module _ (e : List ℕ) (st : Mempool) (words time size longest : ℕ) where
  pub histogram-entries : entries_room e < st.counts.pooled → histogram_of e st words time size longest ≡ no_histogram 1
  unfolding histogram_of
  histogram-entries h = rw (lt-leb _ _ h)

  module _ (h : st.counts.pooled ≤ entries_room e) where
    pub histogram-short : words / 2 < size + 1 → histogram_of e st words time size longest ≡ no_histogram 2
    unfolding histogram_of
    histogram-short g = rw (le-leb _ _ h, lt-ltb _ _ g)

    module _ (g : size + 1 ≤ words / 2) where
      pub histogram-drawn : 0 < size → size ≤ longest
          → histogram_of e st words time size longest ≡ histogram (wrote (size + 1)) (binned size longest time (entries_of e st.counts.pooled) (replicate (size + 1) no_bin))
      unfolding histogram_of
      histogram-drawn p b = let z : size ≡ 0 → ⊥ = omega arith in rw (le-leb _ _ h, le-ltb _ _ g, ne_eqb size 0 z, le-ltb _ _ b)

pub drawn-refused : (l : List ℕ) (r : Refusal) (h : Histogram) → h ≡ no_histogram (refusal_number r) → Drawn l l (Err r) h
unfolding listed_of
drawn-refused l r h e = rw e (record { outcome = refl; answer = clear_none l })

-- bins cleared and then counted into
pub drawn-listed : (e l m k : List ℕ) (time size longest n pooled : ℕ) (h : Histogram) → n ≡ size + 1
    → h ≡ histogram (wrote (size + 1)) (binned size longest time (entries_of e pooled) (replicate (size + 1) no_bin))
    → Laid l m n (replicate n no_bin) → Laid m k (size + 1) (binned size longest time (entries_of e pooled) (bins_of m (size + 1)))
    → Drawn l k (Ok n) h
unfolding listed_of
drawn-listed e l m k time size longest n pooled h q d a b =
    rw d (record { outcome = ap wrote q; answer = rw (length-binned size longest time (entries_of e pooled) (replicate (size + 1) no_bin), length-replicate) both })
  where
    a' : Laid l m (size + 1) (replicate (size + 1) no_bin)
    a' = rw q at a

    both : Laid l k (size + 1) (binned size longest time (entries_of e pooled) (replicate (size + 1) no_bin))
    both = record { kept = b.kept ∙ a'.kept; bins = rw a'.bins at b.bins; rest = b.rest ∙ a'.rest }
