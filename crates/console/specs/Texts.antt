-- The text of an outcome, case by case, as the code finds it.
use Rattle.pool_types.specs.Refusals.{refusal_number}
use Rattle.std.specs.Prelude.{Bool, Err, Ok, Result}
use Rattle.pool_types.specs.declared.Refusal.{Refusal}
use Rattle.std.specs.Prelude.{ℕ, zero, suc, ◌+◌, ◌/◌, ◌≤◌, min, ◌≡◌, refl, Bool, true, false, ◌||◌, List, [], ◌∷◌, map, eqb, leb, ltb, take, replicate}
use Rattle.std.proofs.Common.{sym, ◌∙◌, subst, add-one, arith, length-take, length-set, ltb-false}
use Rattle.std.proofs.Math.Path.{ap}
use Rattle.std.proofs.Math.ListN.{length}
use Rattle.std.proofs.lemmas.List.{length-map, length-replicate}
use Rattle.words.specs.Lists.{pick, map-append}
use Rattle.words.specs.Rows.{rec_at}
use Rattle.words.specs.Tables.{Table, of_none, of-suc}
use Rattle.pool_types.specs.declared.Mempool.{Mempool}
use Rattle.pool_types.specs.Outcomes.{Outcome, refused, wrote, listed_of}
use Rattle.forms.specs.Nums.{Prints}
use Rattle.entries.specs.Entries.{Entry}
use Rattle.entries.specs.Layout.{entries_of, entries_room, entries}
use Rattle.fees.specs.Fees.{Bin, no_bin, binned, Histogram, histogram, no_histogram, histogram_of}
use Rattle.fees.specs.Bins.{bin_dec, bin_at, bins_of, bins, Drawn}
use Rattle.mempool.specs.Listing.{Row, brief, Listing, listing, rows_of, top_of, Topped}
use Rattle.replies.specs.Replies.{pooled_text, pair_dec, pair_at, pairs_of, pairs, bins_text}
use Rattle.console.specs.Console.{refused_text, or_refused, listing_text, pair_of, histogram_text}
use Rattle.pool_types.specs.Outcomes.{written_of}

pub prints-as : {t u o₀ o : List ℕ} {n : ℕ} → t ≡ u → Prints t 0 o₀ o n → Prints u 0 o₀ o n
prints-as {t} {u} {o₀} {o} {n} e p = subst (λ (x : List ℕ). Prints x 0 o₀ o n) e p

-- ---- lists that go through the buffer of the queries

-- the outcome says how long the list is
pub list_count : {r : Result ℕ Refusal} {o : Outcome} {n : ℕ} → listed_of r ≡ o → r ≡ Ok n → n ≡ written_of o
unfolding listed_of written_of
list_count q p = rw (← q, p)

-- records as their table reads them from the buffer m and f prints them
pub list-text : {A : Type 0} {r : Result ℕ Refusal} {o : Outcome} {xs : List A} {n : ℕ} (of : List ℕ → ℕ → List A) (f : List A → List ℕ) (m : List ℕ) → listed_of r ≡ o → r ≡ Ok n → n ≡ length xs → of m (length xs) ≡ xs
    → f (of m n) ≡ or_refused (f xs) o
unfolding listed_of or_refused
list-text of f m q p c y = ap f (ap (of m) c ∙ y) ∙ rw (← q, p)

pub list-refused : {r : Result ℕ Refusal} {o : Outcome} {f : Refusal} (t : List ℕ) → listed_of r ≡ o → r ≡ Err f → refused_text (refusal_number f) ≡ or_refused t o
unfolding listed_of or_refused
list-refused t q p = rw (← q, p)

-- `k` rows of at most `w`, or a refusal
abbrev row_cases : Bool → Bool → ℕ → List Row → Listing
row_cases t u k rs = pick t (pick u (listing (refused 2 0) []) (listing (wrote k) rs)) (listing (refused 1 0) [])

row-cases : (t u : Bool) (w k : ℕ) (rs : List Row) → ltb w k ≡ u → length rs ≡ k
    → (written_of (row_cases t u k rs).outcome ≡ length (row_cases t u k rs).rows) × (length (row_cases t u k rs).rows ≤ w)
unfolding written_of
row-cases true false w k rs q z = (sym z, rw z (ltb-false w k q))
row-cases true true w k rs q z = (refl, omega arith)
row-cases false u w k rs q z = (refl, omega arith)

top-cases : (e : List ℕ) (st : Mempool) (words limit : ℕ) → (written_of (top_of e st words limit).outcome ≡ length (top_of e st words limit).rows) × (length (top_of e st words limit).rows ≤ words / 6)
unfolding top_of
top-cases e st words limit =
    row-cases (leb st.counts.pooled (entries_room e)) (ltb (words / 6) (min limit st.counts.pooled)) (words / 6) (min limit st.counts.pooled)
    (map brief (take limit (entries_of e st.counts.pooled))) refl
    (length-map (take limit (entries_of e st.counts.pooled)) brief ∙ length-take limit (entries_of e st.counts.pooled) ∙ ap (min limit) (entries.len e st.counts.pooled))

module _ {l m : List ℕ} {r : Result ℕ Refusal} (e : List ℕ) (st : Mempool) (limit : ℕ) where
  pub listed-rows : {n : ℕ} → r ≡ Ok n → Topped l m r (top_of e st (length l) limit) → (n ≤ length l / 6) × (pooled_text (rows_of m n) ≡ listing_text (top_of e st (length l) limit))
  unfolding listing_text
  listed-rows {n} q p =
      let h = top-cases e st (length l) limit in
      let c : n ≡ length (top_of e st (length l) limit).rows = list_count p.outcome q ∙ h.0 in
      (rw c h.1, list-text rows_of pooled_text m p.outcome q c p.answer.rows)

  pub listed-not : {f : Refusal} → r ≡ Err f → Topped l m r (top_of e st (length l) limit) → refused_text (refusal_number f) ≡ listing_text (top_of e st (length l) limit)
  unfolding listing_text
  listed-not q p = list-refused _ p.outcome q

-- ---- bins are printed as the pairs that their words are

module _ {A B : Type 0} {of : List ℕ → ℕ → List A} {at : List ℕ → ℕ → A} {of2 : List ℕ → ℕ → List B} {at2 : List ℕ → ℕ → B} (T : Table of at) (U : Table of2 at2) (f : A → B)
    (h : (l : List ℕ) (i : ℕ) → f (at l i) ≡ at2 l i) where
  map_of : (l : List ℕ) (n : ℕ) → map f (of l n) ≡ of2 l n
  map_of l zero = ap (map f) (of_none T l) ∙ sym (of_none U l)
  map_of l (suc n) = rw (← add-one n, of-suc T l n, of-suc U l n, map-append f (of l n) (at l n ∷ []), map_of l n, h l n)

bins-pairs : (l : List ℕ) (n : ℕ) → map pair_of (bins_of l n) ≡ pairs_of l n
unfolding bin_at bin_dec pair_at pair_dec rec_at
bins-pairs l n = map_of bins pairs pair_of (λ l i. refl) l n

module _ (bins longest time : ℕ) where
  length-binned : (es : List Entry) (bs : List Bin) → length (binned bins longest time es bs) ≡ length bs
  length-binned [] bs = refl
  length-binned (e ∷ es) bs = length-binned es _ ∙ simp length-set

abbrev bin_cases : Bool → Bool → Bool → ℕ → List Bin → Histogram
bin_cases t u v k bs = pick t (pick u (no_histogram 2) (pick v (no_histogram 11) (histogram (wrote k) bs))) (no_histogram 1)

bin-cases : (t u v : Bool) (w k : ℕ) (bs : List Bin) → ltb w k ≡ u → length bs ≡ k
    → (written_of (bin_cases t u v k bs).outcome ≡ length (bin_cases t u v k bs).bins) × (length (bin_cases t u v k bs).bins ≤ w)
unfolding written_of
bin-cases true false false w k bs q z = (sym z, rw z (ltb-false w k q))
bin-cases true false true w k bs q z = (refl, omega arith)
bin-cases true true v w k bs q z = (refl, omega arith)
bin-cases false u v w k bs q z = (refl, omega arith)

histogram-cases : (e : List ℕ) (st : Mempool) (words time size longest : ℕ)
    → (written_of (histogram_of e st words time size longest).outcome ≡ length (histogram_of e st words time size longest).bins) × (length (histogram_of e st words time size longest).bins ≤ words / 2)
unfolding histogram_of
histogram-cases e st words time size longest =
    bin-cases (leb st.counts.pooled (entries_room e)) (ltb (words / 2) (size + 1)) (eqb size 0 || ltb longest size) (words / 2) (size + 1)
    (binned size longest time (entries_of e st.counts.pooled) (replicate (size + 1) no_bin)) refl
    (length-binned size longest time (entries_of e st.counts.pooled) (replicate (size + 1) no_bin) ∙ length-replicate (size + 1) no_bin)

module _ {l m : List ℕ} {r : Result ℕ Refusal} (e : List ℕ) (st : Mempool) (time size longest : ℕ) where
  pub drawn-bins : {n : ℕ} → r ≡ Ok n → Drawn l m r (histogram_of e st (length l) time size longest)
      → (n ≤ length l / 2) × (bins_text (pairs_of m n) ≡ histogram_text (histogram_of e st (length l) time size longest))
  unfolding histogram_text
  drawn-bins {n} q p =
      let h = histogram-cases e st (length l) time size longest in
      let c : n ≡ length (histogram_of e st (length l) time size longest).bins = list_count p.outcome q ∙ h.0 in
      (rw c h.1, ap bins_text (sym (bins-pairs m n)) ∙ list-text bins_of (λ bs. bins_text (map pair_of bs)) m p.outcome q c p.answer.bins)

  pub drawn-not : {f : Refusal} → r ≡ Err f → Drawn l m r (histogram_of e st (length l) time size longest) → refused_text (refusal_number f) ≡ histogram_text (histogram_of e st (length l) time size longest)
  unfolding histogram_text
  drawn-not q p = list-refused _ p.outcome q
