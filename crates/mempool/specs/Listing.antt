-- Entries listed into an answer buffer: six words each, "id, weight and base of each entry" (document 01; docs/DECISIONS.md, D5 and D6).
use Prim.Native.Nat.{ℕ, ◌+◌, ◌*◌, ◌/◌, ◌≤◌, min}
use Rattle.std.specs.Prelude.{◌≡◌, refl, Result, Ok, List, [], ◌∷◌, ◌++◌, map, leb, ltb, length, get_or, drop, set}
use Rattle.std.proofs.Common.{sym, ap, ◌∙◌, length-set, drop-set-lt, drop-drop, take_all}
use native.Mathlib.Omega.{arith}
use Rattle.std.proofs.Math.ListN.{take}
use Rattle.std.proofs.lemmas.List.{length-map}
use borrow.Author.Tests.{le-leb, le-ltb}
use Rattle.words.specs.Lists.{pick, map-append}
use Rattle.words.specs.Rows.{stored, rec_at, recs, length-recs, get_or-recs, take-recs, recs-store}
use Rattle.words.specs.Tables.{Table, put-end, of_none, of-suc}
use Rattle.words.specs.Ids.{id_of, id_at, id_words}
use Rattle.words.specs.declared.ids.Id.{Id}
use Rattle.pool_types.specs.declared.Mempool.{Mempool}
use Rattle.pool_types.specs.Outcomes.{Outcome, refused, wrote, listed_of}
use Rattle.pool_types.specs.declared.Refusal.{Refusal}
use Rattle.entries.specs.Entries.{Entry}
use Rattle.entries.specs.Layout.{entry_at, entries_of, entries_room, entries}

-- a listed entry
pub record Row : Type 0 where
  pub id : ℕ
  pub weight : ℕ
  pub base : ℕ

abbrev pub brief : Entry → Row
brief e = record { id = e.id; weight = e.weight; base = e.base }

-- ---- rows in words

unfoldable pub row_dec : List ℕ → Row
row_dec b = record { id = id_at b 0; weight = get_or b 4 0; base = get_or b 5 0 }

unfoldable pub row_at : List ℕ → ℕ → Row
row_at l i = rec_at 6 row_dec l i

unfoldable pub rows_of : List ℕ → ℕ → List Row
rows_of l n = recs 6 row_dec l n

pub rows : Table rows_of row_at
unfolding rows_of row_at
rows = record { len = length-recs 6 row_dec; get = get_or-recs 6 row_dec; first = take-recs 6 row_dec }

abbrev pub row_words : Id → ℕ → ℕ → List ℕ
row_words x w b = id_words x ++ (w ∷ b ∷ [])

-- ---- what a listing leaves: the rows from the first place on, and nothing else

pub record Laid (l m : List ℕ) (rs : List Row) : Type 0 where
  pub kept : length m ≡ length l
  pub rows : rows_of m (length rs) ≡ rs
  pub rest : drop (length rs * 6) m ≡ drop (length rs * 6) l

-- ---- `top` and `all_prioritized`

pub record Listing : Type 0 where
  pub outcome : Outcome
  pub rows : List Row

abbrev pub listing : Outcome → List Row → Listing
listing o rs = record { outcome = o; rows = rs }

-- the first `limit` entries by priority; refusal 2 where the answer buffer holds fewer rows than are listed
unfoldable pub top_of : List ℕ → Mempool → ℕ → ℕ → Listing
top_of e st words limit =
    pick (leb st.counts.pooled (entries_room e))
    (pick (ltb (words / 6) (min limit st.counts.pooled)) (listing (refused 2 0) [])
    (listing (wrote (min limit st.counts.pooled)) (map brief (take limit (entries_of e st.counts.pooled)))))
    (listing (refused 1 0) [])

pub record Topped (l m : List ℕ) (o : Result ℕ Refusal) (t : Listing) : Type 0 where
  pub outcome : listed_of o ≡ t.outcome
  pub answer : Laid l m t.rows

-- ---- one row

pub record RowPut (l m : List ℕ) (i : ℕ) (r : Row) : Type 0 where
  pub kept : length m ≡ length l
  pub rows : (n : ℕ) → rows_of m n ≡ set (rows_of l n) i r
  pub rest : drop ((i + 1) * 6) m ≡ drop ((i + 1) * 6) l

pub row_put : (l : List ℕ) (i : ℕ) (x : Id) (w b : ℕ) (r : Row) → i * 6 + 6 ≤ length l → id_of x ≡ r.id → w ≡ r.weight → b ≡ r.base → RowPut l (stored l (i * 6) (row_words x w b)) i r
unfolding rows_of row_dec id_of id_at
row_put l i x w b r h e f g =
    record {
      kept = simp length-set;
      rows = λ n. recs-store 6 row_dec l (row_words x w b) i refl h n ∙ ap (set (recs 6 row_dec l n) i) (λ k. record { id = e k; weight = f k; base = g k });
      rest =
          drop-set-lt ((i + 1) * 6) _ (i * 6 + 5) b (omega arith)
          ∙ drop-set-lt ((i + 1) * 6) _ (i * 6 + 4) w (omega arith)
          ∙ drop-set-lt ((i + 1) * 6) _ (i * 6 + 3) x.d (omega arith)
          ∙ drop-set-lt ((i + 1) * 6) _ (i * 6 + 2) x.c (omega arith)
          ∙ drop-set-lt ((i + 1) * 6) _ (i * 6 + 1) x.b (omega arith)
          ∙ drop-set-lt ((i + 1) * 6) l (i * 6) x.a (omega arith);
    }

-- ---- row after row

pub record Laying (e l₀ l : List ℕ) (i : ℕ) : Type 0 where
  pub kept : length l ≡ length l₀
  pub rows : rows_of l i ≡ map brief (entries_of e i)
  pub rest : drop (i * 6) l ≡ drop (i * 6) l₀

pub laying-none : (e l : List ℕ) → Laying e l l 0
laying-none e l = record { kept = refl; rows = of_none rows l ∙ sym (ap (map brief) (of_none entries e)); rest = refl }

pub laying-more : (e l₀ l m : List ℕ) (i : ℕ) → Laying e l₀ l i → RowPut l m i (brief (entry_at e i)) → Laying e l₀ m (i + 1)
laying-more e l₀ l m i w p =
    record {
      kept = p.kept ∙ w.kept;
      rows = put-end rows l m i (brief (entry_at e i)) p.rows ∙ rw w.rows (sym (ap (map brief) (of-suc entries e i) ∙ map-append brief (entries_of e i) (entry_at e i ∷ [])));
      rest = p.rest ∙ later w.rest;
    }
  where
    later : drop (i * 6) l ≡ drop (i * 6) l₀ → drop ((i + 1) * 6) l ≡ drop ((i + 1) * 6) l₀
    later q = let d : (i + 1) * 6 ≡ i * 6 + 6 = omega arith in rw (d, ← drop-drop 6 (i * 6) l, ← drop-drop 6 (i * 6) l₀, q)

pub laying-all : (e l₀ l : List ℕ) (i k : ℕ) → i ≡ k → Laying e l₀ l i → Laid l₀ l (map brief (entries_of e k))
laying-all e l₀ l i k q w =
    let n : length (map brief (entries_of e k)) ≡ i = length-map (entries_of e k) brief ∙ entries.len e k ∙ sym q in
    record { kept = w.kept; rows = rw (n, ← q) w.rows; rest = rw n w.rest }

-- ---- where nothing is refused

module _ (e : List ℕ) (st : Mempool) (words limit : ℕ) where
  pub top_listed : st.counts.pooled ≤ entries_room e → min limit st.counts.pooled ≤ words / 6
      → top_of e st words limit ≡ listing (wrote (min limit st.counts.pooled)) (map brief (entries_of e (min limit st.counts.pooled)))
  unfolding top_of
  top_listed h g = rw (le-leb _ _ h, le-ltb _ _ g, taken)
    where
      taken : take limit (entries_of e st.counts.pooled) ≡ entries_of e (min limit st.counts.pooled)
      taken = go (native.Mathlib.Decide.dec_le limit st.counts.pooled)
        where
          go : Dec (limit ≤ st.counts.pooled) → take limit (entries_of e st.counts.pooled) ≡ entries_of e (min limit st.counts.pooled)
          go (yes p) = let m : min limit st.counts.pooled ≡ limit = omega arith in rw m (entries.first e limit st.counts.pooled p)
          go (no p) = let m : min limit st.counts.pooled ≡ st.counts.pooled = omega (arith, p) in rw m (take_all limit (entries_of e st.counts.pooled) (omega (arith, p, entries.len e st.counts.pooled)))

pub laid_none : (l : List ℕ) → Laid l l []
laid_none l = record { kept = refl; rows = of_none rows l; rest = refl }

-- a listing leaves the rows in it
pub topped_listed : (l m e : List ℕ) (k j : ℕ) (t : Listing) → k ≡ j → t ≡ listing (wrote j) (map brief (entries_of e j)) → Laid l m (map brief (entries_of e k)) → Topped l m (Ok k) t
unfolding listed_of
topped_listed l m e k j t q d a = rw d (record { outcome = ap wrote q; answer = rw (← q) a })
