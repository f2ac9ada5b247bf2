-- What the exported queries answer: a number, and refusal n as 2^64−1−n, which no query answers otherwise (it is above every count of records
-- that lent words hold). A listed entry stands in the answer buffer as crate mempool lays it.
use Rattle.std.specs.Prelude.{Some}
use Rattle.pool_types.specs.Refusals.{refusal_number}
use Rattle.std.specs.Prelude.{Err, None, Ok, Option, Result}
use Rattle.pool_types.specs.declared.Refusal.{Refusal}
use Rattle.pool_types.specs.declared.PooledTx.{PooledTx}
use Rattle.std.specs.Prelude.{ℕ, ◌-◌, ◌≤◌, ◌<◌, ◌≡◌, refl, true, List, [], ◌∷◌, ltb, length}
use Rattle.std.proofs.Math.Path.{ap}
use Rattle.std.proofs.Common.{◌∙◌}
use borrow.Author.Tests.{lt-ltb, le-ltb}
use Rattle.words.specs.Lists.{pick}
use Rattle.words.specs.Sums.{cap}
use Rattle.words.specs.Ids.{id_of}
use Rattle.words.specs.Rows.{stored}
use Rattle.words.specs.Tables.{put-end, of_none}
use Rattle.words.specs.declared.ids.Id.{Id}
use Rattle.pool_types.specs.declared.Mempool.{Mempool}
use Rattle.pool_types.specs.Outcomes.{Outcome, refused, done, wrote, needed, candidate, ended, missing, invalid, valid, number, said, entry, none, listed_of, looked_of}
use Rattle.mempool.specs.Queries.{spending_of, spending_with, entry_seen}
use Rattle.mempool.specs.Listing.{Row, rows, row_words, Laid, Listing, listing, top_of, Topped, RowPut, row_put, laid_none}
use Rattle.host.specs.State.{state_of}

-- yes, a transaction found and a count answer 1, 1 and the count; no and none answer 0
unfoldable pub query_of : Outcome → ℕ
query_of (refused n k) = cap - n
query_of done = 0
query_of (wrote k) = k
query_of needed = 0
query_of (candidate k) = 0
query_of (ended n) = 0
query_of (missing k) = 0
query_of (invalid k) = 0
query_of (valid k) = 0
query_of (number n) = n
query_of (said b) = pick b 1 0
query_of (entry k w b) = 1
query_of none = 0

answers : (query_of (said true) ≡ 1) × (query_of none ≡ 0) × (query_of (refused 1 0) ≡ 18446744073709551614) × (query_of (refused 2 0) ≡ 18446744073709551613)
unfolding query_of
answers = (refl, refl, refl, refl)

-- ---- a number: a state of too few words is refused with 1

unfoldable pub queried : List ℕ → Outcome → ℕ
queried s o = query_of (pick (ltb (length s) 25) (refused 1 0) o)

module _ (s : List ℕ) where
  pub query-short : (o : Outcome) → length s < 25 → cap - 1 ≡ queried s o
  unfolding queried query_of
  query-short o h = rw (lt-ltb _ _ h)

  -- by a query of the state that was read
  pub query-by : (f : Mempool → Outcome) {st : Mempool} {o : Outcome} {n : ℕ} → 25 ≤ length s → st ≡ state_of s → o ≡ f st → n ≡ query_of o → n ≡ queried s (f (state_of s))
  unfolding queried
  query-by f h e q r = r ∙ rw (le-ltb (length s) 25 h, ← e, q)

-- ---- rows: the number, and what stands in the answer buffer

pub record Rows (a₀ a : List ℕ) (code : ℕ) (t : Listing) : Type 0 where
  pub answered : code ≡ query_of t.outcome
  pub answer : Laid a₀ a t.rows

-- a transaction that was found is a row
abbrev pub rows_in : Outcome → List Row
rows_in (refused n k) = []
rows_in done = []
rows_in (wrote k) = []
rows_in needed = []
rows_in (candidate k) = []
rows_in (ended n) = []
rows_in (missing k) = []
rows_in (invalid k) = []
rows_in (valid k) = []
rows_in (number n) = []
rows_in (said b) = []
rows_in (entry k w b) = record { id = k; weight = w; base = b } ∷ []
rows_in none = []

-- a state of too few words is refused with 1, an answer buffer of less than a row with 2; else what f says of the state
unfoldable pub spent_by : (Mempool → Outcome) → List ℕ → ℕ → Listing
spent_by f s words =
    pick (ltb (length s) 25) (listing (refused 1 0) [])
    (pick (ltb words 6) (listing (refused 2 0) [])
    (listing (f (state_of s)) (rows_in (f (state_of s)))))

-- the transaction that spends a box; and on any words, where o was seen
abbrev pub spent_of : List ℕ → List ℕ → List ℕ → ℕ → ℕ → Listing
spent_of e b s words box = spent_by (λ st. spending_of e b st box) s words

abbrev pub spent_with : List ℕ → List ℕ → List ℕ → ℕ → Result (Option PooledTx) Refusal → Listing
spent_with e b s words o = spent_by (λ st. spending_with e b st (entry_seen o)) s words

-- the first entries, as `top` lists them
unfoldable pub topped_of : List ℕ → List ℕ → ℕ → ℕ → Listing
topped_of e s words limit = pick (ltb (length s) 25) (listing (refused 1 0) []) (top_of e (state_of s) words limit)

-- ---- test by test

rows-refused : (a : List ℕ) (n : ℕ) (t : Listing) → t ≡ listing (refused n 0) [] → Rows a a (cap - n) t
unfolding query_of
rows-refused a n t e = rw e (record { answered = refl; answer = laid_none a })

module _ (e s a : List ℕ) (limit : ℕ) where
  pub top-short : length s < 25 → Rows a a (cap - 1) (topped_of e s (length a) limit)
  unfolding topped_of
  top-short h = rows-refused a 1 _ (rw (lt-ltb _ _ h))

  pub top-by : (a' : List ℕ) {st : Mempool} {o : Result ℕ Refusal} {n : ℕ} → 25 ≤ length s → st ≡ state_of s → Topped a a' o (top_of e st (length a) limit) → n ≡ query_of (listed_of o) → Rows a a' n (topped_of e s (length a) limit)
  unfolding topped_of
  top-by a' h q t r = rw (le-ltb (length s) 25 h, ← q) (record { answered = r ∙ ap query_of t.outcome; answer = t.answer })

-- a row at the first place
pub first-row : (l : List ℕ) (x : Id) (w b : ℕ) → 6 ≤ length l → Laid l (stored l 0 (row_words x w b)) (record { id = id_of x; weight = w; base = b } ∷ [])
first-row l x w b h =
    let r : Row = record { id = id_of x; weight = w; base = b } in
    let p : RowPut l (stored l 0 (row_words x w b)) 0 r = row_put l 0 x w b r h refl refl refl in
    record { kept = p.kept; rows = put-end rows l (stored l 0 (row_words x w b)) 0 r p.rows ∙ rw (of_none rows l); rest = p.rest }

module _ (f : Mempool → Outcome) (s a : List ℕ) where
  pub spent-short : length s < 25 → Rows a a (cap - 1) (spent_by f s (length a))
  unfolding spent_by
  spent-short h = rows-refused a 1 _ (rw (lt-ltb _ _ h))

  pub spent-room : 25 ≤ length s → length a < 6 → Rows a a (cap - 2) (spent_by f s (length a))
  unfolding spent_by
  spent-room h g = rows-refused a 2 _ (rw (le-ltb _ _ h, lt-ltb _ _ g))

  module _ (h : 25 ≤ length s) (g : 6 ≤ length a) {st : Mempool} (o : Result (Option PooledTx) Refusal) (q : st ≡ state_of s) (r : looked_of o ≡ f st) where
    is : spent_by f s (length a) ≡ listing (looked_of o) (rows_in (looked_of o))
    unfolding spent_by
    is = rw (le-ltb (length s) 25 h, le-ltb (length a) 6 g, ← q, ← r)

    pub spent-entry : (a' : List ℕ) (x : PooledTx) → o ≡ Ok (Some x) → a' ≡ stored a 0 (row_words x.id x.weight x.base) → Rows a a' 1 (spent_by f s (length a))
    unfolding query_of looked_of
    spent-entry a' x d z = rw (is, d, z) (record { answered = refl; answer = first-row a x.id x.weight x.base g })

    pub spent-none : o ≡ Ok None → Rows a a 0 (spent_by f s (length a))
    unfolding query_of looked_of
    spent-none d = rw (is, d) (record { answered = refl; answer = laid_none a })

    pub spent-refused : (why : Refusal) → o ≡ Err why → Rows a a (cap - refusal_number why) (spent_by f s (length a))
    unfolding looked_of
    spent-refused why d = rows-refused a (refusal_number why) _ (is ∙ rw d)
