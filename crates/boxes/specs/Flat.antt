-- Lists that callers hand in as words: records of W words, of which each begins with an id, for any width of at least four. `ids_to W l n` is the
-- list of the first n ids, and `ids_of W l` that of all whole records.
use Rattle.std.specs.Prelude.{ℕ, zero, suc, ◌+◌, ◌-◌, ◌*◌, ◌/◌, ◌≤◌, ◌<◌, ◌≡◌, refl, false, ◌||◌, List, [], ◌∷◌, eqb, length, drop, set}
use Rattle.std.specs.List.{list_any, range_with_len}
use Rattle.std.proofs.Common.{sym, ap, ◌∙◌, add-mul, mul-le-mul_right, div-mul-le_self, div-le_self, add-zero, one-mul, arith, ext_get_or}
use Rattle.words.specs.Rows.{tab, length-tab, get_or-tab, take-tab, blk-lit, recs, rec_at, length-recs, get_or-recs, recs-store, stored}
use Rattle.words.specs.Tables.{Table, drop_of, drop_past}
use Rattle.words.specs.Ids.{num, id_of, id_at, id_words}
use Rattle.words.specs.declared.ids.Id.{Id}
use Rattle.boxes.specs.Among.{among, among-cons}

unfoldable pub ids_to : ℕ → List ℕ → ℕ → List ℕ
ids_to W l n = tab (λ i. id_at l (i * W)) n

-- how many whole records there are, and their ids
abbrev pub count_of : ℕ → List ℕ → ℕ
count_of W l = length l / W

abbrev pub ids_of : ℕ → List ℕ → List ℕ
ids_of W l = ids_to W l (count_of W l)

-- two records of five words; the words behind the last whole record are none
ids_of-edge : (ids_of 5 (0 ∷ 0 ∷ 0 ∷ 1 ∷ 9 ∷ 0 ∷ 0 ∷ 1 ∷ 2 ∷ 9 ∷ 3 ∷ []) ≡ num 0 0 0 1 ∷ num 0 0 1 2 ∷ []) × (ids_of 4 [] ≡ [])
unfolding ids_to id_at
ids_of-edge = (refl, refl)

-- the three laws of a table (`Tables`)
pub ids : (W : ℕ) → Table (ids_to W) (λ l i. id_at l (i * W))
unfolding ids_to
ids W = record { len = λ l n. length-tab (λ i. id_at l (i * W)) n; get = λ l n i d h. get_or-tab (λ i. id_at l (i * W)) n i d h; first = λ l k n h. take-tab (λ i. id_at l (i * W)) k n h }

-- ---- the words of a record are there

-- a record that is whole
pub whole : (W : ℕ) (l : List ℕ) (i : ℕ) → i < count_of W l → i * W + W ≤ length l
whole W l i h =
    let p : (i + 1) * W ≤ length l / W * W = mul-le-mul_right W (omega arith) in
    let q : (i + 1) * W ≡ i * W + W = rw (add-mul i 1 W, one-mul W) in
    omega (arith, div-mul-le_self (length l) W)

-- a count of records is an index
pub count-le : (W : ℕ) (l : List ℕ) → count_of W l ≤ length l
count-le W l = div-le_self (length l) W

-- ---- a search through them

among-here : (W : ℕ) (l : List ℕ) (n i k : ℕ) → i < n → among k (drop i (ids_to W l n)) ≡ (eqb (id_at l (i * W)) k || among k (drop (i + 1) (ids_to W l n)))
among-here W l n i k h = rw (drop_of (ids W) l n i h) (among-cons k (id_at l (i * W)) (drop (i + 1) (ids_to W l n)))

among-end : (W : ℕ) (l : List ℕ) (n i k : ℕ) → n ≤ i → among k (drop i (ids_to W l n)) ≡ false
among-end W l n i k h = rw (drop_past (ids W) l n i h)

-- the same, as a chain over the records says it
pub among-range : (W : ℕ) (l : List ℕ) (k m i n : ℕ) → n - i ≡ m → among k (drop i (ids_to W l n)) ≡ list_any (λ j. eqb (id_at l (j * W)) k) (range_with_len i m)
among-range W l k zero i n e = among-end W l n i k (omega arith)
among-range W l k (suc m) i n e = among-here W l n i k (omega arith) ∙ ap (λ t. eqb (id_at l (i * W)) k || t) (among-range W l k m (i + 1) n (omega arith))

-- ---- a list of ids alone, as answers are written: an id stored is `set` on the list of ids

abbrev id_dec : List ℕ → ℕ
id_dec b = id_at b 0

id-blk : (l : List ℕ) (i : ℕ) → rec_at 4 id_dec l i ≡ id_at l (i * 4)
unfolding rec_at id_at
id-blk l i = simp (blk-lit 4 l i, tt {0}, add-zero)

recs-ids : (l : List ℕ) (n : ℕ) → ids_to 4 l n ≡ recs 4 id_dec l n
recs-ids l n =
    ext_get_or 0 _ _ ((ids 4).len l n ∙ sym (length-recs 4 id_dec l n))
    λ i h. let b : i < n = omega (arith, (ids 4).len l n) in
    (ids 4).get l n i 0 b ∙ sym (get_or-recs 4 id_dec l n i 0 b ∙ id-blk l i)

pub ids-put : (l : List ℕ) (i : ℕ) (x : Id) → i * 4 + 4 ≤ length l → (n : ℕ) → ids_to 4 (stored l (i * 4) (id_words x)) n ≡ set (ids_to 4 l n) i (id_of x)
unfolding id_of id_at
ids-put l i x h n = rw (recs-ids (stored l (i * 4) (id_words x)) n, recs-ids l n) (recs-store 4 id_dec l (id_words x) i refl h n)
