-- Laws of printing: a text behind a text (`prints-then`), a list of things one behind the other (`printing-turn`), and how long the texts can be.
use Rattle.std.specs.Prelude.{ℕ, zero, suc, ◌+◌, ◌*◌, ◌≤◌, ◌<◌, ◌≡◌, refl, List, [], ◌∷◌, ◌++◌, length, get_or, take, drop, set}
use Rattle.std.proofs.Common.{sym, ap, ap₂, ◌∙◌, subst, append_assoc, append-nil, add-zero, mul-le-mul_left, mul-suc, add-one, arith, length-append, length-drop, drop_of_length-le, take-append-drop, drop-cons, take_at}
use Rattle.words.specs.Lists.{flat, flat_append}
use Rattle.words.specs.Rows.{blk-lit, rec_at}
use Rattle.words.specs.Tables.{Table, drop_of, drop_past, of_none, of-suc}
use Rattle.words.specs.Ids.{join_is, id_of, id_at}
use Rattle.words.specs.declared.ids.Id.{Id}
use Rattle.forms.specs.Nums.{joined, id_number, id_text, decimal_text, over, Prints}
use Rattle.forms.specs.NumLaws.{wrote_one, wrote_then, length-numeral}
use Rattle.boxes.specs.Flat.{ids_to, ids}
use Rattle.peers.specs.Flat.{flat_peers, flat_at, flats, flat-at}
use Rattle.mempool.specs.Listing.{Row, row_dec, row_at, rows_of, rows}
use Rattle.replies.specs.Replies.{closed, spaced, parted, weights, row_text, row_of, Pair, pair_dec, pair_at, pairs_of, pairs, pair_text, peer_text}

-- ---- a text behind a text

pub prints-none : (at : ℕ) (x : List ℕ) → Prints [] at x x at
prints-none at x = record { ends = sym (add-zero at); wrote = sym (rw (add-zero at) (take-append-drop at x)) }

pub prints-one : (at : ℕ) (x : List ℕ) (c : ℕ) → at < length x → Prints (c ∷ []) at x (set x at c) (at + 1)
prints-one at x c h = record { ends = refl; wrote = wrote_one at x c h }

pub prints-then : {t u x y z : List ℕ} {at k r : ℕ} → k ≤ length x → Prints t at x y k → Prints u k y z r → Prints (t ++ u) at x z r
prints-then {t} {u} {x} {y} {z} {at} {k} {r} h p q =
    record {
      ends = omega (arith, p.ends, q.ends, length-append t u);
      wrote = wrote_then at x t y u z (omega (arith, p.ends)) p.wrote (subst (λ (n : ℕ). z ≡ over n u y) p.ends q.wrote);
    }

pub prints-to : {t x y z : List ℕ} {at r : ℕ} → z ≡ y → Prints t at x y r → Prints t at x z r
prints-to {t} {x} {y} {z} {at} {r} e p = subst (λ (w : List ℕ). Prints t at x w r) (sym e) p

-- a line printed from the start: the bytes up to the place returned are the text, and they fit
pub line-is : {t x y : List ℕ} {r : ℕ} → Prints t 0 x y r → take r y ≡ t
line-is {t} {x} p = rw (p.ends, p.wrote) (take_at t (drop (0 + length t) x) (0 + length t) (omega arith))

pub line-fits : {t x y : List ℕ} {r : ℕ} → length y ≡ length x → Prints t 0 x y r → r ≤ length x
line-fits {t} {x} e p = omega (arith, p.ends, ap length p.wrote, length-append t (drop (0 + length t) x), length-drop (0 + length t) x)

-- ---- one after the other: what was printed and what is left are the whole

pub record Printing (whole left : List ℕ) (at : ℕ) (x y : List ℕ) (k : ℕ) : Type 0 where
  pub text : List ℕ
  pub joins : text ++ left ≡ whole
  pub prints : Prints text at x y k

pub printing-none : (w : List ℕ) (at : ℕ) (x : List ℕ) → Printing w w at x x at
printing-none w at x = record { text = []; joins = refl; prints = prints-none at x }

printing-more : {w x y z : List ℕ} {at k r : ℕ} (t u : List ℕ) → k ≤ length x → Printing w (t ++ u) at x y k → Prints t k y z r → Printing w u at x z r
printing-more t u h p q = record { text = p.text ++ t; joins = append_assoc p.text t u ∙ p.joins; prints = prints-then h p.prints q }

printing-all : {w x y : List ℕ} {at k : ℕ} → Printing w [] at x y k → Prints w at x y k
printing-all {w} {x} {y} {at} {k} p = subst (λ (t : List ℕ). Prints t at x y k) (sym (append-nil p.text) ∙ p.joins) p.prints

-- byte by byte
module _ (s : List ℕ) where
  pub bytes-turn : {w x y z : List ℕ} {at k r : ℕ} (i : ℕ) → i < length s → k ≤ length x → Printing w (drop i s) at x y k → Prints (get_or s i 0 ∷ []) k y z r → Printing w (drop (i + 1) s) at x z r
  bytes-turn i h room p q = printing-more (get_or s i 0 ∷ []) (drop (i + 1) s) room (rw (add-one i) (rw (drop-cons s i 0 h) at p)) q

  pub bytes-end : {w x y : List ℕ} {at k : ℕ} (i : ℕ) → length s ≤ i → Printing w (drop i s) at x y k → Prints w at x y k
  bytes-end i h p = printing-all (rw (drop_of_length-le s {i = i} h) at p)

-- record by record, each printed as f of it
module _ {A : Type 0} {of : List ℕ → ℕ → List A} {at : List ℕ → ℕ → A} (T : Table of at) (f : A → List ℕ) (l : List ℕ) (n i : ℕ) where
  pub printing-turn : {w x y z : List ℕ} {p k r : ℕ} → i < n → k ≤ length x → Printing w (flat f (drop i (of l n))) p x y k → Prints (f (at l i)) k y z r → Printing w (flat f (drop (i + 1) (of l n))) p x z r
  printing-turn h room p q = printing-more (f (at l i)) (flat f (drop (i + 1) (of l n))) room (rw (drop_of T l n i h) at p) q

  pub printing-end : {w x y : List ℕ} {p k : ℕ} → n ≤ i → Printing w (flat f (drop i (of l n))) p x y k → Prints w p x y k
  printing-end h p = printing-all (rw (drop_past T l n i h) at p)

-- ---- how long the texts can be

pub id-long : (x : ℕ) → length (id_text x) ≤ 64
id-long x = length-numeral 16 64 x

decimal-long : (n : ℕ) → length (decimal_text n) ≤ 20
decimal-long n = length-numeral 10 20 n

weights-long : (w b : ℕ) → length (weights w b) ≤ 43
unfolding weights
weights-long w b = omega (arith, length-append ((32 ∷ decimal_text w) ++ (32 ∷ decimal_text b)) (41 ∷ []), length-append (32 ∷ decimal_text w) (32 ∷ decimal_text b), decimal-long w, decimal-long b)

pub row-long : (r : Row) → length (row_text r) ≤ 109
unfolding row_text
row-long r = omega (arith, length-append (32 ∷ 40 ∷ id_text r.id) (weights r.weight r.base), id-long r.id, weights-long r.weight r.base)

pub pair-long : (p : Pair) → length (pair_text p) ≤ 44
unfolding pair_text
pair-long p = omega (arith, length-append ((32 ∷ 40 ∷ decimal_text p.one) ++ (32 ∷ decimal_text p.two)) (41 ∷ []), length-append (32 ∷ 40 ∷ decimal_text p.one) (32 ∷ decimal_text p.two), decimal-long p.one, decimal-long p.two)

module _ {A : Type 0} (f : A → List ℕ) (w : ℕ) (short : (x : A) → length (f x) ≤ w) where
  flat-long : (xs : List A) → length (flat f xs) ≤ w * length xs
  flat-long [] = omega arith
  flat-long (x ∷ xs) = let e : w * suc (length xs) ≡ w * length xs + w = mul-suc w (length xs) in omega (arith, length-append (f x) (flat f xs), short x, flat-long xs)

  rest-long : (xs : List A) (i : ℕ) → length (flat f (drop i xs)) ≤ w * length xs
  rest-long xs i =
      let h : length (drop i xs) ≤ length xs = omega (arith, length-drop i xs) in
      let m : w * length (drop i xs) ≤ w * length xs = mul-le-mul_left w h in omega (arith, flat-long (drop i xs))

pub ids-long : (w : ℕ) (l : List ℕ) (n i : ℕ) → length (flat spaced (drop i (ids_to w l n))) ≤ 65 * n
ids-long w l n i = rw ((ids w).len l n) at (rest-long spaced 65 (λ x. omega (arith, id-long x)) (ids_to w l n) i)

pub rows_long : (l : List ℕ) (n : ℕ) → length (flat row_text (rows_of l n)) ≤ 109 * n
rows_long l n = rw (rows.len l n) at (flat-long row_text 109 row-long (rows_of l n))

pub pairs-long : (l : List ℕ) (n : ℕ) → length (flat pair_text (pairs_of l n)) ≤ 44 * n
pairs-long l n = rw (pairs.len l n) at (flat-long pair_text 44 pair-long (pairs_of l n))

-- where they end
pub decimal-ends : (head : List ℕ) (n : ℕ) {at k : ℕ} {x y : List ℕ} → Prints (head ++ decimal_text n) at x y k → k ≤ at + length head + 20
decimal-ends head n p = omega (arith, p.ends, length-append head (decimal_text n), decimal-long n)

pub id-ends : (head : List ℕ) (n : ℕ) {at k : ℕ} {x y : List ℕ} → Prints (head ++ id_text n) at x y k → k ≤ at + length head + 64
id-ends head n p = omega (arith, p.ends, length-append head (id_text n), id-long n)

-- ---- ids, rows and pairs as the code reads them

-- the number that is printed of an id is that of its words
id_same : (x : Id) → id_number x ≡ id_of x
unfolding id_number joined id_of
id_same x = simp join_is

pub prints-id : {at r : ℕ} {y z : List ℕ} (x : Id) → Prints (id_text (id_number x)) at y z r → Prints (id_text (id_of x)) at y z r
prints-id x p = rw (id_same x) at p

pub parted-none : (w : ℕ) (l : List ℕ) (n at : ℕ) (x : List ℕ) → n ≡ 0 → Prints (parted (ids_to w l n)) at x x at
unfolding parted ids_to
parted-none w l n at x e = rw e (prints-none at x)

pub parted-more : (w : ℕ) (l : List ℕ) (n : ℕ) → (n ≡ 0 → ⊥) → id_text (id_at l (0 * w)) ++ flat spaced (drop 1 (ids_to w l n)) ≡ parted (ids_to w l n)
unfolding parted ids_to
parted-more w l zero h = absurd (h refl)
parted-more w l (suc n) h = refl

pub parted-long : (w : ℕ) (l : List ℕ) (n : ℕ) → length (parted (ids_to w l n)) ≤ 64 + 65 * n
unfolding parted ids_to
parted-long w l zero = omega arith
parted-long w l (suc n) =
    let e = parted-more w l (suc n) (λ q. absurd (omega (arith, q))) in
    omega (arith, ap length e, length-append (id_text (id_at l (0 * w))) (flat spaced (drop 1 (ids_to w l (suc n)))), id-long (id_at l (0 * w)), ids-long w l (suc n) 1)

row-at : (l : List ℕ) (i : ℕ) → row_at l i ≡ row_of (id_at l (i * 6)) (get_or l (i * 6 + 4) 0) (get_or l (i * 6 + 5) 0)
unfolding row_at rec_at row_dec id_at
row-at l i = simp (blk-lit 6 l i, tt {0}, add-zero)

pub prints-row : {at r : ℕ} {y z : List ℕ} (l : List ℕ) (i : ℕ) (x : Id) → id_of x ≡ id_at l (i * 6)
    → Prints ((32 ∷ 40 ∷ id_text (id_of x)) ++ weights (get_or l (i * 6 + 4) 0) (get_or l (i * 6 + 5) 0)) at y z r → Prints (row_text (row_at l i)) at y z r
unfolding row_text
prints-row l i x e p = rw (row-at l i, ← e) p

pair-at : (l : List ℕ) (i : ℕ) → pair_at l i ≡ record { one = get_or l (i * 2) 0; two = get_or l (i * 2 + 1) 0 }
unfolding pair_at rec_at pair_dec
pair-at l i = simp (blk-lit 2 l i, tt {0}, add-zero)

pub prints-pair : {at r : ℕ} {y z : List ℕ} (l : List ℕ) (i : ℕ)
    → Prints (closed ((32 ∷ 40 ∷ decimal_text (get_or l (i * 2) 0)) ++ (32 ∷ decimal_text (get_or l (i * 2 + 1) 0)))) at y z r → Prints (pair_text (pair_at l i)) at y z r
unfolding pair_text
prints-pair l i p = rw (pair-at l i) p

-- peer records are printed as the pairs that their words are
pub peers-pairs : (l : List ℕ) (n : ℕ) → flat peer_text (flat_peers l n) ≡ flat pair_text (pairs_of l n)
peers-pairs l zero = ap (flat peer_text) (of_none flats l) ∙ sym (ap (flat pair_text) (of_none pairs l))
peers-pairs l (suc n) =
    let e : peer_text (flat_at l n) ≡ pair_text (pair_at l n) = rw (flat-at l n, pair-at l n) in
    ap (λ (m : ℕ). flat peer_text (flat_peers l m)) (sym (add-one n))
    ∙ ap (flat peer_text) (of-suc flats l n)
    ∙ flat_append peer_text (flat_peers l n) (flat_at l n ∷ [])
    ∙ ap₂ (λ (a b : List ℕ). a ++ (b ++ [])) (peers-pairs l n) e
    ∙ sym (flat_append pair_text (pairs_of l n) (pair_at l n ∷ []))
    ∙ ap (flat pair_text) (sym (of-suc pairs l n))
    ∙ ap (λ (m : ℕ). flat pair_text (pairs_of l m)) (add-one n)
