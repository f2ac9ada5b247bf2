-- The list of conflicts, input by input: what the code promises of the lent list (words l before, m after), and the laws of its loop.
use Rattle.std.specs.Prelude.{ℕ, ◌+◌, ◌-◌, ◌*◌, ◌≤◌, ◌<◌, ◌≡◌, true, false, List, [], ◌∷◌, ◌++◌, eqb, length, drop}
use Rattle.std.proofs.Math.Path.{refl}
use Rattle.std.proofs.Common.{sym, ap, ◌∙◌, arith, drop-drop, drop-set-lt}
use Rattle.std.proofs.lemmas.Bool.{not-true, not-false}
use Rattle.words.specs.Lists.{count, flat}
use Rattle.words.specs.Rows.{stored}
use Rattle.words.specs.Tables.{drop_of, drop_past, put-end}
use Rattle.words.specs.Ids.{id_of, id_at, id_words}
use Rattle.words.specs.declared.ids.Id.{Id}
use Rattle.boxes.specs.Records.{Pair, lookup, once, dedup, conflicts}
use Rattle.boxes.specs.Among.{among}
use Rattle.boxes.specs.Flat.{count_of, ids_to, ids_of, ids, ids-put}

-- ids ks were put behind the first n, those that are not there yet: r stand there now, and the rest is as it was
pub record Added (l m : List ℕ) (n r : ℕ) (ks : List ℕ) : Type 0 where
  pub low : n ≤ r
  pub high : r ≤ n + 1
  pub rows : ids_to 4 m r ≡ dedup ks (ids_to 4 l n)
  pub rest : drop (r * 4) m ≡ drop (r * 4) l

-- r ids were written, no more than n, and the rest is as it was
pub record Listed (l m : List ℕ) (n r : ℕ) (ks : List ℕ) : Type 0 where
  pub kept : length m ≡ length l
  pub high : r ≤ n
  pub count : r ≡ length ks
  pub rows : ids_to 4 m r ≡ ks
  pub rest : drop (r * 4) m ≡ drop (r * 4) l

-- ---- one id

once-in : (k : ℕ) (seen : List ℕ) → among k seen ≡ true → once k seen ≡ seen
once-in k seen h = rw (not-true (eqb (count k seen) 0) h)

once-new : (k : ℕ) (seen : List ℕ) → among k seen ≡ false → once k seen ≡ seen ++ (k ∷ [])
once-new k seen h = rw (not-false (eqb (count k seen) 0) h)

added_none : (l : List ℕ) (n : ℕ) → Added l l n n []
added_none l n = record { low = omega arith; high = omega arith; rows = refl; rest = refl }

pub added-in : (l : List ℕ) (n k : ℕ) → among k (ids_to 4 l n) ≡ true → Added l l n n (k ∷ [])
added-in l n k h = record { low = omega arith; high = omega arith; rows = sym (once-in k (ids_to 4 l n) h); rest = refl }

put_rest : (l : List ℕ) (n a b c d : ℕ) → drop ((n + 1) * 4) (stored l (n * 4) (a ∷ b ∷ c ∷ d ∷ [])) ≡ drop ((n + 1) * 4) l
put_rest l n a b c d =
    drop-set-lt ((n + 1) * 4) _ (n * 4 + 3) d (omega arith)
    ∙ drop-set-lt ((n + 1) * 4) _ (n * 4 + 2) c (omega arith)
    ∙ drop-set-lt ((n + 1) * 4) _ (n * 4 + 1) b (omega arith)
    ∙ drop-set-lt ((n + 1) * 4) l (n * 4) a (omega arith)

pub added_new : (l : List ℕ) (n : ℕ) (x : Id) → n * 4 + 4 ≤ length l → among (id_of x) (ids_to 4 l n) ≡ false → Added l (stored l (n * 4) (id_words x)) n (n + 1) (id_of x ∷ [])
added_new l n x g h =
    record {
      low = omega arith;
      high = omega arith;
      rows = put-end (ids 4) l (stored l (n * 4) (id_words x)) n (id_of x) (ids-put l n x g) ∙ sym (once-new (id_of x) (ids_to 4 l n) h);
      rest = put_rest l n x.a x.b x.c x.d;
    }

-- ---- one box: its owner, if there is one

-- ---- input by input

dedup-append : (a b seen : List ℕ) → dedup (a ++ b) seen ≡ dedup b (dedup a seen)
dedup-append [] b seen = refl
dedup-append (k ∷ a) b seen = dedup-append a b (once k seen)

drop_more : (l m : List ℕ) (a b : ℕ) → a ≤ b → drop a l ≡ drop a m → drop b l ≡ drop b m
drop_more l m a b h e =
    let q : b ≡ a + (b - a) = omega arith in
    rw q (sym (drop-drop (b - a) a l) ∙ ap (drop (b - a)) e ∙ drop-drop (b - a) a m)

-- of j inputs done n ids are listed: where the index is right (K), what is left to do gives what all of them give
pub record Listing (K : Type 0) (ps : List Pair) (W : ℕ) (inputs l₀ l : List ℕ) (j n : ℕ) : Type 0 where
  pub done : j ≤ count_of W inputs
  pub high : n ≤ j
  pub kept : length l ≡ length l₀
  pub rows : K → dedup (flat (lookup ps) (drop j (ids_of W inputs))) (ids_to 4 l n) ≡ conflicts ps (ids_of W inputs)
  pub rest : K → drop (n * 4) l ≡ drop (n * 4) l₀

module _ (K : Type 0) (ps : List Pair) (W : ℕ) (inputs : List ℕ) where
  pub list-none : (l : List ℕ) → Listing K ps W inputs l l 0 0
  unfolding ids_to
  list-none l = record { done = omega arith; high = omega arith; kept = refl; rows = λ x. refl; rest = λ x. refl }

  pub list-more : (l₀ l m : List ℕ) (j n r y : ℕ) → j < count_of W inputs → length m ≡ length l → y ≡ id_at inputs (j * W) → Listing K ps W inputs l₀ l j n → r ≤ n + 1 → (K → Added l m n r (lookup ps y))
      → Listing K ps W inputs l₀ m (j + 1) r
  list-more l₀ l m j n r y h g e k b a =
      record {
        done = omega arith;
        high = omega (arith, k.high);
        kept = g ∙ k.kept;
        rows =
            λ x.
            ap (dedup (flat (lookup ps) (drop (j + 1) (ids_of W inputs)))) ((a x).rows ∙ rw e)
            ∙ sym (dedup-append (lookup ps (id_at inputs (j * W))) (flat (lookup ps) (drop (j + 1) (ids_of W inputs))) (ids_to 4 l n))
            ∙ ap (λ bs. dedup (flat (lookup ps) bs) (ids_to 4 l n)) (sym (drop_of (ids W) inputs (count_of W inputs) j h))
            ∙ k.rows x;
        rest = λ x. (a x).rest ∙ drop_more l l₀ (n * 4) (r * 4) (omega (arith, (a x).low)) (k.rest x);
      }

  pub list_all : (l₀ l : List ℕ) (j n : ℕ) → count_of W inputs ≤ j → Listing K ps W inputs l₀ l j n → K → Listed l₀ l (count_of W inputs) n (conflicts ps (ids_of W inputs))
  list_all l₀ l j n h k x =
      let e : ids_to 4 l n ≡ conflicts ps (ids_of W inputs) =
      ap (λ bs. dedup (flat (lookup ps) bs) (ids_to 4 l n)) (sym (drop_past (ids W) inputs (count_of W inputs) j h)) ∙ k.rows x in
      record { kept = k.kept; high = omega (arith, k.high, k.done); count = sym ((ids 4).len l n) ∙ ap length e; rows = e; rest = k.rest x }
