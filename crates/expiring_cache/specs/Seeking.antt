-- A search by the index finds what a search of the rows, oldest first, finds.
use Rattle.std.specs.Prelude.{None, Option, Some}
use Rattle.std.specs.Option.{MatchOption, is_some}
use Prim.Native.Nat.{ℕ, zero, suc, ◌+◌, ◌-◌, ◌*◌, ◌^◌, ◌≤◌, ◌<◌}
use Rattle.std.proofs.Math.Path.{◌≡◌, refl, ap}
use Rattle.std.proofs.Common.{sym, ◌∙◌, arith}
use Rattle.std.specs.Prelude.{Bool, length}
use Rattle.std.proofs.Math.Bool.{true, false}
use mathlib.Core.List.{List, [], ◌∷◌}
use Rattle.std.proofs.Math.Decide.{dec_lt, ℕ_discrete}
use Rattle.std.proofs.Math.ListN.{get_or}
use Rattle.std.proofs.Math.Dec.{eqb}
use borrow.Author.Tests.{eqb-true, eqb-false, eq-eqb, ne_eqb}
use Rattle.words.specs.Lists.{pick, count, Once}
use Rattle.words.specs.Ids.{Words, id_of, id_at, id-inj, words_at}
use Rattle.words.specs.Buckets.{bucket_of}
use Rattle.words.specs.Chains.{prev, prev-in, prev-gap, checked, checked-le, bounded, bounded-le, Chained}
use Rattle.words.specs.declared.ids.Id.{Id}
use Rattle.expiring_cache.specs.Cache.{Held, young, present, held}
use Rattle.expiring_cache.specs.Laws.{ids}
use Rattle.expiring_cache.specs.Layout.{slots_in, slot_at, key_in, hash_at, link_at, head_at, first_of, window_of, window-length, window-get, cache_of, Windowed, CacheKept}

-- ---- the search of the rows

-- the time that the first row with this id has
unfoldable pub since_of : ℕ → List Held → Option ℕ
since_of k [] = None
since_of k (x ∷ xs) = pick (eqb x.id k) (Some x.since) (since_of k xs)

-- what it says of an id
abbrev pub is_young : ℕ → ℕ → Option ℕ → Bool
is_young ttl time (Some t) = young ttl time t
is_young ttl time None = false

pub since_present : (k : ℕ) (xs : List Held) → present k xs ≡ is_some (since_of k xs)
unfolding since_of
since_present k [] = refl
since_present k (x ∷ xs) = go (eqb x.id k) (since_present k xs)
  where
    go : (t : Bool) → present k xs ≡ is_some (since_of k xs) → pick t true (present k xs) ≡ is_some (pick t (Some x.since) (since_of k xs))
    go true h = refl
    go false h = h

-- by what the code does with it
pub young_of : (ttl time : ℕ) (b : Bool) (r : Option ℕ) → MatchOption r (b ≡ false) (λ t. b ≡ young ttl time t) → b ≡ is_young ttl time r
young_of ttl time b None e = e
young_of ttl time b (Some t) e = e

pub since_held : (ttl time k : ℕ) (xs : List Held) → held ttl time k xs ≡ is_young ttl time (since_of k xs)
unfolding since_of
since_held ttl time k [] = refl
since_held ttl time k (x ∷ xs) = go (eqb x.id k) (since_held ttl time k xs)
  where
    go : (t : Bool) → held ttl time k xs ≡ is_young ttl time (since_of k xs) → pick t (young ttl time x.since) (held ttl time k xs) ≡ is_young ttl time (pick t (Some x.since) (since_of k xs))
    go true h = refl
    go false h = h

module _ (k : ℕ) (d : Held) where
  stands : (xs : List Held) (i : ℕ) → i < length xs → (get_or xs i d).id ≡ k → 1 ≤ count k (ids xs)
  stands [] i h e = absurd (omega arith)
  stands (x ∷ xs) zero h e = rw (eq-eqb x.id k e) (omega arith)
  stands (x ∷ xs) (suc i) h e = omega (arith, stands xs i (omega arith) e)

  -- where no id stands twice, any row with the id is the first
  since-any : (xs : List Held) (i : ℕ) → Once (ids xs) → i < length xs → (get_or xs i d).id ≡ k → since_of k xs ≡ Some (get_or xs i d).since
  unfolding since_of
  since-any [] i o h e = absurd (omega arith)
  since-any (x ∷ xs) zero o h e = rw (eq-eqb x.id k e)
  since-any (x ∷ xs) (suc i) o h e = go (eqb x.id k) refl (o k) (since-any xs i (λ j. omega (arith, o j)) (omega arith) e)
    where
      go : (t : Bool) → eqb x.id k ≡ t → pick t 1 0 + count k (ids xs) ≤ 1 → since_of k xs ≡ Some (get_or xs i d).since → pick t (Some x.since) (since_of k xs) ≡ Some (get_or xs i d).since
      go true q u ih = absurd (omega (arith, stands xs i (omega arith) e))
      go false q u ih = ih

  since_none : (xs : List Held) → ((i : ℕ) → i < length xs → eqb (get_or xs i d).id k ≡ false) → since_of k xs ≡ None
  unfolding since_of
  since_none [] h = refl
  since_none (x ∷ xs) h = rw (h 0 (omega arith)) (since_none xs (λ i q. h (suc i) (omega arith)))

-- ---- the walk

-- links go down
pub link-less : (u i w v : ℕ) → u ≡ bounded i w → v ≡ suc i → u < v
link-less u i w v e f = omega (arith, bounded-le i w)

-- each word is a word
unfoldable pub AllWords : List ℕ → Type 0
AllWords l = (i : ℕ) → get_or l i 0 < 2 ^ 64

-- the bucket of an id of the code
unfoldable pub hash_of : List ℕ → Id → ℕ
hash_of l key = bucket_of key.d (key_in l) (slots_in l)

-- the rows at the places from v on are searched
pub record Seeks (l : List ℕ) (f n : ℕ) (key : Id) (v : ℕ) : Type 0 where
  pub low : v ≤ n
  pub none : Windowed l f n → (j : ℕ) → v ≤ j → j < n → eqb (slot_at l (f + j)).id (id_of key) ≡ false
  pub reach : Windowed l f n → (j : ℕ) → v ≡ suc j → hash_at l (f + j) ≡ hash_of l key

module _ (l : List ℕ) (f n : ℕ) (key : Id) (w : AllWords l) (wk : Words key) where
  -- an id in another bucket is another id
  other-hash : (j : ℕ) → eqb (hash_at l j) (hash_of l key) ≡ false → eqb (slot_at l j).id (id_of key) ≡ false
  unfolding AllWords slot_at id_at id_of hash_at hash_of
  other-hash j d =
      ne_eqb (slot_at l j).id (id_of key)
      (λ e.
      eqb-false (hash_at l j) (hash_of l key) d
      (ap (λ (x : ℕ). bucket_of x (key_in l) (slots_in l)) (id-inj (words_at l (j * 7)) key (w (j * 7), w (j * 7 + 1), w (j * 7 + 2), w (j * 7 + 3)) wk e).3))

  -- from place i down to the last before it in the bucket there is none
  gap : (i j : ℕ) → prev (λ i. hash_at l (f + i)) i (hash_of l key) ≤ j → j < i → eqb (slot_at l (f + j)).id (id_of key) ≡ false
  gap i j a b = other-hash (f + j) (prev-gap (λ i. hash_at l (f + i)) i (hash_of l key) j a b)

  pub seeks-first : (b v : ℕ) → b ≡ hash_of l key → b < slots_in l → v ≡ checked (λ i. hash_at l (f + i)) n b (head_at l b - f) → Seeks l f n key v
  unfolding Windowed
  seeks-first b v e r g =
      record {
        low = rw g (checked-le (λ i. hash_at l (f + i)) n b (head_at l b - f));
        none = λ x j p q. gap n j (rw (is x) at p) q;
        reach = λ x j p. prev-in (λ i. hash_at l (f + i)) n (hash_of l key) j (sym (is x) ∙ p);
      }
    where
      is : Chained (λ i. hash_at l (f + i)) (λ i. link_at l (f + i) - f) (λ b. head_at l b - f) (slots_in l) n → v ≡ prev (λ i. hash_at l (f + i)) n (hash_of l key)
      is x = g ∙ x.heads b r ∙ ap (prev (λ i. hash_at l (f + i)) n) e

  module _ (v i : ℕ) (s : Seeks l f n key v) (e : v ≡ suc i) where
    pub seeks-next : (u y : ℕ) → y ≡ (slot_at l (f + i)).id → eqb y (id_of key) ≡ false → u ≡ bounded i (link_at l (f + i) - f) → Seeks l f n key u
    unfolding Windowed
    seeks-next u y h t g =
        record {
          low = omega (arith, s.low, g, bounded-le i (link_at l (f + i) - f));
          none = λ x j p q. go x j (rw (is x) at p) q (dec_lt j i) (ℕ_discrete j i);
          reach = λ x j p. prev-in (λ i. hash_at l (f + i)) i (hash_of l key) j (sym (is x) ∙ p);
        }
      where
        is : Chained (λ i. hash_at l (f + i)) (λ i. link_at l (f + i) - f) (λ b. head_at l b - f) (slots_in l) n → u ≡ prev (λ i. hash_at l (f + i)) i (hash_of l key)
        is x = g ∙ x.links i (omega (arith, s.low)) ∙ ap (prev (λ i. hash_at l (f + i)) i) (s.reach x i e)

        go : Chained (λ i. hash_at l (f + i)) (λ i. link_at l (f + i) - f) (λ b. head_at l b - f) (slots_in l) n → (j : ℕ) → prev (λ i. hash_at l (f + i)) i (hash_of l key) ≤ j → j < n → Dec (j < i) → Dec (j ≡ i) → eqb (slot_at l (f + j)).id (id_of key) ≡ false
        go x j p q (yes a) b = gap i j p a
        go x j p q (no a) (yes b) = rw (b, ← h) t
        go x j p q (no a) (no b) = s.none x j (omega (arith, a, b)) q

-- ---- what the search answers

module _ (l : List ℕ) (n : ℕ) (key : Id) where
  pub seek-empty : n ≡ 0 → None ≡ since_of (id_of key) (cache_of l n)
  unfolding cache_of window_of since_of
  seek-empty e = rw e

  module _ (f v : ℕ) (start : f ≡ first_of l n) (s : Seeks l f n key v) where
    index : CacheKept l n → Windowed l f n
    index k = rw start k.index

    is-window : window_of l f n ≡ cache_of l n
    unfolding cache_of
    is-window = ap (λ (x : ℕ). window_of l x n) start

    pub seek-end : v ≡ 0 → CacheKept l n → None ≡ since_of (id_of key) (cache_of l n)
    seek-end e k =
        sym
        (ap (since_of (id_of key)) (sym is-window)
        ∙ since_none (id_of key) (slot_at l 0) (window_of l f n)
        (λ i q.
        let b : i < n = omega (arith, window-length l f n) in
        rw (window-get l f n i (slot_at l 0) b) (s.none (index k) i (omega arith) b)))

    pub seek_hit : (i t y : ℕ) → v ≡ suc i → y ≡ (slot_at l (f + i)).id → eqb y (id_of key) ≡ true → t ≡ (slot_at l (f + i)).since → CacheKept l n → Some t ≡ since_of (id_of key) (cache_of l n)
    seek_hit i t y e a h g k =
        let b : i < n = omega (arith, s.low) in
        let at = window-get l f n i (slot_at l 0) b in
        ap Some g
        ∙ sym
        (ap (since_of (id_of key)) (sym is-window)
        ∙ since-any (id_of key) (slot_at l 0) (window_of l f n) i (rw is-window k.once) (omega (arith, window-length l f n)) (ap (λ (x : Held). x.id) at ∙ sym a ∙ eqb-true y (id_of key) h)
        ∙ ap (λ (x : Held). Some x.since) at)
