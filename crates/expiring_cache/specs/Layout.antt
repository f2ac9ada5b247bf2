-- The cache in words. Slot i has seven, from index 7 * i on: the id's four, the time, the slot's link, and one that belongs to bucket i, its head. Two
-- words behind the slots are the first slot of the window and the key of the buckets. The rows are those of the window, oldest first (`cache_of`).
-- Nothing outside of this file, `Index` and the proofs of the functions in rows.rt and links.rt unfolds a definition under "the words".
use Rattle.std.specs.Prelude.{ℕ, zero, suc, ◌+◌, ◌-◌, ◌*◌, ◌/◌, ◌≤◌, ◌<◌, min, ◌≡◌, refl, List, [], ◌∷◌, ◌++◌, length, get_or, set, drop}
use Rattle.std.proofs.Common.{ap, ◌∙◌, add-zero, arith, length-set, drop_at, get_or-set_same}
use Rattle.std.specs.Coded.{le_prop}
use Rattle.words.specs.Rows.{tab, length-tab, get_or-tab, tab-ext, tab-add}
use Rattle.words.specs.Ids.{id_of, id_at}
use Rattle.words.specs.Lists.{Once}
use Rattle.words.specs.Buckets.{bucket_of}
use Rattle.words.specs.Chains.{Chained, chained-none}
use Rattle.expiring_cache.specs.Cache.{Held, remember, prune}
use Rattle.expiring_cache.specs.Laws.{ids}
use Rattle.expiring_cache.specs.declared.rows.Row.{Row}

-- how many slots, and how many buckets, the words have
abbrev pub slots_in : List ℕ → ℕ
slots_in l = (length l - 2) / 7

-- ---- the words

-- a row of the code, as a row of the list
unfoldable pub held_of : Row → Held
held_of r = record { id = id_of r.id; since = r.since }

-- the words of a row
abbrev pub row_words : Row → List ℕ
row_words r = r.id.a ∷ r.id.b ∷ r.id.c ∷ r.id.d ∷ r.since ∷ []

-- the row in slot i, its bucket, its link, and the head of bucket b
unfoldable pub slot_at : List ℕ → ℕ → Held
slot_at l i = record { id = id_at l (i * 7); since = get_or l (i * 7 + 4) 0 }

unfoldable pub key_in : List ℕ → ℕ
key_in l = get_or l (slots_in l * 7 + 1) 0

unfoldable pub hash_at : List ℕ → ℕ → ℕ
hash_at l i = bucket_of (get_or l (i * 7 + 3) 0) (key_in l) (slots_in l)

unfoldable pub link_at : List ℕ → ℕ → ℕ
link_at l i = get_or l (i * 7 + 5) 0

unfoldable pub head_at : List ℕ → ℕ → ℕ
head_at l b = get_or l (b * 7 + 6) 0

-- the first slot of a window of n rows: a word that leaves too few slots for them is taken for the last that does not
unfoldable pub first_of : List ℕ → ℕ → ℕ
first_of l zero = 0
first_of l (suc n) = min (get_or l (slots_in l * 7) 0) (slots_in l - suc n)

first-is : (l : List ℕ) (n : ℕ) → min (get_or l (slots_in l * 7) 0) (slots_in l - suc n) ≡ first_of l (suc n)
unfolding first_of
first-is l n = refl

-- what the code reads
module _ (l : List ℕ) (n : ℕ) where
  pub first-zero : n ≡ 0 → 0 ≡ first_of l n
  unfolding first_of
  first-zero e = rw e

  pub first_some : (s w r : ℕ) → (n ≡ 0 → ⊥) → s ≡ slots_in l → w ≡ get_or l (s * 7) 0 → r ≡ min w (s - n) → r ≡ first_of l n
  first_some s w r d e f g = g ∙ (λ t. min ((f ∙ ap (λ (x : ℕ). get_or l (x * 7) 0) e) t) (e t - n)) ∙ go n d
    where
      go : (n : ℕ) → (n ≡ 0 → ⊥) → min (get_or l (slots_in l * 7) 0) (slots_in l - n) ≡ first_of l n
      go zero d = absurd (d refl)
      go (suc n) d = first-is l n

pub first_fits : (l : List ℕ) (n : ℕ) → n ≤ slots_in l → first_of l n + n ≤ slots_in l
unfolding first_of
first_fits l zero h = omega arith
first_fits l (suc n) h = omega arith

-- the window's start is written
pub first-put : (l : List ℕ) (f n : ℕ) → 0 < slots_in l → f + suc n ≤ slots_in l → first_of (set l (slots_in l * 7) f) (suc n) ≡ f
unfolding first_of
first-put l f n p h =
    rw (length-set l (slots_in l * 7) f, get_or-set_same l (slots_in l * 7) f 0 (omega arith)) (omega arith)

pub first-front : (l : List ℕ) (n : ℕ) → 0 < slots_in l → first_of (set l (slots_in l * 7) 0) n ≡ 0
unfolding first_of
first-front l zero p = refl
first-front l (suc n) p =
    rw (length-set l (slots_in l * 7) 0, get_or-set_same l (slots_in l * 7) 0 0 (omega arith)) (omega arith)

-- ---- n rows from slot f on

unfoldable pub window_of : List ℕ → ℕ → ℕ → List Held
window_of l f n = tab (λ i. slot_at l (f + i)) n

pub window-none : (l : List ℕ) (f : ℕ) → window_of l f 0 ≡ []
unfolding window_of
window-none l f = refl

pub window-length : (l : List ℕ) (f n : ℕ) → length (window_of l f n) ≡ n
unfolding window_of
window-length l f n = length-tab (λ i. slot_at l (f + i)) n

pub window-get : (l : List ℕ) (f n i : ℕ) (d : Held) → i < n → get_or (window_of l f n) i d ≡ slot_at l (f + i)
unfolding window_of
window-get l f n i d h = get_or-tab (λ i. slot_at l (f + i)) n i d h

pub window-ext : (l m : List ℕ) (f g n : ℕ) → ((i : ℕ) → i < n → slot_at m (g + i) ≡ slot_at l (f + i)) → window_of m g n ≡ window_of l f n
unfolding window_of
window-ext l m f g n e = tab-ext (λ i. slot_at m (g + i)) (λ i. slot_at l (f + i)) n e

pub window-suc : (l : List ℕ) (f n : ℕ) → window_of l f (n + 1) ≡ window_of l f n ++ (slot_at l (f + n) ∷ [])
unfolding window_of
window-suc l f n = tab-add (λ i. slot_at l (f + i)) n 1 ∙ ap (λ (x : ℕ). tab (λ i. slot_at l (f + i)) n ++ (slot_at l (f + x) ∷ [])) (add-zero n)

pub window-drop : (l : List ℕ) (f k n : ℕ) → drop k (window_of l f (k + n)) ≡ window_of l (f + k) n
unfolding window_of
window-drop l f k n =
    rw (tab-add (λ i. slot_at l (f + i)) k n)
    (drop_at (tab (λ i. slot_at l (f + i)) k) (tab (λ i. slot_at l (f + (k + i))) n) k (length-tab (λ i. slot_at l (f + i)) k)
    ∙ tab-ext (λ i. slot_at l (f + (k + i))) (λ i. slot_at l (f + k + i)) n (λ i h. ap (slot_at l) (omega arith)))

-- ---- the cache

unfoldable pub cache_of : List ℕ → ℕ → List Held
cache_of l n = window_of l (first_of l n) n

-- the rows that the words have room for, and that n are no more
unfoldable pub cache_room : List ℕ → ℕ
cache_room l = slots_in l * 4 / 5

unfoldable pub CacheOk : List ℕ → ℕ → Type 0
CacheOk l n = n ≤ cache_room l

-- the index of n rows from slot f on
unfoldable pub Windowed : List ℕ → ℕ → ℕ → Type 0
Windowed l f n = Chained (λ i. hash_at l (f + i)) (λ i. link_at l (f + i) - f) (λ b. head_at l b - f) (slots_in l) n

-- what calls keep, and no code can test: the index is right, and no id stands twice
pub record CacheKept (l : List ℕ) (n : ℕ) : Type 0 where
  pub index : Windowed l (first_of l n) n
  pub once : Once (ids (cache_of l n))

-- ---- the laws

pub windowed-none : (l : List ℕ) (f : ℕ) → Windowed l f 0
unfolding Windowed
windowed-none l f = chained-none (λ i. hash_at l (f + i)) (λ i. link_at l (f + i) - f) (λ b. head_at l b - f) (slots_in l)

pub no_rows : (l : List ℕ) → cache_of l 0 ≡ []
unfolding cache_of
no_rows l = window-none l (first_of l 0)

pub rows-length : (l : List ℕ) (n : ℕ) → length (cache_of l n) ≡ n
unfolding cache_of
rows-length l n = window-length l (first_of l n) n

-- any words are a cache of no rows
pub kept-none : (l : List ℕ) → CacheKept l 0
kept-none l = record { index = windowed-none l (first_of l 0); once = λ k. rw (no_rows l) (omega arith) }

-- words that are as many have as much room
pub room-still : (l m : List ℕ) → length m ≡ length l → cache_room m ≡ cache_room l
unfolding cache_room
room-still l m e = ap (λ (n : ℕ). (n - 2) / 7 * 4 / 5) e

-- n rows fit where n is at most the room
pub ok-room : (l : List ℕ) (n : ℕ) → n ≤ cache_room l → CacheOk l n
unfolding CacheOk
ok-room l n h = h

pub room-ok : (l : List ℕ) (n : ℕ) → CacheOk l n → n ≤ cache_room l
unfolding CacheOk
room-ok l n h = h

-- there is one proof at most: a struct keeps it
pub ok-one : (l : List ℕ) (n : ℕ) → IsProp (CacheOk l n)
unfolding CacheOk
ok-one l n = le_prop

-- room for n is room for fewer, in words that are as many
pub ok-still : (l m : List ℕ) (k n : ℕ) → CacheOk l n → length m ≡ length l → k ≤ n → CacheOk m k
unfolding CacheOk
ok-still l m k n h e b = omega (arith, room-still l m e)

-- the words are at least as many as the rows: a count of rows is an index
pub ok-bound : (l : List ℕ) (n : ℕ) → CacheOk l n → n ≤ length l
unfolding CacheOk cache_room
ok-bound l n h = omega arith

-- and so are the slots
pub ok-slots : (l : List ℕ) (n : ℕ) → CacheOk l n → n ≤ slots_in l
unfolding CacheOk cache_room
ok-slots l n h = omega arith

-- ---- what the calls that change the cache leave: the words l before and m after, the counts n before and r after

pub record Inserted (l m : List ℕ) (n r capacity time k : ℕ) : Type 0 where
  pub size : length m ≡ length l
  pub ok : CacheOk m r
  pub rows : cache_of m r ≡ remember capacity time k (cache_of l n)
  pub kept : CacheKept m r

pub record Pruned (l m : List ℕ) (n r ttl time : ℕ) : Type 0 where
  pub size : length m ≡ length l
  pub ok : CacheOk m r
  pub fewer : r ≤ n
  pub rows : cache_of m r ≡ prune ttl time (cache_of l n)
  pub kept : CacheKept m r
