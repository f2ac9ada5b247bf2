-- The index of the rows in a window (`Windowed`), and what each change of words does to it.
use Rattle.std.specs.Prelude.{ℕ, zero, suc, ◌+◌, ◌-◌, ◌*◌, ◌≤◌, ◌<◌, ◌≡◌, List, [], ◌∷◌, length, get_or, set}
use Rattle.std.proofs.Math.Path.{ap}
use Rattle.std.proofs.Common.{◌∙◌, add-zero, add-suc, suc-add}
use Rattle.std.proofs.Math.Decide.{dec_lt}
use native.Mathlib.Omega.{arith}
use Rattle.std.proofs.Math.ListN.{length-set}
use Rattle.std.proofs.lemmas.List.Edits.{sets}
use Rattle.std.proofs.Math.Seq.{length-sets, get_or-set_other, get_or-set_same}
use Rattle.words.specs.Rows.{stored, stored-sets, sets-before, sets-after}
use Rattle.words.specs.Ids.{num, id_of, id_at}
use Rattle.words.specs.Buckets.{bucket-low}
use Rattle.words.specs.Chains.{checked, Chained, chained_same, chained_more}
use Rattle.expiring_cache.specs.Windows.{chained-from}
use Rattle.expiring_cache.specs.Layout.{slots_in, held_of, row_words, slot_at, key_in, hash_at, link_at, head_at, Windowed}
use Rattle.expiring_cache.specs.declared.rows.Row.{Row}

-- ---- two words of slots are the same word only where slot and place are the same

pub unique : (i j a b : ℕ) → a < 7 → b < 7 → i * 7 + a ≡ j * 7 + b → (i ≡ j) × (a ≡ b)
unique i j a b p q e = go (dec_lt i j) (dec_lt j i)
  where
    go : Dec (i < j) → Dec (j < i) → (i ≡ j) × (a ≡ b)
    go (yes x) y = absurd (omega arith)
    go (no x) (yes y) = absurd (omega arith)
    go (no x) (no y) = let z : i ≡ j = omega (arith, x, y) in (z, omega arith)

-- ---- words that are read the same

module _ (l m : List ℕ) where
  pub slot-ext : (i : ℕ) → ((a : ℕ) → a < 5 → get_or m (i * 7 + a) 0 ≡ get_or l (i * 7 + a) 0) → slot_at m i ≡ slot_at l i
  unfolding slot_at id_at
  slot-ext i e =
      λ t.
      record {
        id = num (rw (add-zero (i * 7)) at (e 0 (omega arith)) t) (e 1 (omega arith) t) (e 2 (omega arith) t) (e 3 (omega arith) t);
        since = e 4 (omega arith) t;
      }

  pub hash-ext : (i : ℕ) → length m ≡ length l → get_or m (slots_in l * 7 + 1) 0 ≡ get_or l (slots_in l * 7 + 1) 0 → get_or m (i * 7 + 3) 0 ≡ get_or l (i * 7 + 3) 0 → hash_at m i ≡ hash_at l i
  unfolding hash_at key_in
  hash-ext i e k f = rw (e, k, f)

  windowed-room : (f n : ℕ) → length m ≡ length l → Chained (λ i. hash_at m (f + i)) (λ i. link_at m (f + i) - f) (λ b. head_at m b - f) (slots_in l) n → Windowed m f n
  unfolding Windowed
  windowed-room f n e h = rw e h

  -- the last words of ids, the links, the heads and the key are what they were
  pub windowed-same : (f n : ℕ) → length m ≡ length l
      → get_or m (slots_in l * 7 + 1) 0 ≡ get_or l (slots_in l * 7 + 1) 0
      → ((i : ℕ) → i < n → get_or m ((f + i) * 7 + 3) 0 ≡ get_or l ((f + i) * 7 + 3) 0)
      → ((i : ℕ) → i < n → get_or m ((f + i) * 7 + 5) 0 ≡ get_or l ((f + i) * 7 + 5) 0)
      → ((b : ℕ) → b < slots_in l → get_or m (b * 7 + 6) 0 ≡ get_or l (b * 7 + 6) 0)
      → Windowed l f n → Windowed m f n
  unfolding Windowed link_at head_at
  windowed-same f n e k a g h x =
      windowed-room f n e
      (chained_same (λ i. hash_at l (f + i)) (λ i. link_at l (f + i) - f) (λ b. head_at l b - f) (λ i. hash_at m (f + i)) (λ i. link_at m (f + i) - f) (λ b. head_at m b - f) (slots_in l) n
      (λ i q. hash-ext (f + i) e k (a i q))
      (λ i q. ap (λ (y : ℕ). y - f) (g i q))
      (λ b q. ap (λ (y : ℕ). y - f) (h b q))
      x)

-- ---- the oldest k rows are dropped

pub windowed-from : (l : List ℕ) (f k n : ℕ) → Windowed l f (k + n) → Windowed l (f + k) n
unfolding Windowed
windowed-from l f k n x =
    chained_same (λ i. hash_at l (f + (k + i))) (λ i. link_at l (f + (k + i)) - f - k) (λ b. head_at l b - f - k) (λ i. hash_at l (f + k + i)) (λ i. link_at l (f + k + i) - (f + k)) (λ b. head_at l b - (f + k)) (slots_in l) n
    (λ i q. ap (hash_at l) (same i))
    (λ i q. ap (λ (y : ℕ). link_at l y - (f + k)) (same i) ∙ omega arith)
    (λ b q. omega arith)
    (chained-from (λ i. hash_at l (f + i)) (λ i. link_at l (f + i) - f) (λ b. head_at l b - f) (slots_in l) k n x)
  where
    same : (i : ℕ) → f + k + i ≡ f + (k + i)
    same i = omega arith

-- ---- the window's start is written

pub windowed-first : (l : List ℕ) (w f n : ℕ) → f + n ≤ slots_in l → Windowed l f n → Windowed (set l (slots_in l * 7) w) f n
windowed-first l w f n h x =
    windowed-same l (set l (slots_in l * 7) w) f n (length-set l (slots_in l * 7) w)
    (get_or-set_other l (slots_in l * 7) (slots_in l * 7 + 1) w 0 (λ e. omega arith))
    (λ i q. get_or-set_other l (slots_in l * 7) ((f + i) * 7 + 3) w 0 (λ e. omega arith))
    (λ i q. get_or-set_other l (slots_in l * 7) ((f + i) * 7 + 5) w 0 (λ e. omega arith))
    (λ b q. get_or-set_other l (slots_in l * 7) (b * 7 + 6) w 0 (λ e. omega arith))
    x

pub slot-first : (l : List ℕ) (w i : ℕ) → i < slots_in l → slot_at (set l (slots_in l * 7) w) i ≡ slot_at l i
slot-first l w i h = slot-ext l (set l (slots_in l * 7) w) i (λ a q. get_or-set_other l (slots_in l * 7) (i * 7 + a) w 0 (λ e. omega arith))

-- ---- the five words of a row are written

sets-in : (vs l : List ℕ) (p j : ℕ) → j < length vs → p + length vs ≤ length l → get_or (sets l p vs) (p + j) 0 ≡ get_or vs j 0
sets-in [] l p j h r = absurd (omega arith)
sets-in (v ∷ vs) l p zero h r = rw (add-zero p) (sets-before vs (set l p v) (suc p) p (omega arith) ∙ get_or-set_same l p v 0 (omega arith))
sets-in (v ∷ vs) l p (suc j) h r = rw (add-suc p j, ← suc-add p j) (sets-in vs (set l p v) (suc p) j (omega arith) (simp length-set (omega arith)))

module _ (l : List ℕ) (n : ℕ) (r : Row) (h : n < slots_in l) where
  abbrev pub one : List ℕ
  one = stored l (n * 7) (row_words r)

  pub one-length : length one ≡ length l
  one-length = rw (stored-sets (row_words r) l (n * 7)) (length-sets l (n * 7) (row_words r))

  one_in : (j : ℕ) → j < 5 → get_or one (n * 7 + j) 0 ≡ get_or (row_words r) j 0
  one_in j q = rw (stored-sets (row_words r) l (n * 7)) (sets-in (row_words r) l (n * 7) j q (omega arith))

  -- another word
  pub one_out : (i a : ℕ) → a < 7 → (i ≡ n → a < 5 → ⊥) → get_or one (i * 7 + a) 0 ≡ get_or l (i * 7 + a) 0
  one_out i a q d = rw (stored-sets (row_words r) l (n * 7)) (go (dec_lt i n) (dec_lt n i))
    where
      go : Dec (i < n) → Dec (n < i) → get_or (sets l (n * 7) (row_words r)) (i * 7 + a) 0 ≡ get_or l (i * 7 + a) 0
      go (yes x) y = sets-before (row_words r) l (n * 7) (i * 7 + a) (omega arith)
      go (no x) (yes y) = sets-after (row_words r) l (n * 7) (i * 7 + a) (omega arith)
      go (no x) (no y) = let z : i ≡ n = omega (arith, x, y) in sets-after (row_words r) l (n * 7) (i * 7 + a) (behind z (dec_lt a 5))
        where
          behind : i ≡ n → Dec (a < 5) → n * 7 + 5 ≤ i * 7 + a
          behind z (yes w) = absurd (d z w)
          behind z (no w) = omega (arith, w)

  pub one-here : slot_at one n ≡ held_of r
  unfolding slot_at id_at held_of id_of
  one-here =
      λ t.
      record {
        id = num (rw (add-zero (n * 7)) at (one_in 0 (omega arith)) t) (one_in 1 (omega arith) t) (one_in 2 (omega arith) t) (one_in 3 (omega arith) t);
        since = one_in 4 (omega arith) t;
      }

  pub one-rest : (i : ℕ) → (i ≡ n → ⊥) → slot_at one i ≡ slot_at l i
  one-rest i d = slot-ext l one i (λ a q. one_out i a (omega arith) (λ e w. d e))

  pub one_index : (f k : ℕ) → f + k ≤ n → Windowed l f k → Windowed one f k
  one_index f k q x =
      windowed-same l one f k one-length
      (one_out (slots_in l) 1 (omega arith) (λ e w. omega arith))
      (λ i b. one_out (f + i) 3 (omega arith) (λ e w. omega arith))
      (λ i b. one_out (f + i) 5 (omega arith) (λ e w. omega arith))
      (λ b g. one_out b 6 (omega arith) (λ e w. omega arith))
      x

-- ---- the row at place n of the window is linked in

-- the newest row of its bucket
abbrev newest : List ℕ → ℕ → ℕ → ℕ
newest l f n = checked (λ i. hash_at l (f + i)) n (hash_at l (f + n)) (head_at l (hash_at l (f + n)) - f)

-- the link is written
abbrev half : List ℕ → ℕ → ℕ → List ℕ
half l f n = set l ((f + n) * 7 + 5) (f + newest l f n)

-- and then the head
unfoldable pub linked_in : List ℕ → ℕ → ℕ → List ℕ
linked_in l f n = set (half l f n) (hash_at l (f + n) * 7 + 6) (f + n + 1)

-- what the code writes
pub linked-is : (l : List ℕ) (f n b old new : ℕ) → b ≡ hash_at l (f + n) → old ≡ f + checked (λ i. hash_at l (f + i)) n b (head_at l b - f) → new ≡ f + n + 1
    → set (set l ((f + n) * 7 + 5) old) (b * 7 + 6) new ≡ linked_in l f n
unfolding linked_in
linked-is l f n b old new e g h =
    λ t. set (set l ((f + n) * 7 + 5) ((g ∙ ap (λ (x : ℕ). f + checked (λ i. hash_at l (f + i)) n x (head_at l x - f)) e) t)) (e t * 7 + 6) (h t)

pub hash-low : (l : List ℕ) (i : ℕ) → 0 < slots_in l → hash_at l i < slots_in l
unfolding hash_at
hash-low l i r = bucket-low (get_or l (i * 7 + 3) 0) (key_in l) (slots_in l) r

module _ (l : List ℕ) (f n : ℕ) (r : f + n < slots_in l) where
  low : hash_at l (f + n) < slots_in l
  low = hash-low l (f + n) (omega arith)

  pub linked-length : length (linked_in l f n) ≡ length l
  unfolding linked_in
  linked-length = simp length-set

  -- a word that is neither the link of the row nor the head
  linked-word : (i a : ℕ) → a < 7 → (i ≡ f + n → a ≡ 5 → ⊥) → (i ≡ hash_at l (f + n) → a ≡ 6 → ⊥) → get_or (linked_in l f n) (i * 7 + a) 0 ≡ get_or l (i * 7 + a) 0
  unfolding linked_in
  linked-word i a x d e =
      get_or-set_other (half l f n) (hash_at l (f + n) * 7 + 6) (i * 7 + a) (f + n + 1) 0
      (λ g. let z = unique i (hash_at l (f + n)) a 6 x (omega arith) g in e z.0 z.1)
      ∙ get_or-set_other l ((f + n) * 7 + 5) (i * 7 + a) (f + newest l f n) 0
      (λ g. let z = unique i (f + n) a 5 x (omega arith) g in d z.0 z.1)

  pub linked-slot : (i : ℕ) → slot_at (linked_in l f n) i ≡ slot_at l i
  linked-slot i = slot-ext l (linked_in l f n) i (λ a q. linked-word i a (omega arith) (λ u v. omega arith) (λ u v. omega arith))

  linked-top : head_at (linked_in l f n) (hash_at l (f + n)) - f ≡ suc n
  unfolding linked_in head_at
  linked-top =
      ap (λ (y : ℕ). y - f) (get_or-set_same (half l f n) (hash_at l (f + n) * 7 + 6) (f + n + 1) 0 (simp length-set (omega (arith, low)))) ∙ omega arith

  linked-new : link_at (linked_in l f n) (f + n) - f ≡ newest l f n
  unfolding linked_in link_at
  linked-new =
      ap (λ (y : ℕ). y - f)
      (get_or-set_other (half l f n) (hash_at l (f + n) * 7 + 6) ((f + n) * 7 + 5) (f + n + 1) 0
      (λ g. let z = unique (f + n) (hash_at l (f + n)) 5 6 (omega arith) (omega arith) g in omega (arith, z.1))
      ∙ get_or-set_same l ((f + n) * 7 + 5) (f + newest l f n) 0 (omega arith))
      ∙ omega arith

  linked-hash : (i : ℕ) → hash_at (linked_in l f n) i ≡ hash_at l i
  linked-hash i =
      hash-ext l (linked_in l f n) i linked-length
      (linked-word (slots_in l) 1 (omega arith) (λ u v. omega arith) (λ u v. omega arith))
      (linked-word i 3 (omega arith) (λ u v. omega arith) (λ u v. omega arith))

  linked-link : (i : ℕ) → i < n → link_at (linked_in l f n) (f + i) - f ≡ link_at l (f + i) - f
  unfolding link_at
  linked-link i q = ap (λ (y : ℕ). y - f) (linked-word (f + i) 5 (omega arith) (λ u v. omega arith) (λ u v. omega arith))

  linked-head : (b : ℕ) → (b ≡ hash_at l (f + n) → ⊥) → head_at (linked_in l f n) b - f ≡ head_at l b - f
  unfolding head_at
  linked-head b d = ap (λ (y : ℕ). y - f) (linked-word b 6 (omega arith) (λ u v. omega arith) (λ u v. d u))

  -- the index is that of one row more
  pub linked-more : Windowed l f n → Windowed (linked_in l f n) f (suc n)
  unfolding Windowed
  linked-more x =
      windowed-room l (linked_in l f n) f (suc n) linked-length
      (chained_more (λ i. hash_at l (f + i)) (λ i. link_at l (f + i) - f) (λ b. head_at l b - f) (λ i. hash_at (linked_in l f n) (f + i)) (λ i. link_at (linked_in l f n) (f + i) - f) (λ b. head_at (linked_in l f n) b - f) (slots_in l) n (hash_at l (f + n))
      (λ i q. linked-hash (f + i))
      (linked-hash (f + n))
      low
      linked-link
      linked-new
      (λ b q d. linked-head b d)
      linked-top
      x)
