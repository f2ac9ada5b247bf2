-- The indexes of a table's first n slots by column c, 0 the boxes' and 1 the owners' (`Indexed`), what each change of words does to them, and THE
-- INVARIANT of the table (`BoxesKept`).
use Rattle.std.specs.Prelude.{ℕ, zero, suc, ◌+◌, ◌-◌, ◌*◌, ◌/◌, ◌^◌, ◌≤◌, ◌<◌, ◌≡◌, List, length, set}
use Rattle.std.proofs.Common.{ap, ◌∙◌, arith}
use Rattle.std.proofs.Math.Numerals.{add-one}
use Rattle.std.specs.Coded.{le_prop}
use Rattle.std.proofs.Math.ListN.{get_or, length-set}
use Rattle.std.proofs.Math.Seq.{get_or-set_other, get_or-set_same}
use Rattle.words.specs.Ids.{num, id_at}
use Rattle.words.specs.Buckets.{bucket_of, bucket-low}
use Rattle.words.specs.Chains.{checked, Chained, chained-none, chained_same, chained_more}
use Rattle.boxes.specs.Layout.{box_slots, id_place, kind_place, link_place, head_place, key_place, OfRow, of_row, last_row, link-off, link-unique, head-low, head-high, head-unique, key_at, kind_at, slot_of, slot_at, key_word, slots_used, boxes_of, used-none, no-boxes}

-- the last word of the id in column c of slot i, and its bucket; the link in slot i, and the head of bucket b
unfoldable pub last_at : List ℕ → ℕ → ℕ → ℕ
last_at l c i = get_or l (id_place c i + 3) 0

unfoldable pub hash_at : List ℕ → ℕ → ℕ → ℕ
hash_at l c i = bucket_of (last_at l c i) (key_word l) (box_slots l)

unfoldable pub link_at : List ℕ → ℕ → ℕ → ℕ
link_at l c i = get_or l (link_place c i) 0

unfoldable pub head_at : List ℕ → ℕ → ℕ → ℕ
head_at l c b = get_or l (head_place (box_slots l) c b) 0

-- each word is a word
unfoldable pub AllWords : List ℕ → Type 0
AllWords l = (i : ℕ) → get_or l i 0 < 2 ^ 64

pub words-one : (l : List ℕ) → IsProp (AllWords l)
unfolding AllWords
words-one l a b = λ t i. le_prop (a i) (b i) t

unfoldable pub Indexed : List ℕ → ℕ → ℕ → Type 0
Indexed l c n = Chained (hash_at l c) (link_at l c) (head_at l c) (box_slots l) n

-- any words are an index of no slots
pub indexed-none : (l : List ℕ) (c : ℕ) → Indexed l c 0
unfolding Indexed
indexed-none l c = chained-none (hash_at l c) (link_at l c) (head_at l c) (box_slots l)

-- the words hold n records, and both indexes are right
pub record BoxesKept (l : List ℕ) (n : ℕ) : Type 0 where
  pub count : length (boxes_of l n) ≡ n
  pub index : (c : ℕ) → c < 2 → Indexed l c (slots_used l n)

-- any words hold no records: a start writes none
pub kept-none : (l : List ℕ) → BoxesKept l 0
kept-none l = record { count = ap length (no-boxes l); index = λ c h. rw (used-none l) (indexed-none l c) }

pub kept-count : (l : List ℕ) (n : ℕ) → BoxesKept l n → length (boxes_of l n) ≡ n
kept-count l n k = k.count

-- ---- words that are read the same

module _ (l m : List ℕ) where
  -- a slot of m is the slot of l that has its words
  pub slot-shift : (i j : ℕ) → ((p q : ℕ) → OfRow i p → p + j * 11 ≡ q + i * 11 → get_or m p 0 ≡ get_or l q 0) → slot_at m i ≡ slot_at l j
  unfolding slot_at key_at id_at kind_at
  slot-shift i j e = λ t. slot_of
      (num (low 0 (id_place 0 i) (id_place 0 j) (omega arith) (omega arith) (omega arith) t) (low 1 (id_place 0 i + 1) (id_place 0 j + 1) (omega arith) (omega arith) (omega arith) t) (low 2 (id_place 0 i + 2) (id_place 0 j + 2) (omega arith) (omega arith) (omega arith) t) (low 3 (id_place 0 i + 3) (id_place 0 j + 3) (omega arith) (omega arith) (omega arith) t))
      (num (high 6 (id_place 1 i) (id_place 1 j) (omega arith) (omega arith) (omega arith) (omega arith) t) (high 7 (id_place 1 i + 1) (id_place 1 j + 1) (omega arith) (omega arith) (omega arith) (omega arith) t) (high 8 (id_place 1 i + 2) (id_place 1 j + 2) (omega arith) (omega arith) (omega arith) (omega arith) t) (high 9 (id_place 1 i + 3) (id_place 1 j + 3) (omega arith) (omega arith) (omega arith) (omega arith) t))
      (low 4 (kind_place i) (kind_place j) (omega arith) (omega arith) (omega arith) t)
    where
      low : (a p q : ℕ) → p ≡ i * 11 + a → q ≡ j * 11 + a → a < 5 → get_or m p 0 ≡ get_or l q 0
      low a p q x y h = e p q (of_row i a (omega arith) (λ z. omega arith) (λ z. omega arith) x) (omega arith)

      high : (a p q : ℕ) → p ≡ i * 11 + a → q ≡ j * 11 + a → 5 < a → a < 10 → get_or m p 0 ≡ get_or l q 0
      high a p q x y h g = e p q (of_row i a (omega arith) (λ z. omega arith) (λ z. omega arith) x) (omega arith)

  pub slot-ext : (i : ℕ) → ((p : ℕ) → OfRow i p → get_or m p 0 ≡ get_or l p 0) → slot_at m i ≡ slot_at l i
  slot-ext i e = slot-shift i i (λ p q r x. e p r ∙ ap (λ (z : ℕ). get_or l z 0) (omega arith))

  pub key-ext : length m ≡ length l → get_or m (key_place (box_slots l)) 0 ≡ get_or l (key_place (box_slots l)) 0 → key_word m ≡ key_word l
  unfolding key_word
  key-ext e f = rw e f

  pub hash-ext : (c i : ℕ) → length m ≡ length l → key_word m ≡ key_word l → get_or m (id_place c i + 3) 0 ≡ get_or l (id_place c i + 3) 0 → hash_at m c i ≡ hash_at l c i
  unfolding hash_at last_at
  hash-ext c i e k f = λ t. bucket_of (f t) (k t) ((e t - 2) / 13)

  head-ext : (c b : ℕ) → length m ≡ length l → get_or m (head_place (box_slots l) c b) 0 ≡ get_or l (head_place (box_slots l) c b) 0 → head_at m c b ≡ head_at l c b
  unfolding head_at
  head-ext c b e f = rw e f

  indexed-room : (c n : ℕ) → length m ≡ length l → Chained (hash_at m c) (link_at m c) (head_at m c) (box_slots l) n → Indexed m c n
  unfolding Indexed
  indexed-room c n e h = rw e h

  -- the key, the last words of ids, the links and the heads of a column are what they were
  pub indexed-same : (c n : ℕ) → length m ≡ length l
      → get_or m (key_place (box_slots l)) 0 ≡ get_or l (key_place (box_slots l)) 0
      → ((i : ℕ) → i < n → get_or m (id_place c i + 3) 0 ≡ get_or l (id_place c i + 3) 0)
      → ((i : ℕ) → i < n → get_or m (link_place c i) 0 ≡ get_or l (link_place c i) 0)
      → ((b : ℕ) → b < box_slots l → get_or m (head_place (box_slots l) c b) 0 ≡ get_or l (head_place (box_slots l) c b) 0)
      → Indexed l c n → Indexed m c n
  unfolding Indexed link_at
  indexed-same c n e k f g h x =
      indexed-room c n e
      (chained_same (hash_at l c) (link_at l c) (head_at l c) (hash_at m c) (link_at m c) (head_at m c) (box_slots l) n (λ i q. hash-ext c i e (key-ext e k) (f i q)) g (λ b q. head-ext c b e (h b q)) x)

-- ---- a slot is linked in

-- the head of slot n's bucket
abbrev pub home_place : List ℕ → ℕ → ℕ → ℕ
home_place l c n = head_place (box_slots l) c (hash_at l c n)

-- the link is written
abbrev half : List ℕ → ℕ → ℕ → List ℕ
half l c n = set l (link_place c n) (checked (hash_at l c) n (hash_at l c n) (head_at l c (hash_at l c n)))

-- and then the head
unfoldable pub linked_in : List ℕ → ℕ → ℕ → List ℕ
linked_in l c n = set (half l c n) (home_place l c n) (n + 1)

-- what the code writes
pub linked-is : (l : List ℕ) (c n b p old new : ℕ) → b ≡ hash_at l c n → p ≡ head_place (box_slots l) c b → old ≡ checked (hash_at l c) n b (head_at l c b) → new ≡ n + 1
    → set (set l (link_place c n) old) p new ≡ linked_in l c n
unfolding linked_in
linked-is l c n b p old new e d f g =
    λ t. set (set l (link_place c n) ((f ∙ ap (λ (x : ℕ). checked (hash_at l c) n x (head_at l c x)) e) t)) ((d ∙ ap (head_place (box_slots l) c) e) t) (g t)

pub hash-low : (l : List ℕ) (c i : ℕ) → 0 < box_slots l → hash_at l c i < box_slots l
unfolding hash_at
hash-low l c i r = bucket-low (last_at l c i) (key_word l) (box_slots l) r

module _ (l : List ℕ) (c n : ℕ) (h : c < 2) (r : n < box_slots l) where
  low : hash_at l c n < box_slots l
  low = hash-low l c n (omega arith)

  home-low : box_slots l * 11 ≤ home_place l c n
  home-low = head-low (box_slots l) c (hash_at l c n)

  home-high : home_place l c n < box_slots l * 13
  home-high = head-high (box_slots l) c (hash_at l c n) low

  pub linked-length : length (linked_in l c n) ≡ length l
  unfolding linked_in
  linked-length = simp length-set

  -- a word that is neither the link in slot n nor the head
  pub linked-word : (p : ℕ) → (p ≡ link_place c n → ⊥) → (p ≡ home_place l c n → ⊥) → get_or (linked_in l c n) p 0 ≡ get_or l p 0
  unfolding linked_in
  linked-word p d e =
      get_or-set_other (half l c n) (home_place l c n) p (n + 1) 0 e
      ∙ get_or-set_other l (link_place c n) p (checked (hash_at l c) n (hash_at l c n) (head_at l c (hash_at l c n))) 0 d

  linked-row : (i p : ℕ) → i < box_slots l → OfRow i p → get_or (linked_in l c n) p 0 ≡ get_or l p 0
  linked-row i p b q = linked-word p (λ e. link-off c n i h (rw e at q)) (λ e. omega (arith, q.to, home-low))

  pub linked-slot : (i : ℕ) → i < box_slots l → slot_at (linked_in l c n) i ≡ slot_at l i
  linked-slot i b = slot-ext l (linked_in l c n) i (λ p q. linked-row i p b q)

  linked-key : get_or (linked_in l c n) (key_place (box_slots l)) 0 ≡ get_or l (key_place (box_slots l)) 0
  linked-key = linked-word (key_place (box_slots l)) (λ e. omega arith) (λ e. omega (arith, home-high))

  linked-last : (o i : ℕ) → o < 2 → i < box_slots l → get_or (linked_in l c n) (id_place o i + 3) 0 ≡ get_or l (id_place o i + 3) 0
  linked-last o i q b = linked-row i (id_place o i + 3) b (last_row o i q)

  link_stays : (o i : ℕ) → o < 2 → i < box_slots l → (i ≡ n → o ≡ c → ⊥) → get_or (linked_in l c n) (link_place o i) 0 ≡ get_or l (link_place o i) 0
  link_stays o i q b d =
      linked-word (link_place o i)
      (λ e. let z = link-unique o c i n q h e in d z.0 z.1)
      (λ e. omega (arith, home-low))

  head-stays : (o b : ℕ) → o < 2 → b < box_slots l → (o ≡ c → b ≡ hash_at l c n → ⊥) → get_or (linked_in l c n) (head_place (box_slots l) o b) 0 ≡ get_or l (head_place (box_slots l) o b) 0
  head-stays o b q g d =
      linked-word (head_place (box_slots l) o b)
      (λ e. omega (arith, head-low (box_slots l) o b))
      (λ e. let z = head-unique (box_slots l) o c b (hash_at l c n) q h g low e in d z.0 z.1)

  -- the other column's index stays
  pub linked-other : (o m : ℕ) → o < 2 → (o ≡ c → ⊥) → m ≤ box_slots l → Indexed l o m → Indexed (linked_in l c n) o m
  linked-other o m q d g x =
      indexed-same l (linked_in l c n) o m linked-length linked-key
      (λ i b. linked-last o i q (omega arith))
      (λ i b. link_stays o i q (omega arith) (λ u v. d v))
      (λ b y. head-stays o b q y (λ u v. d u))
      x

  linked-top : head_at (linked_in l c n) c (hash_at l c n) ≡ suc n
  unfolding linked_in head_at
  linked-top = rw linked-length (get_or-set_same (half l c n) (home_place l c n) (n + 1) 0 (simp length-set (omega (arith, home-high))) ∙ add-one n)

  linked-new : link_at (linked_in l c n) c n ≡ checked (hash_at l c) n (hash_at l c n) (head_at l c (hash_at l c n))
  unfolding linked_in link_at
  linked-new =
      get_or-set_other (half l c n) (home_place l c n) (link_place c n) (n + 1) 0 (λ e. omega (arith, home-low))
      ∙ get_or-set_same l (link_place c n) (checked (hash_at l c) n (hash_at l c n) (head_at l c (hash_at l c n))) 0 (omega arith)

  linked-hash : (i : ℕ) → i < box_slots l → hash_at (linked_in l c n) c i ≡ hash_at l c i
  linked-hash i b = hash-ext l (linked_in l c n) c i linked-length (key-ext l (linked_in l c n) linked-length linked-key) (linked-last c i h b)

  linked-link : (i : ℕ) → i < n → link_at (linked_in l c n) c i ≡ link_at l c i
  unfolding link_at
  linked-link i q = link_stays c i h (omega arith) (λ u v. omega arith)

  linked-head : (b : ℕ) → b < box_slots l → (b ≡ hash_at l c n → ⊥) → head_at (linked_in l c n) c b ≡ head_at l c b
  linked-head b q d = head-ext l (linked_in l c n) c b linked-length (head-stays c b h q (λ u v. d v))

  -- this column's index is that of one slot more
  pub linked-more : Indexed l c n → Indexed (linked_in l c n) c (suc n)
  unfolding Indexed
  linked-more x =
      indexed-room l (linked_in l c n) c (suc n) linked-length
      (chained_more (hash_at l c) (link_at l c) (head_at l c) (hash_at (linked_in l c n) c) (link_at (linked_in l c n) c) (head_at (linked_in l c n) c) (box_slots l) n (hash_at l c n)
      (λ i q. linked-hash i (omega arith))
      (linked-hash n r)
      low
      linked-link
      linked-new
      linked-head
      linked-top
      x)

-- ---- it is linked in by its box, and then by its owner

module _ (l : List ℕ) (n : ℕ) (r : n < box_slots l) where
  abbrev pub both_in : List ℕ
  both_in = linked_in (linked_in l 0 n) 1 n

  room-one : n < box_slots (linked_in l 0 n)
  room-one = rw (linked-length l 0 n (omega arith) r) r

  length-one : length (linked_in l 0 n) ≡ length l
  length-one = linked-length l 0 n (omega arith) r

  pub both-slot : (i : ℕ) → i < box_slots l → slot_at both_in i ≡ slot_at l i
  both-slot i b = linked-slot (linked_in l 0 n) 1 n (omega arith) room-one i (omega (arith, length-one)) ∙ linked-slot l 0 n (omega arith) r i b

  both-index : (c : ℕ) → c < 2 → Indexed l c n → Indexed both_in c (suc n)
  both-index zero q x = linked-other (linked_in l 0 n) 1 n (omega arith) room-one 0 (suc n) (omega arith) (λ e. omega arith) (omega (arith, length-one)) (linked-more l 0 n (omega arith) r x)
  both-index (suc zero) q x = linked-more (linked_in l 0 n) 1 n (omega arith) room-one (linked-other l 0 n (omega arith) r 1 n (omega arith) (λ e. omega arith) (omega arith) x)
  both-index (suc (suc c)) q x = absurd (omega arith)

  pub both-more : (c : ℕ) → c < 2 → Indexed l c n → Indexed both_in c (n + 1)
  both-more c q x = rw (add-one n) (both-index c q x)
