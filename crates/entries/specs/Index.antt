-- The index of ids. A slot that is not in use is in no bucket.
use Rattle.std.specs.Prelude.{None, Option, Some}
use Rattle.std.specs.Prelude.{ℕ, zero, suc, ◌+◌, ◌-◌, ◌/◌, ◌≤◌, ◌<◌, ◌≡◌, refl, Bool, true, false, List, length}
use Rattle.std.proofs.Math.Path.{sym, ap}
use Rattle.std.proofs.Common.{◌∙◌, arith, eq-eqb, ne_eqb}
use Rattle.std.proofs.Math.Decide.{ℕ_discrete, dec_lt}
use Rattle.std.proofs.Math.Dec.{eqb}
use Rattle.std.proofs.lemmas.Bool.{eqb-false}
use Rattle.words.specs.Lists.{pick}
use Rattle.words.specs.Ids.{Words, id_of, id-inj}
use Rattle.words.specs.Buckets.{bucket_of, bucket-low}
use Rattle.words.specs.Chains.{prev, prev-in, prev-gap, checked, checked-le, bounded, bounded-le}
use Rattle.words.specs.declared.ids.Id.{Id}
use Rattle.entries.specs.Splice.{Linked, linked-none, linked-same, linked-more}
use Rattle.entries.specs.Cells.{slot_count, slot_words, last_word, use_word, link_word, head_word, cell, raw_at, id_in, bucket_key, AllWords, all-cell}

unfoldable pub used : List ℕ → ℕ → Bool
used l i = eqb (cell l i use_word) 1

-- the bucket of ids whose last word is d
unfoldable pub home_of : List ℕ → ℕ → ℕ
home_of l d = bucket_of d (bucket_key l) (slot_count l)

pub home-low : (l : List ℕ) (d : ℕ) → 0 < slot_count l → home_of l d < slot_count l
unfolding home_of
home-low l d h = bucket-low d (bucket_key l) (slot_count l) h

pub home_same : (l m : List ℕ) (d e : ℕ) → length m ≡ length l → bucket_key m ≡ bucket_key l → d ≡ e → home_of m d ≡ home_of l e
unfolding home_of
home_same l m d e z k f = λ t. bucket_of (f t) (k t) ((z t - 2) / 18)

-- as the code reads it
pub home-is : (l : List ℕ) (d n k r : ℕ) → n ≡ slot_count l → k ≡ raw_at l (n + 1) → r ≡ bucket_of d k n → r ≡ home_of l d
unfolding home_of bucket_key
home-is l d n k r e f g = g ∙ rw (f, e)

-- the bucket of slot i
unfoldable pub hash_at : List ℕ → ℕ → ℕ
hash_at l i = pick (used l i) (home_of l (cell l i last_word)) (slot_count l)

unfoldable pub link_at : List ℕ → ℕ → ℕ
link_at l i = cell l i link_word

unfoldable pub head_at : List ℕ → ℕ → ℕ
head_at l b = cell l b head_word

-- THE INDEX of the first u slots
unfoldable pub Indexed : List ℕ → ℕ → Type 0
Indexed l u = Linked (hash_at l) (link_at l) (head_at l) (slot_count l) u

pub indexed-none : (l : List ℕ) → Indexed l 0
unfolding Indexed
indexed-none l = linked-none (hash_at l) (link_at l) (head_at l) (slot_count l)

pub hash-used : (l : List ℕ) (i : ℕ) → used l i ≡ true → home_of l (cell l i last_word) ≡ hash_at l i
unfolding hash_at
hash-used l i e = rw e

pub hash-free : (l : List ℕ) (i : ℕ) → used l i ≡ false → slot_count l ≡ hash_at l i
unfolding hash_at
hash-free l i e = rw e

-- a slot in a bucket is in use
pub used-hash : (l : List ℕ) (i : ℕ) → hash_at l i < slot_count l → used l i ≡ true
unfolding hash_at
used-hash l i e = go (used l i) e
  where
    go : (t : Bool) → pick t (home_of l (cell l i last_word)) (slot_count l) < slot_count l → t ≡ true
    go true q = refl
    go false q = absurd (omega arith)

pub used-same : (l m : List ℕ) (i : ℕ) → cell m i use_word ≡ cell l i use_word → used m i ≡ used l i
unfolding used
used-same l m i e = ap (λ (y : ℕ). eqb y 1) e

pub used-none : (l : List ℕ) (i : ℕ) → cell l i use_word ≡ 0 → used l i ≡ false
unfolding used
used-none l i e = ap (λ (y : ℕ). eqb y 1) e

pub hash-same : (l m : List ℕ) (i : ℕ) → length m ≡ length l → bucket_key m ≡ bucket_key l → cell m i last_word ≡ cell l i last_word → cell m i use_word ≡ cell l i use_word → hash_at m i ≡ hash_at l i
unfolding hash_at used
hash-same l m i e k f g = λ t. pick (eqb (g t) 1) (home_same l m (cell m i last_word) (cell l i last_word) e k f t) ((e t - 2) / 18)

-- ---- whether slot i is in the bucket of ids whose last word is d, as the code tests it

module _ (l : List ℕ) (i b d w : ℕ) (low : i < slot_count l) (home : b ≡ home_of l d) (e : w ≡ cell l i use_word) where
  pub in-none : (w ≡ 1 → ⊥) → false ≡ eqb (hash_at l i) b
  unfolding used
  in-none q =
      let z : slot_count l ≡ hash_at l i = hash-free l i (rw (← e) (ne_eqb w 1 q)) in
      sym (ne_eqb (hash_at l i) b (λ y. omega (arith, z, home, home-low l d (omega arith))))

  pub in-same : (x : ℕ) → w ≡ 1 → x ≡ cell l i last_word → x ≡ d → true ≡ eqb (hash_at l i) b
  unfolding used
  in-same x q f g =
      sym (eq-eqb (hash_at l i) b (sym (hash-used l i (rw (← e) (eq-eqb w 1 q))) ∙ ap (home_of l) (sym f ∙ g) ∙ sym home))

  pub in-other : (x y : ℕ) → w ≡ 1 → x ≡ cell l i last_word → y ≡ home_of l x → eqb y b ≡ eqb (hash_at l i) b
  unfolding used
  in-other x y q f g =
      ap (λ (z : ℕ). eqb z b) (g ∙ ap (home_of l) f ∙ hash-used l i (rw (← e) (eq-eqb w 1 q)))

-- ---- frames

-- the words of the index are what they were, but for the use of the slot behind them
pub indexed-same : (l m : List ℕ) (u : ℕ) → u ≤ slot_count l → length m ≡ length l → bucket_key m ≡ bucket_key l → ((i a : ℕ) → i < slot_count l → a < slot_words → (i ≡ u → a ≡ use_word → ⊥) → cell m i a ≡ cell l i a) → Indexed l u → Indexed m u
unfolding Indexed link_at head_at
indexed-same l m u h e k f x =
    rw e
    (linked-same (hash_at l) (link_at l) (head_at l) (hash_at m) (link_at m) (head_at m) (slot_count l) u
    (λ i q. hash-same l m i e k (f i last_word (omega arith) (omega arith) (λ y z. omega arith)) (f i use_word (omega arith) (omega arith) (λ y z. omega arith)))
    (λ i q. f i link_word (omega arith) (omega arith) (λ y z. omega arith)) (λ b q. f b head_word q (omega arith) (λ y z. omega arith)) x)

-- the item of slot i, which is in no bucket, is another
pub indexed-item : (l m : List ℕ) (u i : ℕ) → length m ≡ length l → bucket_key m ≡ bucket_key l → used l i ≡ false → ((j : ℕ) → (j ≡ i → ⊥) → cell m j last_word ≡ cell l j last_word) → ((j a : ℕ) → use_word ≤ a → a < slot_words → cell m j a ≡ cell l j a)
    → Indexed l u → Indexed m u
unfolding Indexed link_at head_at used
indexed-item l m u i e k z f g x =
    rw e
    (linked-same (hash_at l) (link_at l) (head_at l) (hash_at m) (link_at m) (head_at m) (slot_count l) u
    (λ j q. go j (ℕ_discrete j i)) (λ j q. g j link_word (omega arith) (omega arith)) (λ b q. g b head_word (omega arith) (omega arith)) x)
  where
    free : used m i ≡ false
    free = ap (λ (y : ℕ). eqb y 1) (g i use_word (omega arith) (omega arith)) ∙ z

    go : (j : ℕ) → Dec (j ≡ i) → hash_at m j ≡ hash_at l j
    go j (yes d) = rw d (sym (hash-free m i free) ∙ rw e (hash-free l i z))
    go j (no d) = hash-same l m j e k (f j d) (g j use_word (omega arith) (omega arith))

-- slot u, which is not in use, is among the first u + 1
pub indexed-more : (l : List ℕ) (u : ℕ) → used l u ≡ false → Indexed l u → Indexed l (suc u)
unfolding Indexed
indexed-more l u z x = linked-more (hash_at l) (link_at l) (head_at l) (slot_count l) u (omega (arith, hash-free l u z)) x

-- ---- the place in the chain of bucket b where slot i is or belongs: `p` names the slot above it, or 0 the head, and v is what follows there

pub record Cuts (l : List ℕ) (u b i p v : ℕ) : Type 0 where
  pub low : v ≤ u
  pub most : p ≤ u
  pub far : (j : ℕ) → p ≡ suc j → i < j
  pub top : Indexed l u → p ≡ 0 → v ≡ prev (hash_at l) u b
  pub mid : Indexed l u → (j : ℕ) → p ≡ suc j → (hash_at l j ≡ b) × (v ≡ prev (hash_at l) j b)

pub cuts_first : (l : List ℕ) (u b i v : ℕ) → b < slot_count l → v ≡ checked (hash_at l) u b (head_at l b) → Cuts l u b i 0 v
unfolding Indexed
cuts_first l u b i v h e =
    record {
      low = rw e (checked-le (hash_at l) u b (head_at l b));
      most = omega arith;
      far = λ j q. absurd (omega arith);
      top = λ x q. e ∙ x.heads b h;
      mid = λ x j q. absurd (omega arith);
    }

pub cuts-next : (l : List ℕ) (u b i p v j w : ℕ) → b < slot_count l → Cuts l u b i p v → v ≡ suc j → i < j → w ≡ bounded j (link_at l j) → Cuts l u b i v w
unfolding Indexed
cuts-next l u b i p v j w h s e g f =
    record {
      low = omega (arith, s.low, f, bounded-le j (link_at l j));
      most = s.low;
      far = λ k q. omega arith;
      top = λ x q. absurd (omega arith);
      mid = λ x k q. let z : j ≡ k = omega arith in rw (← z) (in_b x p refl, f ∙ x.links j (omega (arith, s.low)) (rw (in_b x p refl) h) ∙ ap (prev (hash_at l) j) (in_b x p refl));
    }
  where
    in_b : Linked (hash_at l) (link_at l) (head_at l) (slot_count l) u → (o : ℕ) → p ≡ o → hash_at l j ≡ b
    in_b x zero q = prev-in (hash_at l) u b j (sym (s.top x q) ∙ e)
    in_b x (suc k) q = prev-in (hash_at l) k b j (sym (s.mid x k q).1 ∙ e)

pub record Cutting (l : List ℕ) (u b i p v : ℕ) : Type 0 where
  pub cut : Cuts l u b i p v
  pub below : v ≤ suc i

-- ---- a slot is found by its id

pub record Seeks (l : List ℕ) (u : ℕ) (key : Id) (v : ℕ) : Type 0 where
  pub low : v ≤ u
  pub none : Indexed l u → (j : ℕ) → v ≤ j → j < u → used l j ≡ true → id_in l j ≡ id_of key → ⊥
  pub reach : Indexed l u → (j : ℕ) → v ≡ suc j → hash_at l j ≡ home_of l key.d

-- what the search finds in slot i
pub record InSlot (l : List ℕ) (u k i : ℕ) : Type 0 where
  pub low : i < u
  pub same : id_in l i ≡ k
  pub live : Indexed l u → used l i ≡ true

unfoldable pub NoSlot : List ℕ → ℕ → ℕ → Type 0
NoSlot l u k = Indexed l u → (j : ℕ) → j < u → used l j ≡ true → id_in l j ≡ k → ⊥

module _ (l : List ℕ) (u : ℕ) (key : Id) (w : AllWords l) (wk : Words key) (room : u ≤ slot_count l) where
  same-hash : (j : ℕ) → used l j ≡ true → id_in l j ≡ id_of key → hash_at l j ≡ home_of l key.d
  unfolding id_in id_of
  same-hash j t e =
      sym (hash-used l j t)
      ∙ ap (home_of l)
      (id-inj (record { a = cell l j 0; b = cell l j 1; c = cell l j 2; d = cell l j last_word }) key (all-cell l w j 0, all-cell l w j 1, all-cell l w j 2, all-cell l w j last_word) wk e).3

  -- no slot from v to n is of the bucket
  skip : (n v j : ℕ) → v ≡ prev (hash_at l) n (home_of l key.d) → v ≤ j → j < n → used l j ≡ true → id_in l j ≡ id_of key → ⊥
  skip n v j e a b t f = eqb-false (hash_at l j) (home_of l key.d) (prev-gap (hash_at l) n (home_of l key.d) j (rw (← e) a) b) (same-hash j t f)

  pub seeks-first : (b v : ℕ) → 0 < u → b ≡ home_of l key.d → v ≡ checked (hash_at l) u b (head_at l b) → Seeks l u key v
  unfolding Indexed
  seeks-first b v p e f =
      record {
        low = rw f (checked-le (hash_at l) u b (head_at l b));
        none = λ x j a q t g. skip u v j (is x) a q t g;
        reach = λ x j g. prev-in (hash_at l) u (home_of l key.d) j (sym (is x) ∙ g);
      }
    where
      is : Linked (hash_at l) (link_at l) (head_at l) (slot_count l) u → v ≡ prev (hash_at l) u (home_of l key.d)
      is x = f ∙ x.heads b (rw e (home-low l key.d (omega arith))) ∙ ap (prev (hash_at l) u) e

  module _ (v i : ℕ) (s : Seeks l u key v) (e : v ≡ suc i) where
    pub seeks-hit : id_in l i ≡ id_of key → InSlot l u (id_of key) i
    seeks-hit f =
        record {
          low = omega (arith, s.low);
          same = f;
          live = λ x. used-hash l i (rw (s.reach x i e) (home-low l key.d (omega (arith, s.low))));
        }

    pub seeks-next : (y : ℕ) → (id_in l i ≡ id_of key → ⊥) → y ≡ bounded i (link_at l i) → Seeks l u key y
    unfolding Indexed
    seeks-next y d f =
        record {
          low = omega (arith, s.low, f, bounded-le i (link_at l i));
          none = λ x j a q t g. go x j a q t g (ℕ_discrete j i) (dec_lt j i);
          reach = λ x j g. prev-in (hash_at l) i (home_of l key.d) j (sym (is x) ∙ g);
        }
      where
        is : Linked (hash_at l) (link_at l) (head_at l) (slot_count l) u → y ≡ prev (hash_at l) i (home_of l key.d)
        is x =
            f ∙ x.links i (omega (arith, s.low)) (rw (s.reach x i e) (home-low l key.d (omega (arith, s.low)))) ∙ ap (prev (hash_at l) i) (s.reach x i e)

        go : Linked (hash_at l) (link_at l) (head_at l) (slot_count l) u → (j : ℕ) → y ≤ j → j < u → used l j ≡ true → id_in l j ≡ id_of key → Dec (j ≡ i) → Dec (j < i) → ⊥
        go x j a q t g (yes z) z' = d (rw z at g)
        go x j a q t g (no z) (yes z') = skip i y j (is x) a z' t g
        go x j a q t g (no z) (no z') = s.none x j (omega (arith, z, z')) q t g

  pub seeks-end : (v : ℕ) → Seeks l u key v → v ≡ 0 → NoSlot l u (id_of key)
  unfolding NoSlot
  seeks-end v s e = λ x j q. s.none x j (omega arith) q

pub no_slot : (l : List ℕ) (u k : ℕ) → u ≡ 0 → NoSlot l u k
unfolding NoSlot
no_slot l u k e = λ x j q. absurd (omega arith)

-- what a search for an id answers
abbrev pub FoundSlot : List ℕ → ℕ → ℕ → Option ℕ → Type 0
FoundSlot l u k (Some i) = InSlot l u k i
FoundSlot l u k None = NoSlot l u k

-- words that the index does not read may be others
pub indexed-fields : (l m : List ℕ) (u : ℕ) → length m ≡ length l → bucket_key m ≡ bucket_key l → ((i a : ℕ) → a < slot_words → (last_word < a → a < use_word → ⊥) → cell m i a ≡ cell l i a)
    → Indexed l u → Indexed m u
unfolding Indexed link_at head_at
indexed-fields l m u e k f x =
    rw e
    (linked-same (hash_at l) (link_at l) (head_at l) (hash_at m) (link_at m) (head_at m) (slot_count l) u
    (λ i q. hash-same l m i e k (f i last_word (omega arith) (λ y z. omega arith)) (f i use_word (omega arith) (λ y z. omega arith)))
    (λ i q. f i link_word (omega arith) (λ y z. omega arith)) (λ b q. f b head_word (omega arith) (λ y z. omega arith)) x)
