-- What the table's functions find, and what they leave: an entry that enters, leaves, or is the lowest and leaves.
use Rattle.std.specs.Prelude.{None, Option, Some, is_some}
use Rattle.std.specs.Prelude.{ℕ, zero, suc, ◌+◌, ◌-◌, ◌≤◌, ◌<◌, ◌≡◌, Bool, true, false, List, length, ltb}
use Rattle.std.proofs.Math.Path.{refl, sym, ap}
use Rattle.std.proofs.Common.{◌∙◌, add-one}
use Rattle.std.proofs.Math.Decide.{ℕ_discrete, dec_lt}
use native.Mathlib.Omega.{arith}
use borrow.Author.Tests.{lt-ltb, le-ltb, ltb-true}
use Rattle.words.specs.Lists.{remove_at}
use Rattle.words.specs.Find.{without, drop_last}
use Rattle.words.specs.Tables.{hole-end}
use Rattle.entries.specs.Entries.{Entry, weight_of, key_of, insert_by, pooled, place_of}
use Rattle.entries.specs.Order.{before, irrefl}
use Rattle.entries.specs.Cells.{slot_count, slot_words, weight_word, use_word, cell, raw_at, known_of, known-none, known-low, known-high, key-same, slot_of, slot-in, slot-low, slot-ext, entry_at, entries_of, entries, entries-ext, in-id, in-weight, entry-ext, entry-is, put_cell, put-length, put-here, put-else, put-raw, put_raw, ord-length, ord-here, ord-else, ord-cell}
use Rattle.entries.specs.Index.{used, used-same, used-none, indexed-same, indexed-more, InSlot, NoSlot, FoundSlot}
use Rattle.entries.specs.Turns.{perm-more}
use Rattle.entries.specs.Ranks.{Ordered, ordered-ext, ordered-fewer, Ranks, nowhere, somewhere, not_there}
use Rattle.entries.specs.Held.{Kept, Held, Settled, settled-held, settled-rows, settled-raws, Taken, Cleared, Filled}
use Rattle.entries.specs.Layout.{EntriesOk, EntriesKept, Left, kept-as}
use Rattle.entries.specs.Laws.{at_place, no_place, but-lowest}

-- ---- a search for an id: on any words a rank below n; where the words are a table, its place, found and absent

pub record FoundRank (l : List ℕ) (u n k : ℕ) (r : Option ℕ) : Type 0 where
  pub low : (q : ℕ) → r ≡ Some q → q < n
  pub equals : Held l u n → r ≡ place_of k (entries_of l n)

-- no slot in use has the id: no rank has
pub slot-none : (l : List ℕ) (u n k : ℕ) → n ≤ u → NoSlot l u k → Held l u n → place_of k (entries_of l n) ≡ None
unfolding NoSlot
slot-none l u n k h f s =
    nowhere l n k
    (λ r b e. f s.index (slot_of l r) (s.perm.low r (omega arith)) (s.lives r (omega arith) ∙ lt-ltb r n b) (sym (ap (λ (x : Entry). x.id) (entry-is l r (slot_of l r) refl) ∙ in-id l (slot_of l r)) ∙ e))

module _ (l : List ℕ) (u n k i : ℕ) (h : n ≤ u) (f : InSlot l u k i) (s : Held l u n) where
  -- the rank of a slot that was found
  pub own_rank : ℕ
  own_rank = (s.perm.named i f.low).at

  pub own-slot : slot_of l own_rank ≡ i
  unfolding own_rank
  own-slot = (s.perm.named i f.low).is

  pub own-low : own_rank < n
  unfolding own_rank
  own-low =
      let m = s.perm.named i f.low in
      ltb-true m.at n (sym (s.lives m.at m.low) ∙ ap (used l) m.is ∙ f.live s.index)

  pub own-place : place_of k (entries_of l n) ≡ Some own_rank
  own-place = somewhere l n k own_rank own-low (ap (λ (x : Entry). x.id) (entry-is l own_rank i own-slot) ∙ in-id l i ∙ f.same) s.distinct

  own-weight : (entry_at l own_rank).weight ≡ cell l i weight_word
  own-weight = ap (λ (x : Entry). x.weight) (entry-is l own_rank i own-slot) ∙ in-weight l i

  own-id : (entry_at l own_rank).id ≡ k
  own-id = ap (λ (x : Entry). x.id) (entry-is l own_rank i own-slot) ∙ in-id l i ∙ f.same

  -- it is what halving finds
  pub own_is : (w r : ℕ) → w ≡ cell l i weight_word → Ranks l n w k r → r ≡ own_rank
  unfolding Ordered
  own_is w r e g = go (dec_lt own_rank r) (dec_lt r own_rank)
    where
      its : Ranks l n (entry_at l own_rank).weight (entry_at l own_rank).id r
      its = rw (own-weight ∙ sym e, own-id) g

      clash : {A : Bool} → A ≡ true → A ≡ false → ⊥
      clash y z = let o : true ≡ false = sym y ∙ z in let x : ◌≡◌ {A = ℕ} 0 1 = cc in omega arith

      go : Dec (own_rank < r) → Dec (r < own_rank) → r ≡ own_rank
      go (yes y) z = absurd (clash (its.below s.sorted own_rank y) (irrefl weight_of key_of (entry_at l own_rank)))
      go (no y) (yes z) = absurd (clash (s.sorted r own_rank z own-low) (its.above s.sorted r (omega arith) (omega (arith, own-low))))
      go (no y) (no z) = omega (arith, y, z)

pub found_none : (l : List ℕ) (u n k : ℕ) → n ≤ u → NoSlot l u k → FoundRank l u n k None
found_none l u n k h f =
    record { low = λ q e. let z : ◌≡◌ {A = ℕ} 0 1 = cc in absurd (omega arith); equals = λ s. sym (slot-none l u n k h f s) }

module _ (l : List ℕ) (u n k i w r : ℕ) (h : n ≤ u) (f : InSlot l u k i) (e : w ≡ cell l i weight_word) (g : Ranks l n w k r) where
  pub found_at : r < n → FoundRank l u n k (Some r)
  found_at b =
      record { low = λ q z. let y : r ≡ q = cc in omega arith; equals = λ s. ap Some (own_is l u n k i h f s w r e g) ∙ sym (own-place l u n k i h f s) }

  -- a rank beyond the others: that is no table
  pub found-beyond : n ≤ r → FoundRank l u n k None
  found-beyond b =
      record {
        low = λ q z. let y : ◌≡◌ {A = ℕ} 0 1 = cc in absurd (omega arith);
        equals = λ s. absurd (omega (arith, own-low l u n k i h f s, own_is l u n k i h f s w r e g));
      }

-- ---- the same of a table that is kept

module _ (l : List ℕ) (u n k : ℕ) (eu : u ≡ known_of l n) where
  pub kept-held : EntriesKept l n → Held l u n
  kept-held s = rw eu s.held

  pub kept_word : EntriesKept l n → 0 < n → raw_at l (slot_count l) ≡ u
  kept_word s p = s.word p ∙ sym eu

  pub found-place : (r : Option ℕ) → FoundRank l u n k r → EntriesKept l n → r ≡ place_of k (entries_of l n)
  found-place r f s = f.equals (kept-held s)

  low : n ≤ u
  low = rw eu (known-low l n)

  pub slot-told : (r : Option ℕ) → FoundSlot l u k r → EntriesKept l n → is_some r ≡ pooled k (entries_of l n)
  slot-told (Some i) f s = sym (at_place k _ (entries_of l n) (own-place l u n k i low f (kept-held s))).is
  slot-told None f s = sym (no_place k (entries_of l n) (slot-none l u n k low f (kept-held s))).is

known-pos : (l : List ℕ) (n : ℕ) → 0 < known_of l n → 0 < n
known-pos l zero h = absurd (omega (arith, known-none l 0 refl))
known-pos l (suc n) h = omega arith

-- ---- a slot for one more

pub record Grown (l m : List ℕ) (u n t : ℕ) : Type 0 where
  pub low : n < t
  pub high : t ≤ slot_count l
  pub list : entries_of m n ≡ entries_of l n
  pub same : (r : ℕ) → r < n → entry_at m r ≡ entry_at l r
  pub word : (0 < u → raw_at l (slot_count l) ≡ u) → raw_at m (slot_count l) ≡ t
  pub held : Held l u n → Held m t n

pub grown-not : (l : List ℕ) (u n : ℕ) → n < u → u ≤ slot_count l → Grown l l u n u
grown-not l u n h g = record { low = h; high = g; list = refl; same = λ r b. refl; word = λ w. w (omega arith); held = λ s. s }

module _ (l : List ℕ) (u n : ℕ) (h : u < slot_count l) (g : n ≤ u) (e : u ≤ n) where
  abbrev half : List ℕ
  half = put_cell l u use_word 0

  abbrev ranked : List ℕ
  ranked = put_raw half u u

  abbrev new : List ℕ
  new = put_raw ranked (slot_count l) (suc u)

  half-len : length half ≡ length l
  half-len = put-length l u use_word 0

  ranked-len : length ranked ≡ length l
  ranked-len = ord-length half u u ∙ half-len

  new-len : length new ≡ length l
  new-len = ord-length ranked (slot_count l) (suc u) ∙ ranked-len

  new-cell : (i a : ℕ) → i < slot_count l → a < slot_words → (i ≡ u → a ≡ use_word → ⊥) → cell new i a ≡ cell l i a
  new-cell i a b c d =
      ord-cell ranked (slot_count l) (suc u) i a (rw ranked-len b) c ∙ ord-cell half u u i a (rw half-len b) c ∙ put-else l u use_word 0 h (omega arith) i a c d

  new-raw : (r : ℕ) → (r ≡ u → ⊥) → (r ≡ slot_count l → ⊥) → raw_at new r ≡ raw_at l r
  new-raw r b c = ord-else ranked (slot_count l) (suc u) r c ∙ ord-else half u u r b ∙ put-raw l u use_word 0 h (omega arith) r

  new-slot : (r : ℕ) → r < u → slot_of new r ≡ slot_of l r
  new-slot r b = slot-ext l new r r new-len (new-raw r (λ z. omega arith) (λ z. omega arith))

  last-raw : raw_at new u ≡ u
  last-raw = ord-else ranked (slot_count l) (suc u) u (λ z. omega arith) ∙ ord-here half u u (rw half-len (omega arith))

  last-slot : slot_of new u ≡ u
  last-slot = sym (slot-in new u u (sym last-raw) (rw new-len h))

  new-entry : (r : ℕ) → r < u → entry_at new r ≡ entry_at l r
  new-entry r b =
      entry-ext l new r r new-len (new-raw r (λ z. omega arith) (λ z. omega arith)) (λ a c. new-cell (slot_of l r) a (slot-low l r (omega arith)) (omega arith) (λ y z. omega arith))

  new-use : used new u ≡ false
  new-use =
      used-none new u
      (ord-cell ranked (slot_count l) (suc u) u use_word (rw ranked-len h) (omega arith) ∙ ord-cell half u u u use_word (rw half-len h) (omega arith) ∙ put-here l u use_word 0 h (omega arith))

  lives_more : Held l u n → (r : ℕ) → r < suc u → Dec (r ≡ u) → used new (slot_of new r) ≡ ltb r n
  lives_more s r b (yes d) = rw (d, last-slot, new-use, le-ltb u n g)
  lives_more s r b (no d) =
      let c : r < u = omega (arith, d) in
      ap (used new) (new-slot r c) ∙ used-same l new (slot_of l r) (new-cell (slot_of l r) use_word (slot-low l r (omega arith)) (omega arith) (λ y z. omega (arith, s.perm.low r c))) ∙ s.lives r c

  pub grown : Grown l new u n (suc u)
  grown =
      record {
        low = omega arith;
        high = h;
        list = entries-ext l new n (λ r b. new-entry r (omega arith));
        same = λ r b. new-entry r (omega arith);
        word = λ w. ord-here ranked (slot_count l) (suc u) (rw ranked-len (omega arith));
        held =
            λ s.
            record {
              index = indexed-more new u new-use (indexed-same l new u (omega arith) new-len (key-same l new new-len (new-raw (slot_count l + 1) (λ z. omega arith) (λ z. omega arith))) new-cell s.index);
              perm = perm-more u (slot_of l) (slot_of new) new-slot last-slot s.perm;
              lives = λ r b. lives_more s r b (ℕ_discrete r u);
              sorted = ordered-ext (entry_at l) (entry_at new) n (λ r b. new-entry r (omega arith)) s.sorted;
              distinct =
                  λ r q a b z.
                  s.distinct r q a b (sym (ap (λ (x : Entry). x.id) (new-entry r (omega arith))) ∙ z ∙ ap (λ (x : Entry). x.id) (new-entry q (omega arith)));
            };
      }

pub grown-at : (l a b m : List ℕ) (u n end x t : ℕ) → end ≡ slot_count l → n ≤ u → u ≤ n → u < slot_count l → x ≡ u → t ≡ u + 1 → a ≡ put_cell l u use_word 0 → b ≡ put_raw a u x → m ≡ put_raw b end t → Grown l m u n t
grown-at l a b m u n end x t e h g room ex et ea eb em = rw (em, eb, ea, e, ex, et, add-one u) (grown l u n room h g)

-- ---- an entry enters

module _ (l a b m : List ℕ) (u n t : ℕ) (x : Entry) (eu : u ≡ known_of l n) (g : Grown l a u n t) (lena : length a ≡ length l) (lenb : length b ≡ length a) (lenm : length m ≡ length b)
    (f : Filled a b t n x) (p : Settled b m n x.weight x.id) (k : EntriesKept l n) (new : pooled x.id (entries_of l n) ≡ false) where
  lens : length m ≡ length l
  lens = lenm ∙ lenb ∙ lena

  room : t ≤ slot_count b
  room = rw (lenb ∙ lena) g.high

  held-a : Held a t n
  held-a = g.held (kept-held l u n 0 eu k)

  kept_b : Kept b t n (suc n)
  kept_b = f.kept held-a (λ r c z. not_there l n x.id new r c (sym (ap (λ (y : Entry). y.id) (g.same r c)) ∙ z))

  -- the others are in order, and none is behind it
  rest : (i j : ℕ) → i < j → j < suc n → (i ≡ n → ⊥) → (j ≡ n → ⊥) → before weight_of key_of (entry_at b i) (entry_at b j) ≡ true
  unfolding Ordered
  rest i j h q d e = kept_b.sorted i j h (omega (arith, e))

  held-m : Held m t (suc n)
  held-m =
      settled-held b m t (suc n) n x.weight x.id (omega arith) g.low room (ap (λ (y : Entry). y.weight) f.this) (ap (λ (y : Entry). y.id) f.this) kept_b rest (λ j h q. absurd (omega arith)) p

  rows-m : entries_of m (suc n) ≡ insert_by x (entries_of l n)
  rows-m =
      settled-rows b m t (suc n) n x.weight x.id (omega arith) g.low room (ap (λ (y : Entry). y.weight) f.this) (ap (λ (y : Entry). y.id) f.this) kept_b rest (λ j h q. absurd (omega arith)) p
      ∙ (λ i. insert_by (f.this i) ((sym (hole-end entries b n (suc n) (sym (add-one n))) ∙ f.list held-a ∙ g.list) i))

  word-m : raw_at m (slot_count m) ≡ t
  word-m =
      rw lens
      (settled-raws b m n x.weight x.id p (slot_count l) (omega (arith, g.low, g.high))
      ∙ f.raws (slot_count l)
      ∙ g.word (λ q. kept_word l u n 0 eu k (known-pos l n (rw eu at q))))

  pub inserted : Left l m (n + 1) (insert_by x (entries_of l n))
  unfolding EntriesOk
  inserted =
      rw (add-one n)
      record {
        rows = rows-m;
        kept = kept-as m t (suc n) g.low (rw lens g.high) (λ q. word-m) held-m;
        ok = rw lens (omega (arith, g.low, g.high));
        words = lens;
      }

-- ---- the entry with an id leaves

module _ (l : List ℕ) (u n k : ℕ) (eu : u ≡ known_of l n) (fits : n ≤ slot_count l) where
  kept_low : n ≤ u
  kept_low = rw eu (known-low l n)

  kept_high : u ≤ slot_count l
  kept_high = rw eu (known-high l n fits)

  pub removed-not : FoundRank l u n k None → EntriesKept l n → Left l l n (without (λ e. e.id) k (entries_of l n))
  unfolding EntriesOk
  removed-not f s = record { rows = sym (no_place k (entries_of l n) (sym (f.equals (kept-held l u n k eu s)))).out; kept = s; ok = fits; words = refl }

  pub removed-at : (a m : List ℕ) (j at : ℕ) → n ≡ suc j → length a ≡ length l → length m ≡ length a → FoundRank l u n k (Some at) → Taken l a j at → Cleared a m u j → EntriesKept l n → Left l m j (without (λ e. e.id) k (entries_of l n))
  unfolding EntriesOk
  removed-at a m j at e lena lenm f t c s =
      record {
        rows = c.list j ∙ t.list ∙ ap (λ (q : ℕ). remove_at (entries_of l q) at) (sym e) ∙ sym (at_place k at (entries_of l n) (sym (f.equals held))).out;
        kept =
            kept-as m u j (omega (arith, kept_low)) (rw (lenm ∙ lena) kept_high)
            (λ q. rw (lenm ∙ lena) (c.raws (slot_count l) ∙ t.raws (slot_count l) (omega arith) ∙ kept_word l u n k eu s (omega arith)))
            (c.held (t.kept u (omega (arith, kept_low)) kept_high (rw e at held)));
        ok = rw (lenm ∙ lena) (omega arith);
        words = lenm ∙ lena;
      }
    where
      held : Held l u n
      held = kept-held l u n k eu s

  -- the lowest leaves: no rank moves
  pub lowest-out : (m : List ℕ) (j : ℕ) → n ≡ suc j → length m ≡ length l → Cleared l m u j → EntriesKept l n → Left l m j (drop_last (entries_of l n))
  unfolding EntriesOk
  lowest-out m j e lenm c s =
      let d : j ≡ n - 1 = omega arith in
      record {
        rows = c.list j ∙ rw d (but-lowest l n (omega arith));
        kept =
            kept-as m u j (omega (arith, kept_low)) (rw lenm kept_high)
            (λ q. rw lenm (c.raws (slot_count l) ∙ kept_word l u n k eu s (omega arith)))
            (c.held (rw e at kept-before));
        ok = rw lenm (omega arith);
        words = lenm;
      }
    where
      held : Held l u n
      held = kept-held l u n k eu s

      kept-before : Kept l u j n
      kept-before =
          record {
            index = held.index;
            perm = held.perm;
            lives = held.lives;
            sorted = ordered-fewer (entry_at l) j n (omega arith) held.sorted;
            distinct = held.distinct;
          }
