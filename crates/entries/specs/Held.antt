-- THE INVARIANT of the table, and what each change of words does to it.
use Rattle.std.specs.Prelude.{ℕ, zero, suc, ◌+◌, ◌≤◌, ◌<◌, ◌≡◌, refl, true, false, List, length, ltb}
use Rattle.std.proofs.Common.{sym, ◌∙◌, arith, lt-ltb, le-ltb}
use Rattle.std.proofs.Math.Path.{ap}
use Rattle.std.proofs.Math.Decide.{ℕ_discrete, dec_lt}
use Rattle.words.specs.Lists.{remove_at}
use Rattle.entries.specs.Entries.{Entry, weight_of, key_of, insert_by}
use Rattle.entries.specs.Order.{before, total}
use Rattle.entries.specs.Cells.{slot_count, slot_words, last_word, use_word, cell, raw_at, bucket_key, key-same, slot_of, slot-low, slot-ext, entry_in, entry_at, entries_of, entries-ext, in-ext, entry-ext, entry-is}
use Rattle.entries.specs.Index.{used, used-same, Indexed, indexed-none, indexed-same, indexed-item}
use Rattle.entries.specs.Marking.{Marked}
use Rattle.entries.specs.Ranks.{Ordered, ordered-ext, Ranks, removed, settled-list}
use Rattle.entries.specs.Turns.{inward, outward, in-low, in-at, in-mid, in-high, out-low, out-mid, out-high, In, in_view, Turn, turn_in, turn-out, turn_more, Perm, perm-none, turn_low, perm-turn, turn-test}
use Rattle.entries.specs.Turns as T

-- of the first u slots k are in use, those that the first k ranks name; the first n ranks are in order
pub record Kept (l : List ℕ) (u n k : ℕ) : Type 0 where
  pub index : Indexed l u
  pub perm : Perm u (slot_of l)
  pub lives : (r : ℕ) → r < u → used l (slot_of l r) ≡ ltb r k
  pub sorted : Ordered (entry_at l) n
  pub distinct : (r q : ℕ) → r < k → q < k → (entry_at l r).id ≡ (entry_at l q).id → r ≡ q

-- THE INVARIANT: u slots are known, n of them in use
abbrev pub Held : List ℕ → ℕ → ℕ → Type 0
Held l u n = Kept l u n n

-- any words are a table of no slots: a start clears nothing
pub held_none : (l : List ℕ) → Held l 0 0
unfolding Ordered
held_none l =
    record {
      index = indexed-none l;
      perm = perm-none (slot_of l);
      lives = λ r h. absurd (omega arith);
      sorted = λ a b h g. absurd (omega arith);
      distinct = λ r q h g e. absurd (omega arith);
    }

pub perm_same : (u : ℕ) (f g : ℕ → ℕ) → ((r : ℕ) → g r ≡ f r) → Perm u f → Perm u g
perm_same u f g e p =
    record {
      low = λ r h. rw (e r) (p.low r h);
      named = λ i h. let m = p.named i h in record { at = m.at; low = m.low; is = e m.at ∙ m.is };
      once = λ r q a b z. p.once r q a b (sym (e r) ∙ z ∙ e q);
    }

test-suc : (r n : ℕ) → (r ≡ n → ⊥) → ltb r n ≡ ltb r (suc n)
test-suc r n d = go (dec_lt r n)
  where
    go : Dec (r < n) → ltb r n ≡ ltb r (suc n)
    go (yes h) = rw (lt-ltb r n h, lt-ltb r (suc n) (omega arith))
    go (no h) = rw (le-ltb r n (omega (arith, h)), le-ltb r (suc n) (omega (arith, h, d)))

abbrev id_of_entry : Entry → ℕ
id_of_entry x = x.id

-- ---- the words of the ranks turn

pub record Turned (l m : List ℕ) (σ : ℕ → ℕ) : Type 0 where
  pub len : length m ≡ length l
  pub cells : (i a : ℕ) → i < slot_count l → a < slot_words → cell m i a ≡ cell l i a
  pub raws : (r : ℕ) → raw_at m r ≡ raw_at l (σ r)

module _ (l m : List ℕ) (σ : ℕ → ℕ) (t : Turned l m σ) where
  turned-slot : (r : ℕ) → slot_of m r ≡ slot_of l (σ r)
  turned-slot r = slot-ext l m r (σ r) t.len (t.raws r)

  turned-entry : 0 < slot_count l → (r : ℕ) → entry_at m r ≡ entry_at l (σ r)
  turned-entry h r = entry-ext l m r (σ r) t.len (t.raws r) (λ a g. t.cells (slot_of l (σ r)) a (slot-low l (σ r) h) (omega arith))

  module _ (τ : ℕ → ℕ) (u n k : ℕ) (room : u ≤ slot_count l) (low : k ≤ u) (pos : 0 < slot_count l) (v : Turn σ τ k) (s : Kept l u n k) where
    turned-is : (r : ℕ) → r < u → slot_of m r ≡ slot_of l (σ r)
    turned-is r h = turned-slot r

    turned-key : bucket_key m ≡ bucket_key l
    turned-key = key-same l m t.len (t.raws (slot_count l + 1) ∙ ap (raw_at l) (v.stays (slot_count l + 1) (omega arith)))

    turned-use : (r : ℕ) → r < u → used m (slot_of m r) ≡ ltb r k
    turned-use r h =
        ap (used m) (turned-slot r)
        ∙ used-same l m (slot_of l (σ r)) (t.cells (slot_of l (σ r)) use_word (slot-low l (σ r) pos) (omega arith))
        ∙ s.lives (σ r) (turn_low σ τ (slot_of l) (slot_of m) k u v low turned-is r h)
        ∙ turn-test σ τ (slot_of l) (slot_of m) k u v low turned-is r

    turned-distinct : (r q : ℕ) → r < k → q < k → (entry_at m r).id ≡ (entry_at m q).id → r ≡ q
    turned-distinct r q a b e =
        sym (v.forth r)
        ∙ ap τ
        (s.distinct (σ r) (σ q) (v.keeps r a) (v.keeps q b) (sym (ap id_of_entry (turned-entry pos r)) ∙ e ∙ ap id_of_entry (turned-entry pos q)))
        ∙ v.forth q

    turned-kept : (n' : ℕ) → Ordered (entry_at m) n' → Kept m u n' k
    turned-kept n' o =
        record {
          index = indexed-same l m u room t.len turned-key (λ i a h g d. t.cells i a h g) s.index;
          perm = perm-turn σ τ (slot_of l) (slot_of m) k u v low turned-is s.perm;
          lives = turned-use;
          sorted = o;
          distinct = turned-distinct;
        }

-- ---- the entry at rank `at` takes its place among those before it

pub record Settled (l m : List ℕ) (at w k : ℕ) : Type 0 where
  pub to : ℕ
  pub ranks : Ranks l at w k to
  pub turned : Turned l m (inward to at)

-- the others are in order, and it is ahead of those behind it
module _ (l m : List ℕ) (u n at w k : ℕ) (low : at < n) (le : n ≤ u) (room : u ≤ slot_count l) (e : (entry_at l at).weight ≡ w) (f : (entry_at l at).id ≡ k) (s : Kept l u at n)
    (rest : (a b : ℕ) → a < b → b < n → (a ≡ at → ⊥) → (b ≡ at → ⊥) → before weight_of key_of (entry_at l a) (entry_at l b) ≡ true)
    (tail : (b : ℕ) → at < b → b < n → before weight_of key_of (entry_at l at) (entry_at l b) ≡ true) (g : Settled l m at w k) where
  abbrev to : ℕ
  to = g.to

  its : Ranks l at (entry_at l at).weight (entry_at l at).id to
  its = rw (e, f) g.ranks

  h : to ≤ at
  h = its.low

  moved_to : (r : ℕ) → entry_at m r ≡ entry_at l (inward to at r)
  moved_to = turned-entry l m (inward to at) g.turned (omega arith)

  front : (r : ℕ) → r < to → entry_at m r ≡ entry_at l r
  front r a = moved_to r ∙ ap (entry_at l) (in-low to at h r a)

  itself : entry_at m to ≡ entry_at l at
  itself = moved_to to ∙ ap (entry_at l) (in-at to at h)

  behind : (r : ℕ) → to ≤ r → r < at → entry_at m (suc r) ≡ entry_at l r
  behind r a b = moved_to (suc r) ∙ ap (entry_at l) (in-mid to at h r a b)

  beyond : (r : ℕ) → at < r → entry_at m r ≡ entry_at l r
  beyond r a = moved_to r ∙ ap (entry_at l) (in-high to at h r a)

  -- those from the place on are behind it
  after : (r : ℕ) → to ≤ r → r < at → before weight_of key_of (entry_at l at) (entry_at l r) ≡ true
  after r a b =
      total weight_of key_of (entry_at l r) (entry_at l at) (λ z. omega (arith, s.distinct r at (omega arith) (omega arith) z)) (its.above s.sorted r a b)

  place-order : {a b : ℕ} → In to at h a → In to at h b → a < b → b < n → before weight_of key_of (entry_at m a) (entry_at m b) ≡ true
  place-order (T.low a p) (T.low b q) x y = rw (front a p, front b q) (rest a b x y (λ z. omega (arith, h)) (λ z. omega (arith, h)))
  place-order (T.low a p) T.here x y = rw (front a p, itself) (its.below s.sorted a p)
  place-order (T.low a p) (T.mid b q r) x y = rw (front a p, behind b q r) (rest a b (omega arith) (omega arith) (λ z. omega (arith, h)) (λ z. omega arith))
  place-order (T.low a p) (T.high b q) x y = rw (front a p, beyond b q) (rest a b x y (λ z. omega (arith, h)) (λ z. omega arith))
  place-order T.here (T.low b q) x y = absurd (omega arith)
  place-order T.here T.here x y = absurd (omega arith)
  place-order T.here (T.mid b q r) x y = rw (itself, behind b q r) (after b q r)
  place-order T.here (T.high b q) x y = rw (itself, beyond b q) (tail b q y)
  place-order (T.mid a p r) (T.low b q) x y = absurd (omega arith)
  place-order (T.mid a p r) T.here x y = absurd (omega arith)
  place-order (T.mid a p r) (T.mid b q o) x y = rw (behind a p r, behind b q o) (rest a b (omega arith) (omega arith) (λ z. omega arith) (λ z. omega arith))
  place-order (T.mid a p r) (T.high b q) x y = rw (behind a p r, beyond b q) (rest a b (omega arith) y (λ z. omega arith) (λ z. omega arith))
  place-order (T.high a p) (T.low b q) x y = absurd (omega (arith, h))
  place-order (T.high a p) T.here x y = absurd (omega (arith, h))
  place-order (T.high a p) (T.mid b q r) x y = absurd (omega arith)
  place-order (T.high a p) (T.high b q) x y = rw (beyond a p, beyond b q) (rest a b x y (λ z. omega arith) (λ z. omega arith))

  pub settled-held : Held m u n
  unfolding Ordered
  settled-held =
      turned-kept l m (inward to at) g.turned (outward to at) u at n room le (omega arith) (turn_more (inward to at) (outward to at) (suc at) n low (turn_in to at h)) s n
      (λ a b x y. place-order (in_view to at h a) (in_view to at h b) x y)

  pub settled-rows : entries_of m n ≡ insert_by (entry_at l at) (remove_at (entries_of l n) at)
  settled-rows = go n refl
    where
      go : (o : ℕ) → n ≡ o → entries_of m o ≡ insert_by (entry_at l at) (remove_at (entries_of l o) at)
      go zero z = absurd (omega arith)
      go (suc j) z =
          settled-list l m j at to (omega arith) h front itself behind (λ r a b. beyond r a) (its.below s.sorted)
          (λ a. its.above s.sorted to (omega arith) a)
          (λ a. tail (suc at) (omega arith) (omega arith))

-- words behind the ranks stay
pub settled-raws : (l m : List ℕ) (at w k : ℕ) → Settled l m at w k → (r : ℕ) → at < r → raw_at m r ≡ raw_at l r
settled-raws l m at w k g r a = g.turned.raws r ∙ ap (raw_at l) (in-high g.to at g.ranks.low r a)

-- ---- the entry at rank `at` goes behind the others

pub record Taken (l m : List ℕ) (n at : ℕ) : Type 0 where
  pub list : entries_of m n ≡ remove_at (entries_of l (suc n)) at
  pub kept : (u : ℕ) → n < u → u ≤ slot_count l → Held l u (suc n) → Kept m u n (suc n)
  pub raws : (r : ℕ) → n < r → raw_at m r ≡ raw_at l r

module _ (l m : List ℕ) (n at : ℕ) (h : at ≤ n) (t : Turned l m (outward at n)) (cap : n < slot_count l) where
  stay : (r : ℕ) → r < at → entry_at m r ≡ entry_at l r
  stay r a = turned-entry l m (outward at n) t (omega arith) r ∙ ap (entry_at l) (out-low at n h r a)

  next : (r : ℕ) → at ≤ r → r < n → entry_at m r ≡ entry_at l (suc r)
  next r a b = turned-entry l m (outward at n) t (omega arith) r ∙ ap (entry_at l) (out-mid at n h r a b)

  take-order : Ordered (entry_at l) (suc n) → (a b : ℕ) → a < b → b < n → Dec (a < at) → Dec (b < at) → before weight_of key_of (entry_at m a) (entry_at m b) ≡ true
  unfolding Ordered
  take-order s a b x y (yes p) (yes q) = rw (stay a p, stay b q) (s a b x (omega arith))
  take-order s a b x y (yes p) (no q) = rw (stay a p, next b (omega (arith, q)) y) (s a (suc b) (omega arith) (omega arith))
  take-order s a b x y (no p) (yes q) = absurd (omega (arith, p))
  take-order s a b x y (no p) (no q) = rw (next a (omega (arith, p)) (omega arith), next b (omega (arith, q)) y) (s (suc a) (suc b) (omega arith) (omega arith))

  pub taken : Taken l m n at
  unfolding Ordered
  taken =
      record {
        list = removed l m n at h stay next;
        kept =
            λ u low room s.
            turned-kept l m (outward at n) t (inward at n) u (suc n) (suc n) room low (omega arith) (turn-out at n h) s n (λ a b x y. take-order s.sorted a b x y (dec_lt a at) (dec_lt b at));
        raws = λ r a. t.raws r ∙ ap (raw_at l) (out-high at n h r a);
      }

-- ---- the slot behind the first n goes out of use

pub record Cleared (l m : List ℕ) (u n : ℕ) : Type 0 where
  pub list : (k : ℕ) → entries_of m k ≡ entries_of l k
  pub held : Kept l u n (suc n) → Held m u n
  pub raws : (r : ℕ) → raw_at m r ≡ raw_at l r

module _ (l m : List ℕ) (u n : ℕ) (low : n < u) (room : u ≤ slot_count l) (t : Marked l m u (slot_of l n) false) where
  clear-slot : (r : ℕ) → slot_of m r ≡ slot_of l r
  clear-slot r = slot-ext l m r r t.len (t.raws r)

  clear-entry : (r : ℕ) → entry_at m r ≡ entry_at l r
  clear-entry r = entry-ext l m r r t.len (t.raws r) (λ a g. t.cells (slot_of l r) a g)

  clear-use : Kept l u n (suc n) → (r : ℕ) → r < u → Dec (r ≡ n) → used m (slot_of m r) ≡ ltb r n
  clear-use s r h (yes e) = rw (e, clear-slot n, le-ltb n n (omega arith)) t.here
  clear-use s r h (no e) =
      ap (used m) (clear-slot r) ∙ used-same l m (slot_of l r) (t.others (slot_of l r) (λ z. e (s.perm.once r n h low z))) ∙ s.lives r h ∙ sym (test-suc r n e)

  cleared : Cleared l m u n
  cleared =
      record {
        list = λ k. entries-ext l m k (λ r b. clear-entry r);
        held =
            λ s.
            record {
              index = t.index s.index (s.perm.low n low) (s.lives n low ∙ lt-ltb n (suc n) (omega arith));
              perm = perm_same u (slot_of l) (slot_of m) clear-slot s.perm;
              lives = λ r h. clear-use s r h (ℕ_discrete r n);
              sorted = ordered-ext (entry_at l) (entry_at m) n (λ r b. clear-entry r) s.sorted;
              distinct = λ r q a b e. s.distinct r q (omega arith) (omega arith) (sym (ap id_of_entry (clear-entry r)) ∙ e ∙ ap id_of_entry (clear-entry q));
            };
        raws = t.raws;
      }

pub cleared_at : (l m : List ℕ) (u n i : ℕ) → i ≡ slot_of l n → n < u → u ≤ slot_count l → Marked l m u i false → Cleared l m u n
cleared_at l m u n i e low room t = cleared l m u n low room (rw e at t)

-- ---- an entry is written in the slot behind the first n, and comes into use

pub record EntryPut (l m : List ℕ) (i : ℕ) (x : Entry) : Type 0 where
  pub len : length m ≡ length l
  pub here : entry_in m i ≡ x
  pub others : (j a : ℕ) → a < slot_words → (j ≡ i → ⊥) → cell m j a ≡ cell l j a
  pub high : (j a : ℕ) → use_word ≤ a → a < slot_words → cell m j a ≡ cell l j a
  pub raws : (r : ℕ) → raw_at m r ≡ raw_at l r

pub record Filled (l m : List ℕ) (u n : ℕ) (x : Entry) : Type 0 where
  pub this : entry_at m n ≡ x
  pub list : Held l u n → entries_of m n ≡ entries_of l n
  pub kept : Held l u n → ((r : ℕ) → r < n → (entry_at l r).id ≡ x.id → ⊥) → Kept m u n (suc n)
  pub raws : (r : ℕ) → raw_at m r ≡ raw_at l r

module _ (l o m : List ℕ) (u n : ℕ) (x : Entry) (low : n < u) (room : u ≤ slot_count l) (p : EntryPut l o (slot_of l n) x) (t : Marked o m u (slot_of l n) true) where
  fill-slot : (r : ℕ) → slot_of m r ≡ slot_of l r
  fill-slot r = slot-ext l m r r (t.len ∙ p.len) (t.raws r ∙ p.raws r)

  fill-this : entry_at m n ≡ x
  fill-this = entry-is m n (slot_of l n) (fill-slot n) ∙ in-ext o m (slot_of l n) (slot_of l n) (λ a g. t.cells (slot_of l n) a g) ∙ p.here

  module _ (s : Held l u n) where
    other : (r : ℕ) → r < u → (r ≡ n → ⊥) → slot_of l r ≡ slot_of l n → ⊥
    other r h d e = d (s.perm.once r n h low e)

    fill-entry : (r : ℕ) → r < n → entry_at m r ≡ entry_at l r
    fill-entry r h =
        entry-ext l m r r (t.len ∙ p.len) (t.raws r ∙ p.raws r) (λ a g. t.cells (slot_of l r) a g ∙ p.others (slot_of l r) a (omega arith) (other r (omega arith) (λ e. omega arith)))

    free : used l (slot_of l n) ≡ false
    free = s.lives n low ∙ le-ltb n n (omega arith)

    fill-index : Indexed m u
    fill-index =
        t.index
        (indexed-item l o u (slot_of l n) p.len (key-same l o p.len (p.raws (slot_count l + 1))) free (λ j d. p.others j last_word (omega arith) d) p.high s.index)
        (s.perm.low n low)
        (used-same l o (slot_of l n) (p.high (slot_of l n) use_word (omega arith) (omega arith)) ∙ free)

    fill-use : (r : ℕ) → r < u → Dec (r ≡ n) → used m (slot_of m r) ≡ ltb r (suc n)
    fill-use r h (yes e) = rw (e, fill-slot n, lt-ltb n (suc n) (omega arith)) t.here
    fill-use r h (no e) =
        ap (used m) (fill-slot r)
        ∙ used-same l m (slot_of l r) (t.others (slot_of l r) (other r h e) ∙ p.high (slot_of l r) use_word (omega arith) (omega arith))
        ∙ s.lives r h
        ∙ test-suc r n e

    fill-distinct : ((r : ℕ) → r < n → (entry_at l r).id ≡ x.id → ⊥) → (r q : ℕ) → r < suc n → q < suc n → (entry_at m r).id ≡ (entry_at m q).id → Dec (r ≡ n) → Dec (q ≡ n) → r ≡ q
    fill-distinct d r q a b e (yes y) (yes z) = y ∙ sym z
    fill-distinct d r q a b e (yes y) (no z) =
        let g : q < n = omega (arith, z) in
        absurd (d q g (sym (ap id_of_entry (fill-entry q g)) ∙ sym e ∙ ap (λ (i : ℕ). (entry_at m i).id) y ∙ ap id_of_entry fill-this))
    fill-distinct d r q a b e (no y) (yes z) =
        let g : r < n = omega (arith, y) in
        absurd (d r g (sym (ap id_of_entry (fill-entry r g)) ∙ e ∙ ap (λ (i : ℕ). (entry_at m i).id) z ∙ ap id_of_entry fill-this))
    fill-distinct d r q a b e (no y) (no z) =
        let g : r < n = omega (arith, y) in
        let f : q < n = omega (arith, z) in
        s.distinct r q g f (sym (ap id_of_entry (fill-entry r g)) ∙ e ∙ ap id_of_entry (fill-entry q f))

  filled : Filled l m u n x
  filled =
      record {
        this = fill-this;
        list = λ s. entries-ext l m n (λ r b. fill-entry s r b);
        kept =
            λ s d.
            record {
              index = fill-index s;
              perm = perm_same u (slot_of l) (slot_of m) fill-slot s.perm;
              lives = λ r h. fill-use s r h (ℕ_discrete r n);
              sorted = ordered-ext (entry_at l) (entry_at m) n (λ r b. fill-entry s r b) s.sorted;
              distinct = λ r q a b e. fill-distinct s d r q a b e (ℕ_discrete r n) (ℕ_discrete q n);
            };
        raws = λ r. t.raws r ∙ p.raws r;
      }

pub filled_at : (l o m : List ℕ) (u n i : ℕ) (x : Entry) → i ≡ slot_of l n → n < u → u ≤ slot_count l → EntryPut l o i x → Marked o m u i true → Filled l m u n x
filled_at l o m u n i x e low room p t = filled l o m u n x low room (rw e at p) (rw e at t)
