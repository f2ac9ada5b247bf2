-- An entry's weight is raised, and it takes its place among those before it; an entry gets a validation cost and the time of its check.
use Rattle.std.specs.Prelude.{None, Option, Some}
use Rattle.std.specs.Prelude.{ℕ, zero, suc, ◌+◌, ◌≤◌, ◌<◌, ◌≡◌, true, List, ◌∷◌, length, set}
use Rattle.std.proofs.Common.{suc-le-suc, sym, ap, ◌∙◌, le_of_suc-le-suc, arith, ne_eqb, lt-ltb}
use Rattle.std.proofs.Math.Path.{refl}
use Rattle.std.proofs.Math.Decide.{ℕ_discrete}
use Rattle.words.specs.Lists.{remove_at}
use Rattle.words.specs.Rows.{tab, tab-ext}
use Rattle.words.specs.Sums.{cap, capped}
use Rattle.entries.specs.Entries.{Entry, weight_of, key_of, ahead, insert_by, place_of, raised, credit, stamp, stamped}
use Rattle.entries.specs.Order.{before, trans}
use Rattle.entries.specs.Cells.{tag_of, value_of, slot_count, slot_words, last_word, weight_word, use_word, cell, raw_at, known_of, known-low, known-high, key-same, slot_of, slot-low, slot-ext, entry_in, entry_from, entry_at, entries_of, entry-ext, entry-is, put_cell, put-length, put-here, put-else, put-raw}
use Rattle.entries.specs.Index.{used, used-same, indexed-fields, InSlot, NoSlot}
use Rattle.entries.specs.Turns.{Perm}
use Rattle.entries.specs.Ranks.{Ordered, ordered-ext, ordered-fewer, removed-same}
use Rattle.entries.specs.Held.{Kept, Held, perm_same, Settled, settled-held, settled-rows, settled-raws}
use Rattle.entries.specs.Layout.{EntriesOk, EntriesKept, Left, kept-as}
use Rattle.entries.specs.Places.{no_place, place-fits, place-id, credit-row, credit-none, stamp-row}
use Rattle.entries.specs.Storing.{cost-of}
use Rattle.entries.specs.Changing.{FoundRank, kept-held, kept_word, slot-none, own_rank, own-slot, own-low, own-place}

-- ---- fields of slot i that neither the index nor an id reads are others

pub record Changed (l m : List ℕ) (i : ℕ) : Type 0 where
  pub len : length m ≡ length l
  pub raws : (r : ℕ) → raw_at m r ≡ raw_at l r
  pub others : (j a : ℕ) → a < slot_words → (j ≡ i → ⊥) → cell m j a ≡ cell l j a
  pub index : (j a : ℕ) → a < slot_words → (last_word < a → a < use_word → ⊥) → cell m j a ≡ cell l j a

module _ (l m : List ℕ) (i : ℕ) (c : Changed l m i) where
  changed-slot : (r : ℕ) → slot_of m r ≡ slot_of l r
  changed-slot r = slot-ext l m r r c.len (c.raws r)

  changed-id : (r : ℕ) → (entry_at m r).id ≡ (entry_at l r).id
  unfolding entry_at entry_in entry_from
  changed-id r =
      rw (changed-slot r, c.index (slot_of l r) 0 (omega arith) (λ y z. omega arith), c.index (slot_of l r) 1 (omega arith) (λ y z. omega arith), c.index (slot_of l r) 2 (omega arith) (λ y z. omega arith), c.index (slot_of l r) 3 (omega arith) (λ y z. omega arith))

  -- the other ranks' entries are what they were
  changed-others : (u : ℕ) → Perm u (slot_of l) → (at : ℕ) → at < u → slot_of l at ≡ i → (r : ℕ) → r < u → (r ≡ at → ⊥) → entry_at m r ≡ entry_at l r
  changed-others u p at b e r h d =
      entry-ext l m r r c.len (c.raws r) (λ a g. c.others (slot_of l r) a (omega arith) (λ z. d (p.once r at h b (z ∙ sym e))))

  changed-kept : (u n o k : ℕ) → Ordered (entry_at m) o → Kept l u n k → Kept m u o k
  changed-kept u n o k q s =
      record {
        index = indexed-fields l m u c.len (key-same l m c.len (c.raws (slot_count l + 1))) c.index s.index;
        perm = perm_same u (slot_of l) (slot_of m) changed-slot s.perm;
        lives = λ r b. ap (used m) (changed-slot r) ∙ used-same l m (slot_of l r) (c.index (slot_of l r) use_word (omega arith) (λ y z. omega arith)) ∙ s.lives r b;
        sorted = q;
        distinct = λ r q a b z. s.distinct r q a b (sym (changed-id r) ∙ z ∙ changed-id q);
      }

-- ---- the weight of the entry at rank `at` is raised

pub record Raised (l m : List ℕ) (at a w : ℕ) : Type 0 where
  pub changed : Changed l m (slot_of l at)
  pub weight : (entry_at m at).weight ≡ w
  pub this : entry_at m at ≡ raised a (entry_at l at)
  pub grows : (entry_at l at).weight ≤ w

module _ (l : List ℕ) (at a w : ℕ) (room : at < slot_count l) (big : cell l (slot_of l at) weight_word ≤ cap) (e : w ≡ capped (cell l (slot_of l at) weight_word + a)) where
  abbrev new : List ℕ
  new = put_cell l (slot_of l at) weight_word w

  low : slot_of l at < slot_count l
  low = slot-low l at (omega arith)

  cells : (j b : ℕ) → b < slot_words → (j ≡ slot_of l at → b ≡ weight_word → ⊥) → cell new j b ≡ cell l j b
  cells j b = put-else l (slot_of l at) weight_word w low (omega arith) j b

  new-changed : Changed l new (slot_of l at)
  new-changed =
      record {
        len = put-length l (slot_of l at) weight_word w;
        raws = put-raw l (slot_of l at) weight_word w low (omega arith);
        others = λ j b q d. cells j b q (λ y z. d y);
        index = λ j b q d. cells j b q (λ y z. d (omega arith) (omega arith));
      }

  here : (b : ℕ) → b < slot_words → (b ≡ weight_word → ⊥) → cell new (slot_of l at) b ≡ cell l (slot_of l at) b
  here b q d = cells (slot_of l at) b q (λ y z. d z)

  new-this : entry_at new at ≡ raised a (entry_at l at)
  unfolding entry_at entry_in entry_from
  new-this =
      rw (changed-slot l new (slot_of l at) new-changed at, put-here l (slot_of l at) weight_word w low (omega arith), here 0 (omega arith) (λ z. omega arith), here 1 (omega arith) (λ z. omega arith), here 2 (omega arith) (λ z. omega arith), here 3 (omega arith) (λ z. omega arith), here 5 (omega arith) (λ z. omega arith), here 6 (omega arith) (λ z. omega arith), here 7 (omega arith) (λ z. omega arith), here 8 (omega arith) (λ z. omega arith), here 9 (omega arith) (λ z. omega arith), here 10 (omega arith) (λ z. omega arith), here 11 (omega arith) (λ z. omega arith), here 12 (omega arith) (λ z. omega arith), here 13 (omega arith) (λ z. omega arith), e)

  was-weight : (entry_at l at).weight ≡ cell l (slot_of l at) weight_word
  unfolding entry_at entry_in entry_from
  was-weight = refl

  raised_is : Raised l new at a w
  raised_is =
      record {
        changed = new-changed;
        weight = ap (λ (x : Entry). x.weight) new-this ∙ rw was-weight (sym e);
        this = new-this;
        grows = omega (arith, was-weight, e, big);
      }

pub raised_at : (l m : List ℕ) (at a w i x : ℕ) → at < slot_count l → i ≡ slot_of l at → x ≡ cell l i weight_word → x ≤ cap → w ≡ capped (x + a) → m ≡ put_cell l i weight_word w → Raised l m at a w
raised_at l m at a w i x room e f b g h =
    let z : x ≡ cell l (slot_of l at) weight_word = f ∙ ap (λ (j : ℕ). cell l j weight_word) e in
    rw (h, e) (raised_is l at a w room (omega arith) (g ∙ ap (λ (y : ℕ). capped (y + a)) z))

-- ---- a credit

-- what is ahead is ahead with more weight
heavier : (w v k w' k' : ℕ) → ahead w k w' k' ≡ true → w ≤ v → ahead v k w' k' ≡ true
unfolding ahead
heavier w v k w' k' h g = go (ℕ_discrete w v)
  where
    go : Dec (w ≡ v) → ahead v k w' k' ≡ true
    go (yes e) = rw e at h
    go (no e) = trans {A = ℕ × ℕ} (λ z. z.0) (λ z. z.1) (v, k) (w, k) (w', k') (rw (ne_eqb v w (λ z. e (sym z)), lt-ltb w v (omega (arith, e)))) h

pub credited-not : (l : List ℕ) (u n k a : ℕ) → u ≡ known_of l n → n ≤ slot_count l → FoundRank l u n k None → EntriesKept l n → Left l l n (credit a k (entries_of l n))
unfolding EntriesOk
credited-not l u n k a eu fits f s =
    record { rows = credit-none a k (entries_of l n) (sym (f.equals (kept-held l u n k eu s))); kept = s; ok = fits; words = refl }

module _ (l o m : List ℕ) (u n k a at w : ℕ) (eu : u ≡ known_of l n) (fits : n ≤ slot_count l) (f : FoundRank l u n k (Some at)) (lenm : length m ≡ length o)
    (r : Raised l o at a w) (p : Settled o m at w k) (s : EntriesKept l n) where
  held : Held l u n
  held = kept-held l u n k eu s

  place : place_of k (entries_of l n) ≡ Some at
  place = sym (f.equals held)

  lowat : at < n
  lowat = place-fits l n k at place

  lowu : n ≤ u
  lowu = rw eu (known-low l n)

  highu : u ≤ slot_count l
  highu = rw eu (known-high l n fits)

  leno : length o ≡ length l
  leno = r.changed.len

  same : (q : ℕ) → q < u → (q ≡ at → ⊥) → entry_at o q ≡ entry_at l q
  same = changed-others l o (slot_of l at) r.changed u held.perm at (omega (arith, lowat, lowu)) refl

  kept-o : Kept o u at n
  kept-o =
      changed-kept l o (slot_of l at) r.changed u n at n
      (ordered-ext (entry_at l) (entry_at o) at (λ q b. same q (omega (arith, lowat, lowu)) (λ z. omega arith)) (ordered-fewer (entry_at l) at n (omega (arith, lowat)) held.sorted))
      held

  id-o : (entry_at o at).id ≡ k
  id-o = changed-id l o (slot_of l at) r.changed at ∙ place-id l n k at place

  rest : (i j : ℕ) → i < j → j < n → (i ≡ at → ⊥) → (j ≡ at → ⊥) → before weight_of key_of (entry_at o i) (entry_at o j) ≡ true
  unfolding Ordered
  rest i j h q d e = rw (same i (omega (arith, lowu)) d, same j (omega (arith, lowu)) e) (held.sorted i j h q)

  tail : (j : ℕ) → at < j → j < n → before weight_of key_of (entry_at o at) (entry_at o j) ≡ true
  unfolding Ordered
  tail j h q =
      rw (same j (omega (arith, lowu)) (λ z. omega arith), r.weight, changed-id l o (slot_of l at) r.changed at)
      (heavier (entry_at l at).weight w (entry_at l at).id (entry_at l j).weight (entry_at l j).id (held.sorted at j h q) r.grows)

  rows-m : entries_of m n ≡ credit a k (entries_of l n)
  rows-m =
      settled-rows o m u n at w k lowat lowu (rw leno highu) r.weight id-o kept-o rest tail p
      ∙ (λ i. insert_by (r.this i) (gap n refl i))
      ∙ credit-row l n k at place a
    where
      gap : (j : ℕ) → n ≡ j → remove_at (entries_of o n) at ≡ remove_at (entries_of l n) at
      gap zero z = absurd (omega (arith, lowat))
      gap (suc j) z = rw z (removed-same l o j at (omega (arith, lowat)) (λ q b d. same q (omega (arith, lowu)) d))

  pub credited-at : Left l m n (credit a k (entries_of l n))
  unfolding EntriesOk
  credited-at =
      record {
        rows = rows-m;
        kept =
            kept-as m u n lowu (rw (lenm ∙ leno) highu)
            (λ q. rw (lenm ∙ leno) (settled-raws o m at w k p (slot_count l) (omega (arith, lowat)) ∙ r.changed.raws (slot_count l) ∙ kept_word l u n k eu s q))
            (settled-held o m u n at w k lowat lowu (rw leno highu) r.weight id-o kept-o rest tail p);
        ok = rw (lenm ∙ leno) fits;
        words = lenm ∙ leno;
      }

-- ---- a stamp

pub record Stamps (l m : List ℕ) (i : ℕ) (v : Option ℕ) (t : ℕ) : Type 0 where
  pub changed : Changed l m i
  pub weights : (j : ℕ) → cell m j weight_word ≡ cell l j weight_word
  pub here : entry_in m i ≡ stamp v t (entry_in l i)

module _ (l : List ℕ) (i : ℕ) (v : Option ℕ) (t : ℕ) (low : i < slot_count l) where
  abbrev one : List ℕ
  one = put_cell l i 8 (tag_of v)

  abbrev two : List ℕ
  two = put_cell one i 9 (value_of v)

  abbrev marked : List ℕ
  marked = put_cell two i 11 t

  low1 : i < slot_count one
  low1 = rw (put-length l i 8 (tag_of v)) low

  len2 : length two ≡ length l
  len2 = put-length one i 9 (value_of v) ∙ put-length l i 8 (tag_of v)

  low2 : i < slot_count two
  low2 = rw len2 low

  keeps : (j a : ℕ) → a < slot_words → (j ≡ i → a ≡ 8 → ⊥) → (j ≡ i → a ≡ 9 → ⊥) → (j ≡ i → a ≡ 11 → ⊥) → cell marked j a ≡ cell l j a
  keeps j a q x y z =
      put-else two i 11 t low2 (omega arith) j a q z ∙ put-else one i 9 (value_of v) low1 (omega arith) j a q y ∙ put-else l i 8 (tag_of v) low (omega arith) j a q x

  keep : (a : ℕ) → a < slot_words → (a ≡ 8 → ⊥) → (a ≡ 9 → ⊥) → (a ≡ 11 → ⊥) → cell marked i a ≡ cell l i a
  keep a q x y z = keeps i a q (λ d. x) (λ d. y) (λ d. z)

  tag_is : cell marked i 8 ≡ tag_of v
  tag_is =
      put-else two i 11 t low2 (omega arith) i 8 (omega arith) (λ y z. omega arith) ∙ put-else one i 9 (value_of v) low1 (omega arith) i 8 (omega arith) (λ y z. omega arith) ∙ put-here l i 8 (tag_of v) low (omega arith)

  value-is : cell marked i 9 ≡ value_of v
  value-is = put-else two i 11 t low2 (omega arith) i 9 (omega arith) (λ y z. omega arith) ∙ put-here one i 9 (value_of v) low1 (omega arith)

  time-is : cell marked i 11 ≡ t
  time-is = put-here two i 11 t low2 (omega arith)

  marked-here : entry_in marked i ≡ stamp v t (entry_in l i)
  unfolding entry_in entry_from
  marked-here =
      rw (tag_is, value-is, time-is, keep 0 (omega arith) (λ z. omega arith) (λ z. omega arith) (λ z. omega arith), keep 1 (omega arith) (λ z. omega arith) (λ z. omega arith) (λ z. omega arith), keep 2 (omega arith) (λ z. omega arith) (λ z. omega arith) (λ z. omega arith), keep 3 (omega arith) (λ z. omega arith) (λ z. omega arith) (λ z. omega arith), keep 4 (omega arith) (λ z. omega arith) (λ z. omega arith) (λ z. omega arith), keep 5 (omega arith) (λ z. omega arith) (λ z. omega arith) (λ z. omega arith), keep 6 (omega arith) (λ z. omega arith) (λ z. omega arith) (λ z. omega arith), keep 7 (omega arith) (λ z. omega arith) (λ z. omega arith) (λ z. omega arith), keep 10 (omega arith) (λ z. omega arith) (λ z. omega arith) (λ z. omega arith), keep 12 (omega arith) (λ z. omega arith) (λ z. omega arith) (λ z. omega arith), keep 13 (omega arith) (λ z. omega arith) (λ z. omega arith) (λ z. omega arith), cost-of v)

  stamps : Stamps l marked i v t
  stamps =
      record {
        changed =
            record {
              len = put-length two i 11 t ∙ len2;
              raws = λ r. put-raw two i 11 t low2 (omega arith) r ∙ put-raw one i 9 (value_of v) low1 (omega arith) r ∙ put-raw l i 8 (tag_of v) low (omega arith) r;
              others = λ j a q d. keeps j a q (λ y z. d y) (λ y z. d y) (λ y z. d y);
              index = λ j a q d. keeps j a q (λ y z. d (omega arith) (omega arith)) (λ y z. d (omega arith) (omega arith)) (λ y z. d (omega arith) (omega arith));
            };
        weights = λ j. keeps j weight_word (omega arith) (λ y z. omega arith) (λ y z. omega arith) (λ y z. omega arith);
        here = marked-here;
      }

pub stamps-at : (l a b m : List ℕ) (i x y t : ℕ) (v : Option ℕ) → i < slot_count l → x ≡ tag_of v → y ≡ value_of v → a ≡ put_cell l i 8 x → b ≡ put_cell a i 9 y → m ≡ put_cell b i 11 t → Stamps l m i v t
stamps-at l a b m i x y t v low ex ey ea eb em = rw (em, eb, ea, ex, ey) (stamps l i v t low)

tab-set : {A : Type 0} (f g : ℕ → A) (n at : ℕ) (x : A) → at < n → g at ≡ x → ((i : ℕ) → i < n → (i ≡ at → ⊥) → g i ≡ f i) → tab g n ≡ set (tab f n) at x
tab-set f g zero at x b e h = refl
tab-set f g (suc n) zero x b e h = λ k. e k ∷ tab-ext (λ i. g (suc i)) (λ i. f (suc i)) n (λ i q. h (suc i) (suc-le-suc q) (λ z. omega arith)) k
tab-set f g (suc n) (suc at) x b e h =
    λ k. h zero (omega arith) (λ z. omega arith) k ∷ tab-set (λ i. f (suc i)) (λ i. g (suc i)) n at x (le_of_suc-le-suc b) e (λ i q d. h (suc i) (suc-le-suc q) (λ z. d (omega arith))) k

pub stamped-not : (l : List ℕ) (u n k : ℕ) (v : Option ℕ) (t : ℕ) → u ≡ known_of l n → n ≤ slot_count l → NoSlot l u k → EntriesKept l n → Left l l n (stamped k v t (entries_of l n))
unfolding EntriesOk
stamped-not l u n k v t eu fits f s =
    record { rows = sym ((no_place k (entries_of l n) (slot-none l u n k (rw eu (known-low l n)) f (kept-held l u n k eu s))).mark v t); kept = s; ok = fits; words = refl }

module _ (l m : List ℕ) (u n k i : ℕ) (v : Option ℕ) (t : ℕ) (eu : u ≡ known_of l n) (fits : n ≤ slot_count l) (f : InSlot l u k i) (c : Stamps l m i v t) (s : EntriesKept l n) where
  its : Held l u n
  its = kept-held l u n k eu s

  low-u : n ≤ u
  low-u = rw eu (known-low l n)

  high-u : u ≤ slot_count l
  high-u = rw eu (known-high l n fits)

  rank : ℕ
  rank = own_rank l u n k i low-u f its

  rank-slot : slot_of l rank ≡ i
  unfolding rank
  rank-slot = own-slot l u n k i low-u f its

  rank-low : rank < n
  unfolding rank
  rank-low = own-low l u n k i low-u f its

  rank-place : place_of k (entries_of l n) ≡ Some rank
  unfolding rank
  rank-place = own-place l u n k i low-u f its

  this : entry_at m rank ≡ stamp v t (entry_at l rank)
  this =
      entry-is m rank i (changed-slot l m i c.changed rank ∙ rank-slot) ∙ c.here ∙ ap (stamp v t) (sym (entry-is l rank i rank-slot))

  weight_is : (r : ℕ) → (entry_at m r).weight ≡ (entry_at l r).weight
  unfolding entry_at entry_in entry_from
  weight_is r = rw (changed-slot l m i c.changed r) (c.weights (slot_of l r))

  sorted-m : Ordered (entry_at m) n
  unfolding Ordered
  sorted-m =
      λ a b h q.
      rw (weight_is a, weight_is b, changed-id l m i c.changed a, changed-id l m i c.changed b) (its.sorted a b h q)

  rows-t : entries_of m n ≡ stamped k v t (entries_of l n)
  unfolding entries_of
  rows-t =
      tab-set (entry_at l) (entry_at m) n rank (stamp v t (entry_at l rank)) rank-low this
      (λ r b d. changed-others l m i c.changed u its.perm rank (omega (arith, rank-low, low-u)) rank-slot r (omega (arith, low-u)) d)
      ∙ stamp-row l n k rank rank-place v t

  pub stamped-at : Left l m n (stamped k v t (entries_of l n))
  unfolding EntriesOk
  stamped-at =
      record {
        rows = rows-t;
        kept =
            kept-as m u n low-u (rw c.changed.len high-u) (λ q. rw c.changed.len (c.changed.raws (slot_count l) ∙ kept_word l u n k eu s q))
            (changed-kept l m i c.changed u n n n sorted-m its);
        ok = rw c.changed.len fits;
        words = c.changed.len;
      }
