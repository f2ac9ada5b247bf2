-- Tests of a table's words that compute on words that are given, and what they give: the words are kept. The ids of the entries do not compute, so their
-- order is tested on the list that the words decode to.
use Rattle.std.specs.Prelude.{ℕ, zero, suc, ◌≤◌, ◌<◌, ◌≡◌, refl, Bool, true, false, List, eqb, length, get_or}
use Rattle.std.proofs.Common.{sym, ap, ◌∙◌, arith, eqb-true, eq-eqb, lt-ltb}
use Rattle.std.proofs.Math.Decide.{ℕ_discrete}
use Rattle.words.specs.Lists.{pick}
use Rattle.words.specs.Chains.{prev, checked, bounded, Chained}
use Rattle.entries.specs.Entries.{Entry, weight_of, key_of}
use Rattle.entries.specs.Order.{before}
use Rattle.entries.specs.Cells.{slot_count, raw_at, slot_of, entry_at, entries_of, entries}
use Rattle.entries.specs.Index as E
use Rattle.entries.specs.Ranks.{Ordered}
use Rattle.entries.specs.Held.{Held}
use Rattle.entries.specs.Layout.{EntriesKept, kept-as}
use Rattle.boxes.specs.Layout.{box_slots, boxes_of, slots_used}
use Rattle.boxes.specs.Index.{BoxesKept}
use Rattle.boxes.specs.Index as B
use Rattle.pool.specs.Pool.{nobody}

-- ---- of every number below n

abbrev pub every : (ℕ → Bool) → ℕ → Bool
every f zero = true
every f (suc n) = pick (f n) (every f n) false

both : (t u : Bool) → pick t u false ≡ true → (t ≡ true) × (u ≡ true)
both true u e = (refl, e)
both false u e = let z : ◌≡◌ {A = ℕ} 0 1 = cc in absurd (omega arith)

every-at : (f : ℕ → Bool) (n : ℕ) → every f n ≡ true → (i : ℕ) → i < n → f i ≡ true
every-at f zero e i h = absurd (omega arith)
every-at f (suc n) e i h = let z = both (f n) (every f n) e in go z (every-at f n z.1 i) (ℕ_discrete i n)
  where
    go : (f n ≡ true) × (every f n ≡ true) → (i < n → f i ≡ true) → Dec (i ≡ n) → f i ≡ true
    go z r (yes d) = rw d z.0
    go z r (no d) = r (omega (arith, d))

-- ---- an index

abbrev pub heads_right : (ℕ → ℕ) → (ℕ → ℕ) → ℕ → ℕ → Bool
heads_right h hd B n = every (λ b. eqb (checked h n b (hd b)) (prev h n b)) B

abbrev pub links_right : (ℕ → ℕ) → (ℕ → ℕ) → ℕ → Bool
links_right h lk n = every (λ i. eqb (bounded i (lk i)) (prev h i (h i))) n

chained-by : (h lk hd : ℕ → ℕ) (B n : ℕ) → heads_right h hd B n ≡ true → links_right h lk n ≡ true → Chained h lk hd B n
chained-by h lk hd B n p q =
    record {
      heads = λ b r. eqb-true (checked h n b (hd b)) (prev h n b) (every-at (λ b. eqb (checked h n b (hd b)) (prev h n b)) B p b r);
      links = λ i r. eqb-true (bounded i (lk i)) (prev h i (h i)) (every-at (λ i. eqb (bounded i (lk i)) (prev h i (h i))) n q i r);
    }

-- ---- box records

abbrev pub box_index : List ℕ → ℕ → ℕ → Bool
box_index l c n = pick (heads_right (B.hash_at l c) (B.head_at l c) (box_slots l) n) (links_right (B.hash_at l c) (B.link_at l c) n) false

indexed-by : (l : List ℕ) (c n : ℕ) → box_index l c n ≡ true → B.Indexed l c n
unfolding B.Indexed
indexed-by l c n e =
    let z = both (heads_right (B.hash_at l c) (B.head_at l c) (box_slots l) n) (links_right (B.hash_at l c) (B.link_at l c) n) e in
    chained-by (B.hash_at l c) (B.link_at l c) (B.head_at l c) (box_slots l) n z.0 z.1

pub boxes-kept : (l : List ℕ) (n : ℕ) → length (boxes_of l n) ≡ n → box_index l 0 (slots_used l n) ≡ true → box_index l 1 (slots_used l n) ≡ true → BoxesKept l n
boxes-kept l n e p q = record { count = e; index = go }
  where
    go : (c : ℕ) → c < 2 → B.Indexed l c (slots_used l n)
    go zero h = indexed-by l 0 (slots_used l n) p
    go (suc zero) h = indexed-by l 1 (slots_used l n) q
    go (suc (suc c)) h = absurd (omega arith)

-- ---- entries, each in the slot of its rank, and no other slot known

abbrev pub entry_index : List ℕ → ℕ → Bool
entry_index l n = pick (heads_right (E.hash_at l) (E.head_at l) (slot_count l) n) (links_right (E.hash_at l) (E.link_at l) n) false

abbrev pub slots_right : List ℕ → ℕ → Bool
slots_right l n = every (λ r. pick (eqb (slot_of l r) r) (E.used l r) false) n

-- each is before those behind it, and no id is twice
abbrev pub in_order : List Entry → ℕ → Bool
in_order es n = every (λ b. every (λ a. before weight_of key_of (get_or es a nobody) (get_or es b nobody)) b) n

abbrev pub each_once : List Entry → ℕ → Bool
each_once es n = every (λ r. every (λ q. pick (eqb (get_or es r nobody).id (get_or es q nobody).id) (eqb r q) true) n) n

module _ (l : List ℕ) (n : ℕ) (index : entry_index l n ≡ true) (slots : slots_right l n ≡ true) (order : in_order (entries_of l n) n ≡ true) (once : each_once (entries_of l n) n ≡ true) where
  row : (r : ℕ) → r < n → get_or (entries_of l n) r nobody ≡ entry_at l r
  row r h = entries.get l n r nobody h

  own : (r : ℕ) → r < n → (slot_of l r ≡ r) × (E.used l r ≡ true)
  own r h =
      let z = both (eqb (slot_of l r) r) (E.used l r) (every-at (λ r. pick (eqb (slot_of l r) r) (E.used l r) false) n slots r h) in
      (eqb-true (slot_of l r) r z.0, z.1)

  linked : E.Indexed l n
  unfolding E.Indexed
  linked =
      let z = both (heads_right (E.hash_at l) (E.head_at l) (slot_count l) n) (links_right (E.hash_at l) (E.link_at l) n) index in
      let c = chained-by (E.hash_at l) (E.link_at l) (E.head_at l) (slot_count l) n z.0 z.1 in
      record { heads = c.heads; links = λ i h g. c.links i h }

  ordered : Ordered (entry_at l) n
  unfolding Ordered
  ordered a b h g =
      rw (← row a (omega arith), ← row b g)
      (every-at (λ a. before weight_of key_of (get_or (entries_of l n) a nobody) (get_or (entries_of l n) b nobody)) b
      (every-at (λ b. every (λ a. before weight_of key_of (get_or (entries_of l n) a nobody) (get_or (entries_of l n) b nobody)) b) n order b g) a h)

  differ : (r q : ℕ) → r < n → q < n → (entry_at l r).id ≡ (entry_at l q).id → r ≡ q
  differ r q h g e = eqb-true r q (sym (ap (λ (t : Bool). pick t (eqb r q) true) same) ∙ test)
    where
      same : eqb (get_or (entries_of l n) r nobody).id (get_or (entries_of l n) q nobody).id ≡ true
      same = eq-eqb _ _ (ap (λ (x : Entry). x.id) (row r h) ∙ e ∙ sym (ap (λ (x : Entry). x.id) (row q g)))

      test : pick (eqb (get_or (entries_of l n) r nobody).id (get_or (entries_of l n) q nobody).id) (eqb r q) true ≡ true
      test =
          every-at (λ q. pick (eqb (get_or (entries_of l n) r nobody).id (get_or (entries_of l n) q nobody).id) (eqb r q) true) n
          (every-at (λ r. every (λ q. pick (eqb (get_or (entries_of l n) r nobody).id (get_or (entries_of l n) q nobody).id) (eqb r q) true) n) n once r h) q g

  held : Held l n n
  held =
      record {
        index = linked;
        perm =
            record {
              low = λ r h. omega (arith, (own r h).0);
              named = λ i h. record { at = i; low = h; is = (own i h).0 };
              once = λ r q h g e. sym (own r h).0 ∙ e ∙ (own q g).0;
            };
        lives = λ r h. ap (E.used l) (own r h).0 ∙ (own r h).1 ∙ sym (lt-ltb r n h);
        sorted = ordered;
        distinct = differ;
      }

  pub entries-kept : n ≤ slot_count l → raw_at l (slot_count l) ≡ n → EntriesKept l n
  entries-kept h e = kept-as l n n (omega arith) h (λ p. e) held
