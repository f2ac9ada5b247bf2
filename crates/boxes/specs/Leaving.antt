-- The records of a transaction leave: a walk of one bucket of owners, which vacates the slots that are the transaction's, and counts.
use Rattle.std.specs.Prelude.{ℕ, suc, ◌-◌, ◌≤◌, ◌<◌, ◌≡◌, refl, Bool, true, false, List, length, get_or, set, eqb}
use Rattle.std.proofs.Math.Path.{sym, ap}
use Rattle.std.proofs.Common.{◌∙◌, arith, eqb-true}
use Rattle.std.proofs.Math.Decide.{dec_lt, ℕ_discrete}
use Rattle.words.specs.Lists.{pick}
use Rattle.words.specs.Ids.{Words, id_of}
use Rattle.words.specs.Chains.{checked, checked-le, bounded, bounded-le}
use Rattle.words.specs.declared.ids.Id.{Id}
use Rattle.boxes.specs.Records.{drop_owner}
use Rattle.boxes.specs.Slots.{Slot, vacated, leave}
use Rattle.boxes.specs.Layout.{box_slots, kind_place, link_place, row-unique, kind_row, key_at, kind_at, slot_of, slot_at, box_at, records_in, records-leave, records-fewer, owner-is}
use Rattle.boxes.specs.Index.{hash_at, link_at, head_at, AllWords, Indexed, slot-ext}
use Rattle.boxes.specs.Stores.{kind-here, kind-words, NoKind, link-kind, indexed-kinds}
use Rattle.boxes.specs.Searching.{bucket_in, Reaches, reaches-head, reaches-link, passed}

-- ---- one slot, which is left or not

-- of n records that were counted there are r then
pub record Left (l m : List ℕ) (i k n r : ℕ) : Type 0 where
  pub here : slot_at m i ≡ leave k (slot_at l i)
  pub words : (p : ℕ) → (p ≡ kind_place i → ⊥) → get_or m p 0 ≡ get_or l p 0
  pub fewer : r ≤ n
  pub count : (used : ℕ) → i < used → length (records_in l used) ≡ n → length (records_in m used) ≡ r

left-others : (l m : List ℕ) (i k n r : ℕ) → Left l m i k n r → (j : ℕ) → (j ≡ i → ⊥) → slot_at m j ≡ slot_at l j
left-others l m i k n r q j d = slot-ext l m j (λ p w. q.words p (λ z. d (row-unique j i p w (rw z (kind_row i)))))

module _ (l : List ℕ) (i k n : ℕ) where
  -- it is vacated as it is
  twice : (slot_at l i).gone ≡ true → vacated (slot_at l i) ≡ slot_at l i
  unfolding slot_at
  twice e = ap (slot_of (key_at l 0 i) (key_at l 1 i)) (sym (eqb-true (kind_at l i) 2 e))

  stays : leave k (slot_at l i) ≡ slot_at l i → Left l l i k n n
  stays e = record { here = sym e; words = λ p z. refl; fewer = omega arith; count = λ used b h. h }

  pub left-gone : (slot_at l i).gone ≡ true → Left l l i k n n
  left-gone e = stays (go (eqb (slot_at l i).row.owner k))
    where
      go : (t : Bool) → pick t (vacated (slot_at l i)) (slot_at l i) ≡ slot_at l i
      go true = twice e
      go false = refl

  pub left_other : eqb (box_at l i).owner k ≡ false → Left l l i k n n
  unfolding box_at
  left_other e = stays (ap (λ (t : Bool). pick t (vacated (slot_at l i)) (slot_at l i)) e)

  module _ (h : i < box_slots l) where
    now-gone : slot_at (set l (kind_place i) 2) i ≡ vacated (slot_at l i)
    unfolding slot_at
    now-gone = kind-here l i 2 h

    pub left-own : (m : List ℕ) (r : ℕ) → m ≡ set l (kind_place i) 2 → (slot_at l i).gone ≡ false → eqb (box_at l i).owner k ≡ true → r ≡ n - 1 → Left l m i k n r
    unfolding box_at
    left-own m r g e t f =
        rw g
        (record {
          here = now-gone ∙ sym (ap (λ (b : Bool). pick b (vacated (slot_at l i)) (slot_at l i)) t);
          words = kind-words l i 2;
          fewer = omega arith;
          count = λ used b c. omega (arith, records-fewer l (set l (kind_place i) 2) used i b e (ap (λ (s : Slot). s.gone) now-gone) (λ j d. slot-ext l (set l (kind_place i) 2) j (λ p w. kind-words l i 2 p (λ z. d (row-unique j i p w (rw z (kind_row i)))))));
        })

-- ---- the walk

pub record AllLeft (l m : List ℕ) (used n r k : ℕ) : Type 0 where
  pub fewer : r ≤ n
  pub count : length (records_in l used) ≡ n → length (records_in m used) ≡ r
  pub rows : Indexed l 1 used → records_in m used ≡ drop_owner k (records_in l used)
  pub index : (c : ℕ) → c < 2 → Indexed l c used → Indexed m c used

-- the slots below v are left to be visited
pub record Leaves (l₀ : List ℕ) (used n : ℕ) (key : Id) (l : List ℕ) (r v : ℕ) : Type 0 where
  pub len : length l ≡ length l₀
  pub low : v ≤ used
  pub fewer : r ≤ n
  pub count : length (records_in l₀ used) ≡ n → length (records_in l used) ≡ r
  pub words : (p : ℕ) → NoKind used p → get_or l p 0 ≡ get_or l₀ p 0
  pub done : Indexed l₀ 1 used → (j : ℕ) → j < used → v ≤ j → slot_at l j ≡ leave (id_of key) (slot_at l₀ j)
  pub rest : (j : ℕ) → j < v → slot_at l j ≡ slot_at l₀ j
  pub inside : Indexed l₀ 1 used → (j : ℕ) → v ≡ suc j → hash_at l₀ 1 j ≡ bucket_in l₀ key

-- a slot of another owner
other-owner : (l : List ℕ) (k j : ℕ) → eqb (key_at l 1 j) k ≡ false → slot_at l j ≡ leave k (slot_at l j)
unfolding box_at
other-owner l k j e = sym (ap (λ (t : Bool). pick t (vacated (slot_at l j)) (slot_at l j)) (ap (λ (x : ℕ). eqb x k) (sym (owner-is l j)) ∙ e))

module _ (l₀ : List ℕ) (used n : ℕ) (key : Id) (w : AllWords l₀) (wk : Words key) where
  pub leaves-first : (b v : ℕ) → 0 < box_slots l₀ → b ≡ bucket_in l₀ key → v ≡ checked (hash_at l₀ 1) used b (head_at l₀ 1 b) → Leaves l₀ used n key l₀ n v
  leaves-first b v h e f =
      record {
        len = refl;
        low = rw f (checked-le (hash_at l₀ 1) used b (head_at l₀ 1 b));
        fewer = omega arith;
        count = λ c. c;
        words = λ p z. refl;
        done = λ x j g u. other-owner l₀ (id_of key) j (passed l₀ 1 key used v w wk (reaches-head l₀ 1 used key b v h x e f) j u g);
        rest = λ j g. refl;
        inside = λ x. (reaches-head l₀ 1 used key b v h x e f).inside;
      }

  module _ (l m : List ℕ) (r r' v i u : ℕ) (s : Leaves l₀ used n key l r v) (e : v ≡ suc i) (g : length m ≡ length l) (q : Left l m i (id_of key) r r') (f : u ≡ bounded i (link_at m 1 i)) where
    link-is : link_at m 1 i ≡ link_at l₀ 1 i
    unfolding link_at
    link-is = q.words (link_place 1 i) (λ z. omega arith) ∙ s.words (link_place 1 i) (link-kind 1 i used (omega arith))

    low-next : u ≤ i
    low-next = omega (arith, f, bounded-le i (link_at m 1 i))

    next : Indexed l₀ 1 used → Reaches l₀ 1 key i u
    next x = reaches-link l₀ 1 used key i u x (omega (arith, s.low)) (s.inside x i e) (f ∙ ap (bounded i) link-is)

    others : (j : ℕ) → (j ≡ i → ⊥) → slot_at m j ≡ slot_at l j
    others j d = left-others l m i (id_of key) r r' q j d

    done_next : Indexed l₀ 1 used → (j : ℕ) → j < used → u ≤ j → Dec (j ≡ i) → Dec (j < i) → slot_at m j ≡ leave (id_of key) (slot_at l₀ j)
    done_next x j b y (yes z) z' = rw z (q.here ∙ ap (leave (id_of key)) (s.rest i (omega arith)))
    done_next x j b y (no z) (yes z') = others j z ∙ s.rest j (omega arith) ∙ other-owner l₀ (id_of key) j (passed l₀ 1 key i u w wk (next x) j y z')
    done_next x j b y (no z) (no z') = others j z ∙ s.done x j b (omega (arith, z, z'))

    pub leaves-next : Leaves l₀ used n key m r' u
    leaves-next =
        record {
          len = g ∙ s.len;
          low = omega (arith, low-next, s.low);
          fewer = omega (arith, q.fewer, s.fewer);
          count = λ c. q.count used (omega (arith, s.low)) (s.count c);
          words = λ p z. q.words p (λ y. z i (omega (arith, s.low)) y) ∙ s.words p z;
          done = λ x j b y. done_next x j b y (ℕ_discrete j i) (dec_lt j i);
          rest = λ j b. others j (λ z. omega (arith, low-next, z)) ∙ s.rest j (omega (arith, low-next));
          inside = λ x. (next x).inside;
        }

  pub leaves-end : (l : List ℕ) (r v : ℕ) → used ≤ box_slots l₀ → Leaves l₀ used n key l r v → v ≡ 0 → AllLeft l₀ l used n r (id_of key)
  leaves-end l r v b s e =
      record {
        fewer = s.fewer;
        count = s.count;
        rows = λ x. records-leave l₀ l (id_of key) used (λ j y. s.done x j y (omega arith));
        index = λ c h x. indexed-kinds l₀ l used s.len b s.words c used h x;
      }
