-- A newcomer hides the older live records of its kind and box: a walk of one bucket of boxes.
use Rattle.std.specs.Prelude.{ℕ, suc, ◌≤◌, ◌<◌, ◌≡◌, Bool, true, false, not, ◌&&◌, List, length, get_or, set, eqb}
use Rattle.std.proofs.Math.Path.{refl, ap}
use Rattle.std.proofs.Common.{sym, ◌∙◌, arith, eqb-true}
use Rattle.std.proofs.Math.Decide.{dec_lt, ℕ_discrete}
use Rattle.words.specs.Lists.{pick}
use Rattle.words.specs.Ids.{Words, id_of}
use Rattle.words.specs.Chains.{checked, checked-le, bounded, bounded-le}
use Rattle.words.specs.declared.ids.Id.{Id}
use Rattle.boxes.specs.Records.{same}
use Rattle.boxes.specs.Slots.{Slot, hide_slot}
use Rattle.boxes.specs.Lookup.{is_entry}
use Rattle.boxes.specs.Layout.{box_slots, kind_place, link_place, row-unique, kind_row, key_at, kind_at, slot_of, slot_at, box_at, entry-is}
use Rattle.boxes.specs.Index.{hash_at, link_at, head_at, AllWords, Indexed, slot-ext}
use Rattle.boxes.specs.Stores.{kind-here, kind-words, NoKind, link-kind}
use Rattle.boxes.specs.Searching.{bucket_in, Reaches, reaches-head, reaches-link, passed, other-box}

-- ---- one slot, which is hidden or not

pub record Hid (l m : List ℕ) (i : ℕ) (o : Bool) (k : ℕ) : Type 0 where
  pub here : slot_at m i ≡ hide_slot o k (slot_at l i)
  pub words : (p : ℕ) → (p ≡ kind_place i → ⊥) → get_or m p 0 ≡ get_or l p 0

-- a live record of the kind and box
hide-kind : (o : Bool) (x y k : ℕ) → eqb x k ≡ true → slot_of x y (pick o 4 3) ≡ hide_slot o k (slot_of x y (pick o 1 0))
hide-kind true x y k e = rw e
hide-kind false x y k e = rw e

both : (t u : Bool) → (t && u) ≡ true → (t ≡ true) × (u ≡ true)
both true u e = (refl, e)
both false u e = let z : ◌≡◌ {A = ℕ} 0 1 = cc in absurd (omega arith)

-- any other record
not_hidden : (o : Bool) (k : ℕ) (s : Slot) → is_entry o k s.row ≡ false → s ≡ hide_slot o k s
unfolding is_entry
not_hidden o k s e = λ t. record { row = record { box = s.row.box; owner = s.row.owner; out = s.row.out; live = go s.row.live (same o s.row.out) (eqb s.row.box k) e t }; gone = s.gone }
  where
    go : (l a b : Bool) → (b && (l && a)) ≡ false → l ≡ (l && not (a && b))
    go true true true q = q
    go true true false q = refl
    go true false b q = refl
    go false a b q = refl

module _ (l : List ℕ) (i : ℕ) (o : Bool) (k : ℕ) where
  pub hid-yes : (m : List ℕ) → i < box_slots l → m ≡ set l (kind_place i) (pick o 4 3) → is_entry o k (box_at l i) ≡ true → Hid l m i o k
  unfolding slot_at box_at
  hid-yes m h g e =
      let z = both (eqb (key_at l 0 i) k) (eqb (kind_at l i) (pick o 1 0)) (sym (entry-is l i k o) ∙ e) in
      rw g
      (record {
        here =
            kind-here l i (pick o 4 3) h
            ∙ hide-kind o (key_at l 0 i) (key_at l 1 i) k z.0
            ∙ ap (λ (q : ℕ). hide_slot o k (slot_of (key_at l 0 i) (key_at l 1 i) q)) (sym (eqb-true (kind_at l i) (pick o 1 0) z.1));
        words = kind-words l i (pick o 4 3);
      })

  pub hid-no : is_entry o k (box_at l i) ≡ false → Hid l l i o k
  unfolding box_at
  hid-no e = record { here = not_hidden o k (slot_at l i) e; words = λ p z. refl }

-- ---- the walk

pub record Hidden (l m : List ℕ) (n : ℕ) (o : Bool) (k : ℕ) : Type 0 where
  pub slots : Indexed l 0 n → (j : ℕ) → j < n → slot_at m j ≡ hide_slot o k (slot_at l j)
  pub rest : (j : ℕ) → n ≤ j → slot_at m j ≡ slot_at l j
  pub words : (p : ℕ) → NoKind n p → get_or m p 0 ≡ get_or l p 0

pub hidden-none : (l : List ℕ) (n : ℕ) (o : Bool) (k : ℕ) → n ≡ 0 → Hidden l l n o k
hidden-none l n o k e = record { slots = λ x j b. absurd (omega arith); rest = λ j b. refl; words = λ p z. refl }

-- the slots below v are left to be visited
pub record Hides (l₀ : List ℕ) (n : ℕ) (o : Bool) (key : Id) (l : List ℕ) (v : ℕ) : Type 0 where
  pub len : length l ≡ length l₀
  pub low : v ≤ n
  pub words : (p : ℕ) → NoKind n p → get_or l p 0 ≡ get_or l₀ p 0
  pub done : Indexed l₀ 0 n → (j : ℕ) → j < n → v ≤ j → slot_at l j ≡ hide_slot o (id_of key) (slot_at l₀ j)
  pub rest : (j : ℕ) → j < v → slot_at l j ≡ slot_at l₀ j
  pub behind : (j : ℕ) → n ≤ j → slot_at l j ≡ slot_at l₀ j
  pub inside : Indexed l₀ 0 n → (j : ℕ) → v ≡ suc j → hash_at l₀ 0 j ≡ bucket_in l₀ key

unhidden : (l : List ℕ) (o : Bool) (k j : ℕ) → eqb (key_at l 0 j) k ≡ false → slot_at l j ≡ hide_slot o k (slot_at l j)
unfolding box_at
unhidden l o k j e = not_hidden o k (slot_at l j) (other-box l o k j e)

module _ (l₀ : List ℕ) (n : ℕ) (o : Bool) (key : Id) (w : AllWords l₀) (wk : Words key) where
  pub hides-first : (b v : ℕ) → 0 < box_slots l₀ → b ≡ bucket_in l₀ key → v ≡ checked (hash_at l₀ 0) n b (head_at l₀ 0 b) → Hides l₀ n o key l₀ v
  hides-first b v h e f =
      record {
        len = refl;
        low = rw f (checked-le (hash_at l₀ 0) n b (head_at l₀ 0 b));
        words = λ p z. refl;
        done = λ x j g u. unhidden l₀ o (id_of key) j (passed l₀ 0 key n v w wk (reaches-head l₀ 0 n key b v h x e f) j u g);
        rest = λ j g. refl;
        behind = λ j g. refl;
        inside = λ x. (reaches-head l₀ 0 n key b v h x e f).inside;
      }

  module _ (l m : List ℕ) (v i u : ℕ) (s : Hides l₀ n o key l v) (e : v ≡ suc i) (g : length m ≡ length l) (q : Hid l m i o (id_of key)) (f : u ≡ bounded i (link_at m 0 i)) where
    link-is : link_at m 0 i ≡ link_at l₀ 0 i
    unfolding link_at
    link-is = q.words (link_place 0 i) (λ z. omega arith) ∙ s.words (link_place 0 i) (link-kind 0 i n (omega arith))

    low-next : u ≤ i
    low-next = omega (arith, f, bounded-le i (link_at m 0 i))

    next : Indexed l₀ 0 n → Reaches l₀ 0 key i u
    next x = reaches-link l₀ 0 n key i u x (omega (arith, s.low)) (s.inside x i e) (f ∙ ap (bounded i) link-is)

    others : (j : ℕ) → (j ≡ i → ⊥) → slot_at m j ≡ slot_at l j
    others j d = slot-ext l m j (λ p r. q.words p (λ z. d (row-unique j i p r (rw z (kind_row i)))))

    done_next : Indexed l₀ 0 n → (j : ℕ) → j < n → u ≤ j → Dec (j ≡ i) → Dec (j < i) → slot_at m j ≡ hide_slot o (id_of key) (slot_at l₀ j)
    done_next x j b y (yes z) z' = rw z (q.here ∙ ap (hide_slot o (id_of key)) (s.rest i (omega arith)))
    done_next x j b y (no z) (yes z') = others j z ∙ s.rest j (omega arith) ∙ unhidden l₀ o (id_of key) j (passed l₀ 0 key i u w wk (next x) j y z')
    done_next x j b y (no z) (no z') = others j z ∙ s.done x j b (omega (arith, z, z'))

    pub hides-next : Hides l₀ n o key m u
    hides-next =
        record {
          len = g ∙ s.len;
          low = omega (arith, low-next, s.low);
          words = λ p z. q.words p (λ y. z i (omega (arith, s.low)) y) ∙ s.words p z;
          done = λ x j b y. done_next x j b y (ℕ_discrete j i) (dec_lt j i);
          rest = λ j b. others j (λ z. omega (arith, low-next, z)) ∙ s.rest j (omega (arith, low-next));
          behind = λ j b. others j (λ z. omega (arith, s.low, z)) ∙ s.behind j b;
          inside = λ x. (next x).inside;
        }

  pub hides-end : (l : List ℕ) (v : ℕ) → Hides l₀ n o key l v → v ≡ 0 → Hidden l₀ l n o (id_of key)
  hides-end l v s e = record { slots = λ x j b. s.done x j b (omega arith); rest = s.behind; words = s.words }
