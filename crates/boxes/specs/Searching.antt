-- Searches by the indexes find what a search of the decoded records finds.
use Rattle.std.specs.Prelude.{None, Option, Some}
use Prim.Native.Nat.{ℕ, suc, ◌+◌, ◌≤◌, ◌<◌}
use Rattle.std.proofs.Math.Path.{◌≡◌, refl}
use Rattle.std.proofs.Common.{sym, ap, ◌∙◌, arith}
use Rattle.std.specs.Prelude.{Bool, ◌&&◌, List, [], ◌∷◌, eqb, ltb}
use Rattle.std.proofs.Math.Bool.{true, false}
use Rattle.std.proofs.Math.Decide.{dec_lt, ℕ_discrete}
use borrow.Author.Tests.{eqb-true, eqb-false, ne_eqb, lt-ltb, ltb-true}
use Rattle.words.specs.Ids.{Words, id_of, id_at, id-inj, words_at}
use Rattle.words.specs.Buckets.{bucket_of, bucket-low}
use Rattle.words.specs.Chains.{name_of, prev, prev-in, prev-gap, checked, checked-le, bounded, bounded-le}
use Rattle.words.specs.declared.ids.Id.{Id}
use Rattle.boxes.specs.Records.{index, lookup, is_input}
use Rattle.boxes.specs.Lookup.{is_entry, lookup-none, lookup_first}
use Rattle.boxes.specs.Layout.{box_slots, BoxesOk, id_place, key_at, key_word, box_at, rows_of, slots_used, all_rows, boxes_of, box-is, owner-is, entry-is, index-rows, slots-low, used-none}
use Rattle.boxes.specs.Index.{last_at, hash_at, link_at, head_at, AllWords, Indexed, BoxesKept}

-- links go down
pub link-less : (u i x v : ℕ) → u ≡ bounded i x → v ≡ suc i → u < v
link-less u i x v f e = omega (arith, bounded-le i x)

-- ---- a walk through the chain of a bucket

-- the bucket of an id
abbrev pub bucket_in : List ℕ → Id → ℕ
bucket_in l key = bucket_of key.d (key_word l) (box_slots l)

-- an id in another bucket is another id
pub same-hash : (l : List ℕ) (c : ℕ) (key : Id) → AllWords l → Words key → (j : ℕ) → key_at l c j ≡ id_of key → hash_at l c j ≡ bucket_in l key
unfolding key_at id_at id_of hash_at last_at AllWords
same-hash l c key w wk j e =
    ap (λ (x : ℕ). bucket_of x (key_word l) (box_slots l))
    (id-inj (words_at l (id_place c j)) key (w (id_place c j), w (id_place c j + 1), w (id_place c j + 2), w (id_place c j + 3)) wk e).3

-- v names a slot of the bucket before slot n, or none, and between v and n there is none of it
pub record Reaches (l : List ℕ) (c : ℕ) (key : Id) (n v : ℕ) : Type 0 where
  pub low : v ≤ n
  pub inside : (j : ℕ) → v ≡ suc j → hash_at l c j ≡ bucket_in l key
  pub gap : (j : ℕ) → v ≤ j → j < n → eqb (hash_at l c j) (bucket_in l key) ≡ false

reaches-prev : (l : List ℕ) (c : ℕ) (key : Id) (n v : ℕ) → v ≤ n → v ≡ prev (hash_at l c) n (bucket_in l key) → Reaches l c key n v
reaches-prev l c key n v h e =
    record {
      low = h;
      inside = λ j g. prev-in (hash_at l c) n (bucket_in l key) j (sym e ∙ g);
      gap = λ j a b. prev-gap (hash_at l c) n (bucket_in l key) j (rw (← e) a) b;
    }

-- a head does, and so does the link of a slot of the bucket
pub reaches-head : (l : List ℕ) (c n : ℕ) (key : Id) (b v : ℕ) → 0 < box_slots l → Indexed l c n → b ≡ bucket_in l key → v ≡ checked (hash_at l c) n b (head_at l c b) → Reaches l c key n v
unfolding Indexed
reaches-head l c n key b v h x e f =
    reaches-prev l c key n v (rw f (checked-le (hash_at l c) n b (head_at l c b))) (f ∙ x.heads b (rw e (bucket-low key.d (key_word l) (box_slots l) h)) ∙ ap (prev (hash_at l c) n) e)

pub reaches-link : (l : List ℕ) (c n : ℕ) (key : Id) (i u : ℕ) → Indexed l c n → i < n → hash_at l c i ≡ bucket_in l key → u ≡ bounded i (link_at l c i) → Reaches l c key i u
unfolding Indexed
reaches-link l c n key i u x h e f =
    reaches-prev l c key i u (omega (arith, f, bounded-le i (link_at l c i))) (f ∙ x.links i h ∙ ap (prev (hash_at l c) i) e)

-- a slot that a walk passes over has another id
pub passed : (l : List ℕ) (c : ℕ) (key : Id) (n v : ℕ) → AllWords l → Words key → Reaches l c key n v → (j : ℕ) → v ≤ j → j < n → eqb (key_at l c j) (id_of key) ≡ false
passed l c key n v w wk r j a b =
    ne_eqb (key_at l c j) (id_of key) (λ e. eqb-false (hash_at l c j) (bucket_in l key) (r.gap j a b) (same-hash l c key w wk j e))

-- ---- the entry of an index for a box

-- the owner of the record that was found, if one was
abbrev pub owners_at : List ℕ → Option ℕ → List ℕ
owners_at l (Some i) = (box_at l i).owner ∷ []
owners_at l None = []

-- the slots below v are left to be visited; `best` names the last that was met, and before it there is none from v on
pub record Keeps (l : List ℕ) (n : ℕ) (o : Bool) (key : Id) (best v : ℕ) : Type 0 where
  pub low : v ≤ n
  pub top : best ≤ n
  pub such : (j : ℕ) → best ≡ suc j → is_entry o (id_of key) (box_at l j) ≡ true
  pub old : Indexed l 0 n → (j : ℕ) → v ≤ j → j < n → (0 < best → best ≤ suc j → ⊥) → is_entry o (id_of key) (box_at l j) ≡ false
  pub inside : Indexed l 0 n → (j : ℕ) → v ≡ suc j → hash_at l 0 j ≡ bucket_in l key

pub other-box : (l : List ℕ) (o : Bool) (k j : ℕ) → eqb (key_at l 0 j) k ≡ false → is_entry o k (box_at l j) ≡ false
other-box l o k j e = entry-is l j k o ∙ rw (← box-is l j, e)

module _ (l : List ℕ) (n : ℕ) (o : Bool) (key : Id) (w : AllWords l) (wk : Words key) where
  pub keeps-first : (b v : ℕ) → 0 < box_slots l → b ≡ bucket_in l key → v ≡ checked (hash_at l 0) n b (head_at l 0 b) → Keeps l n o key 0 v
  keeps-first b v h e f =
      record {
        low = rw f (checked-le (hash_at l 0) n b (head_at l 0 b));
        top = omega arith;
        such = λ j g. absurd (omega arith);
        old = λ x j a c d. other-box l o (id_of key) j (passed l 0 key n v w wk (reaches-head l 0 n key b v h x e f) j a c);
        inside = λ x. (reaches-head l 0 n key b v h x e f).inside;
      }

  module _ (best v i u : ℕ) (s : Keeps l n o key best v) (e : v ≡ suc i) (f : u ≡ bounded i (link_at l 0 i)) where
    low-next : u ≤ i
    low-next = omega (arith, f, bounded-le i (link_at l 0 i))

    next : Indexed l 0 n → Reaches l 0 key i u
    next x = reaches-link l 0 n key i u x (omega (arith, s.low)) (s.inside x i e) f

    before : Indexed l 0 n → (j : ℕ) → u ≤ j → j < i → is_entry o (id_of key) (box_at l j) ≡ false
    before x j a b = other-box l o (id_of key) j (passed l 0 key i u w wk (next x) j a b)

    pub keeps-hit : is_entry o (id_of key) (box_at l i) ≡ true → Keeps l n o key (suc i) u
    keeps-hit t =
        record {
          low = omega (arith, low-next, s.low);
          top = omega (arith, s.low);
          such = λ j g. let z : i ≡ j = omega (arith, g) in rw (← z) t;
          old = λ x j a b d. before x j a (go j (dec_lt j i) d);
          inside = λ x. (next x).inside;
        }
      where
        go : (j : ℕ) → Dec (j < i) → (0 < suc i → suc i ≤ suc j → ⊥) → j < i
        go j (yes q) d = q
        go j (no q) d = absurd (d (omega arith) (omega (arith, q)))

    pub keeps-miss : is_entry o (id_of key) (box_at l i) ≡ false → Keeps l n o key best u
    keeps-miss t =
        record {
          low = omega (arith, low-next, s.low);
          top = s.top;
          such = s.such;
          old = λ x j a b d. go x j a b d (dec_lt j i) (ℕ_discrete j i);
          inside = λ x. (next x).inside;
        }
      where
        go : Indexed l 0 n → (j : ℕ) → u ≤ j → j < n → (0 < best → best ≤ suc j → ⊥) → Dec (j < i) → Dec (j ≡ i) → is_entry o (id_of key) (box_at l j) ≡ false
        go x j a b d (yes q) z = before x j a q
        go x j a b d (no q) (yes z) = rw z t
        go x j a b d (no q) (no z) = s.old x j (omega (arith, q, z)) b d

-- the answer: on any words a slot that is there, and where the words are kept the entry
pub record Found (l : List ℕ) (n : ℕ) (o : Bool) (k : ℕ) (r : Option ℕ) : Type 0 where
  pub within : (i : ℕ) → r ≡ Some i → i < box_slots l
  pub equals : BoxesKept l n → owners_at l r ≡ lookup (index o (boxes_of l n)) k

look : (o : Bool) (l : List ℕ) (n k : ℕ) → lookup (index o (all_rows l n)) k ≡ lookup (index o (boxes_of l n)) k
look o l n k = rw (index-rows o l n)

nobody : (o : Bool) (l : List ℕ) (n k : ℕ) → ((j : ℕ) → j < slots_used l n → is_entry o k (box_at l j) ≡ false) → [] ≡ lookup (index o (boxes_of l n)) k
unfolding all_rows rows_of
nobody o l n k h = sym (sym (look o l n k) ∙ lookup-none o k (box_at l) (slots_used l n) h)

someone : (o : Bool) (l : List ℕ) (n k i : ℕ) → i < slots_used l n → is_entry o k (box_at l i) ≡ true → ((j : ℕ) → j < i → is_entry o k (box_at l j) ≡ false)
    → (box_at l i).owner ∷ [] ≡ lookup (index o (boxes_of l n)) k
unfolding all_rows rows_of
someone o l n k i h t b = sym (sym (look o l n k) ∙ lookup_first o k (box_at l) (slots_used l n) i h t b)

pub found-empty : (l : List ℕ) (n : ℕ) (o : Bool) (k : ℕ) → n ≡ 0 → Found l n o k None
found-empty l n o k e =
    record {
      within = λ i f. let z : ◌≡◌ {A = ℕ} 0 1 = cc in absurd (omega arith);
      equals = λ x. nobody o l n k (λ j b. absurd (omega (arith, ap (slots_used l) e ∙ used-none l, b)));
    }

module _ (l : List ℕ) (n used : ℕ) (o : Bool) (key : Id) (u : used ≡ slots_used l n) (h : BoxesOk l n) where
  right : BoxesKept l n → Indexed l 0 used
  right x = rw u (x.index 0 (omega arith))

  pub keeps-end : (r : Option ℕ) (v : ℕ) → Keeps l used o key (name_of r) v → v ≡ 0 → Found l n o (id_of key) r
  keeps-end None v s e =
      record {
        within = λ i g. let z : ◌≡◌ {A = ℕ} 0 1 = cc in absurd (omega arith);
        equals = λ x. nobody o l n (id_of key) (λ j b. s.old (right x) j (omega arith) (omega arith) (λ p q. omega arith));
      }
  keeps-end (Some i) v s e =
      record {
        within = λ j g. let z : i ≡ j = cc in omega (arith, s.top, slots-low l n h);
        equals = λ x. someone o l n (id_of key) i (omega (arith, s.top)) (s.such i refl) (λ j b. s.old (right x) j (omega arith) (omega (arith, s.top)) (λ p q. omega arith));
      }

-- ---- the last input of a transaction before a slot

pub record InputAt (l : List ℕ) (k below : ℕ) (r : Option ℕ) : Type 0 where
  pub some : (i : ℕ) → r ≡ Some i → (i < below) × (i < box_slots l) × (is_input k (box_at l i) ≡ true)

pub record LastInput (l : List ℕ) (n k below : ℕ) (r : Option ℕ) : Type 0 where
  pub none : r ≡ None → (j : ℕ) → j < below → j < slots_used l n → is_input k (box_at l j) ≡ false
  pub some : (i : ℕ) → r ≡ Some i → (i < slots_used l n) × ((j : ℕ) → i < j → j < below → j < slots_used l n → is_input k (box_at l j) ≡ false)

-- the slots below v are left to be visited, of the first n; from v on and before `below` there is no input of the transaction
pub record Lasts (l : List ℕ) (n : ℕ) (key : Id) (below v : ℕ) : Type 0 where
  pub low : v ≤ n
  pub gap : Indexed l 1 n → (j : ℕ) → v ≤ j → j < below → j < n → is_input (id_of key) (box_at l j) ≡ false
  pub inside : Indexed l 1 n → (j : ℕ) → v ≡ suc j → hash_at l 1 j ≡ bucket_in l key

other-owner : (l : List ℕ) (k j : ℕ) → eqb (key_at l 1 j) k ≡ false → is_input k (box_at l j) ≡ false
other-owner l k j e = rw (← owner-is l j, e)

module _ (l : List ℕ) (n : ℕ) (key : Id) (below : ℕ) (w : AllWords l) (wk : Words key) where
  pub lasts-head : (b v : ℕ) → 0 < box_slots l → b ≡ bucket_in l key → v ≡ checked (hash_at l 1) n b (head_at l 1 b) → Lasts l n key below v
  lasts-head b v h e f =
      record {
        low = rw f (checked-le (hash_at l 1) n b (head_at l 1 b));
        gap = λ x j a c d. other-owner l (id_of key) j (passed l 1 key n v w wk (reaches-head l 1 n key b v h x e f) j a d);
        inside = λ x. (reaches-head l 1 n key b v h x e f).inside;
      }

  -- behind a slot that is the transaction's
  pub lasts-link : (v : ℕ) → below < n → eqb (box_at l below).owner (id_of key) ≡ true → v ≡ bounded below (link_at l 1 below) → Lasts l n key below v
  lasts-link v h t f =
      record {
        low = omega (arith, f, bounded-le below (link_at l 1 below));
        gap = λ x j a c d. other-owner l (id_of key) j (passed l 1 key below v w wk (next x) j a c);
        inside = λ x. (next x).inside;
      }
    where
      next : Indexed l 1 n → Reaches l 1 key below v
      next x = reaches-link l 1 n key below v x h (same-hash l 1 key w wk below (owner-is l below ∙ eqb-true (box_at l below).owner (id_of key) t)) f

  -- the code's test of slot i
  pub lasts-next : (v i u : ℕ) → Lasts l n key below v → v ≡ suc i → (ltb i below && is_input (id_of key) (box_at l i)) ≡ false → u ≡ bounded i (link_at l 1 i) → Lasts l n key below u
  lasts-next v i u s e t f =
      record {
        low = omega (arith, f, bounded-le i (link_at l 1 i), s.low);
        gap = λ x j a c d. go x j a c d (dec_lt j i) (ℕ_discrete j i);
        inside = λ x. (next x).inside;
      }
    where
      next : Indexed l 1 n → Reaches l 1 key i u
      next x = reaches-link l 1 n key i u x (omega (arith, s.low)) (s.inside x i e) f

      here : i < below → is_input (id_of key) (box_at l i) ≡ false
      here b = rw (lt-ltb i below b) at t

      go : Indexed l 1 n → (j : ℕ) → u ≤ j → j < below → j < n → Dec (j < i) → Dec (j ≡ i) → is_input (id_of key) (box_at l j) ≡ false
      go x j a c d (yes q) z = other-owner l (id_of key) j (passed l 1 key i u w wk (next x) j a q)
      go x j a c d (no q) (yes z) = rw z (here (omega arith))
      go x j a c d (no q) (no z) = s.gap x j (omega (arith, q, z)) c d

pub lasts-empty : (l : List ℕ) (n k below : ℕ) → n ≡ 0 → InputAt l k below None × (BoxesKept l n → LastInput l n k below None)
lasts-empty l n k below e = (
  record { some = λ i f. let z : ◌≡◌ {A = ℕ} 0 1 = cc in absurd (omega arith) },
  λ x.
      record {
        none = λ f j a b. absurd (omega (arith, ap (slots_used l) e ∙ used-none l, b));
        some = λ i f. let z : ◌≡◌ {A = ℕ} 0 1 = cc in absurd (omega arith);
      },
)

module _ (l : List ℕ) (n used : ℕ) (key : Id) (below v : ℕ) (u : used ≡ slots_used l n) (h : BoxesOk l n) (s : Lasts l used key below v) where
  owners : BoxesKept l n → Indexed l 1 used
  owners x = rw u (x.index 1 (omega arith))

  pub lasts-end : v ≡ 0 → InputAt l (id_of key) below None × (BoxesKept l n → LastInput l n (id_of key) below None)
  lasts-end e = (
    record { some = λ i f. let z : ◌≡◌ {A = ℕ} 0 1 = cc in absurd (omega arith) },
    λ x.
        record {
          none = λ f j a b. s.gap (owners x) j (omega arith) a (omega arith);
          some = λ i f. let z : ◌≡◌ {A = ℕ} 0 1 = cc in absurd (omega arith);
        },
  )

  pub lasts-hit : (i : ℕ) → v ≡ suc i → (ltb i below && is_input (id_of key) (box_at l i)) ≡ true → InputAt l (id_of key) below (Some i) × (BoxesKept l n → LastInput l n (id_of key) below (Some i))
  lasts-hit i e t = (
    record { some = λ j f. let z : i ≡ j = cc in (omega (arith, part.0), omega (arith, s.low, slots-low l n h), rw (← z) part.1) },
    λ x.
        record {
          none = λ f. let z : ◌≡◌ {A = ℕ} 0 1 = cc in absurd (omega arith);
          some = λ j f. let z : i ≡ j = cc in (omega (arith, s.low), λ k a b c. s.gap (owners x) k (omega arith) b (omega arith));
        },
  )
    where
      go : (p : Bool) → ltb i below ≡ p → (p && is_input (id_of key) (box_at l i)) ≡ true → (i < below) × (is_input (id_of key) (box_at l i) ≡ true)
      go true q f = (ltb-true i below q, f)
      go false q f = let z : ◌≡◌ {A = ℕ} 0 1 = cc in absurd (omega arith)

      part : (i < below) × (is_input (id_of key) (box_at l i) ≡ true)
      part = go (ltb i below) refl t
