-- What the functions that change the records promise: the words before are l, those after are m.
use Rattle.std.specs.Prelude.{ℕ, ◌+◌, ◌-◌, ◌/◌, ◌≤◌, ◌<◌, ◌≡◌, refl, List, [], ◌∷◌, set}
use Rattle.std.proofs.Common.{sym, ◌∙◌, arith, length-set, get_or-set_other}
use Rattle.std.proofs.Math.Path.{ap}
use Rattle.std.proofs.Math.Decide.{ℕ_discrete}
use Rattle.std.proofs.Math.ListN.{length, get_or}
use Rattle.std.proofs.Math.Seq.{get_or-set_same}
use Rattle.boxes.specs.Records.{enter_tx, drop_owner}
use Rattle.boxes.specs.Entering.{length-enter}
use Rattle.boxes.specs.Layout.{box_slots, id_place, link_place, head_place, used_place, key_place, head-high, boxes_room, BoxesOk, used_word, slots_used, records_in, boxes_of, records-ext, records-none, records-few, used-none, used-some, no-boxes, slots-low, slots-high, room-slots}
use Rattle.boxes.specs.Index.{Indexed, indexed-none, indexed-same, slot-ext, BoxesKept}
use Rattle.boxes.specs.Leaving.{AllLeft}
use Rattle.boxes.specs.Compacting.{Roomy}
use Rattle.boxes.specs.Linking.{AllIn, all-entered}
use Rattle.boxes.specs.Writing.{WroteBoth}
use Rattle.boxes.specs.Flat.{count_of, ids_of, ids}

-- transaction k has left, and there are r records
pub record Dropped (l m : List ℕ) (n r k : ℕ) : Type 0 where
  pub words : length m ≡ length l
  pub kept : BoxesKept m r
  pub rows : boxes_of m r ≡ drop_owner k (boxes_of l n)

-- transaction k has entered, and there are r records
pub record Entered (l m : List ℕ) (n r k : ℕ) (ins outs : List ℕ) : Type 0 where
  pub words : length m ≡ length l
  pub kept : BoxesKept m r
  pub rows : boxes_of m r ≡ enter_tx k ins outs (boxes_of l n)

-- ---- the word that says how many slots are used is written: then the words are kept

nil-of : {A : Type 0} (xs : List A) → length xs ≡ 0 → [] ≡ xs
nil-of [] e = refl
nil-of (x ∷ xs) e = absurd (omega arith)

module _ (l : List ℕ) (u : ℕ) (high : u ≤ box_slots l) where
  abbrev pub told : List ℕ
  told = set l (used_place (box_slots l)) u

  told-length : length told ≡ length l
  told-length = length-set l (used_place (box_slots l)) u

  other : (p : ℕ) → p < used_place (box_slots l) → get_or told p 0 ≡ get_or l p 0
  other p b = get_or-set_other l (used_place (box_slots l)) p u 0 (λ z. omega (arith, z))

  told-records : records_in told u ≡ records_in l u
  told-records = records-ext l told u (λ i b. slot-ext l told i (λ p q. other p (omega (arith, q.to))))

  told-index : (c : ℕ) → c < 2 → Indexed l c u → Indexed told c u
  told-index c q x =
      indexed-same l told c u told-length
      (get_or-set_other l (used_place (box_slots l)) (key_place (box_slots l)) u 0 (λ z. omega (arith, z)))
      (λ i b. other (id_place c i + 3) (omega arith))
      (λ i b. other (link_place c i) (omega arith))
      (λ b g. other (head_place (box_slots l) c b) (head-high (box_slots l) c b g))
      x

  told-word : 0 < u → used_word told ≡ u
  unfolding used_word
  told-word h = ap (λ (n : ℕ). get_or told (used_place ((n - 2) / 13)) 0) told-length ∙ get_or-set_same l (used_place (box_slots l)) u 0 (omega arith)

  module _ (r : ℕ) (low : r ≤ u) (count : length (records_in l u) ≡ r) (index : (c : ℕ) → c < 2 → Indexed l c u) where
    told-used : 0 < r → slots_used told r ≡ u
    told-used h = omega (arith, used-some told r h, told-word (omega arith), told-length)

    pub told-rows : boxes_of told r ≡ records_in l u
    unfolding boxes_of
    told-rows = go (ℕ_discrete r 0)
      where
        go : Dec (r ≡ 0) → records_in told (slots_used told r) ≡ records_in l u
        go (yes e) = ap (records_in told) (ap (slots_used told) e ∙ used-none told) ∙ records-none told ∙ nil-of (records_in l u) (count ∙ e)
        go (no e) = ap (records_in told) (told-used (omega (arith, e))) ∙ told-records

    pub told-kept : BoxesKept told r
    told-kept = record { count = ap length told-rows ∙ count; index = λ c q. go c q (ℕ_discrete r 0) }
      where
        go : (c : ℕ) → c < 2 → Dec (r ≡ 0) → Indexed told c (slots_used told r)
        go c q (yes e) = rw (ap (slots_used told) e ∙ used-none told) (indexed-none told c)
        go c q (no e) = rw (told-used (omega (arith, e))) (told-index c q (index c q))

-- ---- a transaction has left

pub dropped-none : (l : List ℕ) (n k : ℕ) → n ≡ 0 → BoxesKept l n → Dropped l l n 0 k
dropped-none l n k e x = rw e (record { words = refl; kept = rw e at x; rows = no-boxes l ∙ sym (ap (drop_owner k) (no-boxes l)) })

pub dropped : (l a m : List ℕ) (n r k u : ℕ) → BoxesOk l n → u ≡ slots_used l n → length a ≡ length l → AllLeft l a u n r k → m ≡ set a (used_place (box_slots a)) u → BoxesKept l n → Dropped l m n r k
unfolding boxes_of
dropped l a m n r k u h e f s g x =
    rw g
    (record {
      words = told-length a u high ∙ f;
      kept = told-kept a u high r low count index;
      rows = told-rows a u high r low count index ∙ s.rows (index₀ 1 (omega arith)) ∙ ap (λ (y : ℕ). drop_owner k (records_in l y)) e;
    })
  where
    high : u ≤ box_slots a
    high = omega (arith, slots-low l n h)

    low : r ≤ u
    low = omega (arith, s.fewer, slots-high l n)

    index₀ : (c : ℕ) → c < 2 → Indexed l c u
    index₀ c q = rw e (x.index c q)

    count : length (records_in a u) ≡ r
    count = s.count (ap (λ (y : ℕ). length (records_in l y)) e ∙ x.count)

    index : (c : ℕ) → c < 2 → Indexed a c u
    index c q = s.index c q (index₀ c q)

-- ---- a transaction has entered

-- behind the used slots of words whose indexes are right
pub record Behind (l m : List ℕ) (used n k : ℕ) (ins outs : List ℕ) : Type 0 where
  pub kept : ((c : ℕ) → c < 2 → Indexed l c used) → (r : ℕ) → r ≡ length (records_in l used) + n → r ≤ used + n → BoxesKept m r × (boxes_of m r ≡ enter_tx k ins outs (records_in l used))

pub behind : (l a o m : List ℕ) (used k W : ℕ) (ins : List ℕ) (X : ℕ) (outs : List ℕ) (n u : ℕ) → n ≡ count_of W ins + count_of X outs → used + (count_of W ins + count_of X outs) ≤ box_slots l → length a ≡ length l → length o ≡ length a → WroteBoth l a used k W ins X outs
    → AllIn a o used n → u ≡ used + n → m ≡ set o (used_place (box_slots o)) u → Behind l m used (count_of W ins + count_of X outs) k (ids_of W ins) (ids_of X outs)
behind l a o m used k W ins X outs n u d h e f w s g q = record { kept = λ x r c b. go x r c b (all-entered l a used k W ins X outs w o e h (rw d at s) x) }
  where
    go : ((c : ℕ) → c < 2 → Indexed l c used) → (r : ℕ) → r ≡ length (records_in l used) + (count_of W ins + count_of X outs) → r ≤ used + (count_of W ins + count_of X outs)
        → ((c : ℕ) → c < 2 → Indexed o c (used + (count_of W ins + count_of X outs))) × (records_in o (used + (count_of W ins + count_of X outs)) ≡ enter_tx k (ids_of W ins) (ids_of X outs) (records_in l used))
        → BoxesKept m r × (boxes_of m r ≡ enter_tx k (ids_of W ins) (ids_of X outs) (records_in l used))
    go x r c b z =
        rw (q, g, d) (
          told-kept o (used + (count_of W ins + count_of X outs)) (omega arith) r b (count z c) z.0,
          told-rows o (used + (count_of W ins + count_of X outs)) (omega arith) r b (count z c) z.0 ∙ z.1,
        )
      where
        count : ((c : ℕ) → c < 2 → Indexed o c (used + (count_of W ins + count_of X outs))) × (records_in o (used + (count_of W ins + count_of X outs)) ≡ enter_tx k (ids_of W ins) (ids_of X outs) (records_in l used))
            → r ≡ length (records_in l used) + (count_of W ins + count_of X outs) → length (records_in o (used + (count_of W ins + count_of X outs))) ≡ r
        count z c = ap length z.1 ∙ length-enter k (ids_of W ins) (ids_of X outs) (records_in l used) ∙ omega (arith, (ids W).len ins (count_of W ins), (ids X).len outs (count_of X outs), c)

module _ (l a : List ℕ) (n used u needed : ℕ) (h : BoxesOk l n) (e : u ≡ slots_used l n) (s : Roomy l a u used needed) (x : BoxesKept l n) where
  counted : length (records_in a used) ≡ n
  unfolding boxes_of
  counted = ap length s.rows ∙ ap (λ (y : ℕ). length (records_in l y)) e ∙ x.count

  -- where there is room for records there are slots for them
  pub has-slots : n + needed ≤ boxes_room l → used + needed ≤ box_slots l
  has-slots b = s.room (omega (arith, room-slots l, ap length (sym s.rows) ∙ counted))

  pub entered : (m : List ℕ) (c k : ℕ) (ins outs : List ℕ) → length m ≡ length l → needed ≡ c → Behind a m used c k ins outs → Entered l m n (n + needed) k ins outs
  unfolding boxes_of
  entered m c k ins outs f d t =
      let z = t.kept (s.index (λ c q. rw e (x.index c q))) (n + needed) (omega (arith, counted, d)) (omega (arith, counted, records-few a used, d)) in
      record { words = f; kept = z.0; rows = z.1 ∙ ap (enter_tx k ins outs) (s.rows ∙ ap (records_in l) e) }
