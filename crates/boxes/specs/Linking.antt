-- A newcomer's records, which stand written behind the used slots, enter one after the other: each hides what is older and is linked in.
use Rattle.std.specs.Prelude.{ℕ, zero, suc, ◌+◌, ◌-◌, ◌*◌, ◌≤◌, ◌<◌, ◌≡◌, refl, Bool, true, false, length}
use Rattle.std.proofs.Common.{sym, ◌∙◌, add-zero, add_assoc, add-suc, add-one, arith}
use Rattle.std.proofs.Math.Path.{ap}
use mathlib.Core.List.{List, [], ◌∷◌, ◌++◌, map}
use Rattle.std.proofs.Math.Decide.{dec_lt}
use Rattle.words.specs.Lists.{pick}
use Rattle.words.specs.Ids.{id_at}
use Rattle.words.specs.Tables.{of_none, of-suc}
use Rattle.boxes.specs.Records.{BoxRec, hide, enter_box, enter_boxes, enter_tx}
use Rattle.boxes.specs.Flat.{count_of, ids_to, ids_of, ids}
use Rattle.boxes.specs.Slots.{Slot}
use Rattle.boxes.specs.Layout.{box_slots, row-unique, slot_at, box_at, records_in, records-more, records-ext, records-hide}
use Rattle.boxes.specs.Index.{Indexed, slot-ext, both_in, both-slot, both-more}
use Rattle.boxes.specs.Stores.{indexed-before, indexed-kinds}
use Rattle.boxes.specs.Hiding.{Hidden}
use Rattle.boxes.specs.Writing.{WroteBoth}

-- a record enters
abbrev pub enter_row : BoxRec → List BoxRec → List BoxRec
enter_row x rs = map (hide x.out x.box) rs ++ (x ∷ [])

-- f 0, .., f (n - 1) enter
unfoldable pub enters_to : (ℕ → BoxRec) → List BoxRec → ℕ → List BoxRec
enters_to f rs zero = rs
enters_to f rs (suc n) = enter_row (f n) (enters_to f rs n)

enter-suc : (f : ℕ → BoxRec) (rs : List BoxRec) (n : ℕ) → enters_to f rs (n + 1) ≡ enter_row (f n) (enters_to f rs n)
unfolding enters_to
enter-suc f rs n = rw (add-one n)

-- ---- one of them

pub record OneIn (l m : List ℕ) (i : ℕ) : Type 0 where
  pub index : (c : ℕ) → c < 2 → Indexed l c i → Indexed m c (i + 1)
  pub rows : Indexed l 0 i → (slot_at l i).gone ≡ false → records_in m (i + 1) ≡ enter_row (box_at l i) (records_in l i)
  pub rest : (j : ℕ) → i < j → j < box_slots l → slot_at m j ≡ slot_at l j

module _ (l a m : List ℕ) (i k : ℕ) (o : Bool) (e : length a ≡ length l) (p : k ≡ (box_at l i).box) (q : o ≡ (box_at l i).out) (h : Hidden l a i o k) (r : i < box_slots a) (f : m ≡ both_in a i r) where
  slots-in : (j : ℕ) → j < box_slots a → slot_at m j ≡ slot_at a j
  slots-in j b = rw f (both-slot a i r j b)

  here : slot_at m i ≡ slot_at l i
  here = slots-in i r ∙ h.rest i (omega arith)

  older : Indexed l 0 i → records_in m i ≡ map (hide (box_at l i).out (box_at l i).box) (records_in l i)
  older x = records-hide l m (box_at l i).out (box_at l i).box i (λ j b. slots-in j (omega arith) ∙ rw (← q, ← p) (h.slots x j b))

  newest : (slot_at l i).gone ≡ false → pick (slot_at m i).gone [] (box_at m i ∷ []) ≡ box_at l i ∷ []
  unfolding box_at
  newest t = ap (λ (s : Slot). pick s.gone [] (s.row ∷ [])) here ∙ rw t

  pub one_in : OneIn l m i
  one_in =
      record {
        index = λ c b x. rw f (both-more a i r c b (indexed-kinds l a i e (omega (arith, e)) h.words c i b x));
        rows = λ x t. records-more m i ∙ ap (λ (y : List BoxRec). records_in m i ++ y) (newest t) ∙ ap (λ (y : List BoxRec). y ++ (box_at l i ∷ [])) (older x);
        rest = λ j b g. slots-in j (omega (arith, e)) ∙ h.rest j (omega arith);
      }

-- ---- all of them

pub record AllIn (l m : List ℕ) (used n : ℕ) : Type 0 where
  pub index : (c : ℕ) → c < 2 → Indexed l c used → Indexed m c (used + n)
  pub rows : Indexed l 0 used → ((j : ℕ) → j < n → (slot_at l (used + j)).gone ≡ false) → records_in m (used + n) ≡ enters_to (λ j. box_at l (used + j)) (records_in l used) n

-- n of them have entered, and those behind are as they were
pub record Enters (l₀ : List ℕ) (used : ℕ) (l : List ℕ) (n : ℕ) : Type 0 where
  pub len : length l ≡ length l₀
  pub all : AllIn l₀ l used n
  pub rest : (j : ℕ) → used + n ≤ j → j < box_slots l₀ → slot_at l j ≡ slot_at l₀ j

pub enters_none : (l : List ℕ) (used : ℕ) → Enters l used l 0
unfolding enters_to
enters_none l used = record { len = refl; all = record { index = λ c b x. rw (add-zero used) x; rows = λ x t. rw (add-zero used) refl }; rest = λ j b g. refl }

module _ (l₀ : List ℕ) (used : ℕ) (l m : List ℕ) (n : ℕ) (s : Enters l₀ used l n) (h : used + n < box_slots l₀) (e : length m ≡ length l) (o : OneIn l m (used + n)) where
  this : slot_at l (used + n) ≡ slot_at l₀ (used + n)
  this = s.rest (used + n) (omega arith) h

  row : box_at l (used + n) ≡ box_at l₀ (used + n)
  unfolding box_at
  row = ap (λ (x : Slot). x.row) this

  enter-ap : {x y : BoxRec} {u v : List BoxRec} → x ≡ y → u ≡ v → enter_row x u ≡ enter_row y v
  enter-ap a b = λ t. enter_row (a t) (b t)

  pub enters-more : Enters l₀ used m (n + 1)
  enters-more =
      record {
        len = e ∙ s.len;
        all =
            record {
              index = λ c b x. rw (← add_assoc used n 1) (o.index c b (s.all.index c b x));
              rows =
                  λ x t.
                  ap (records_in m) (sym (add_assoc used n 1))
                  ∙ o.rows (s.all.index 0 (omega arith) x) (ap (λ (y : Slot). y.gone) this ∙ t n (omega arith))
                  ∙ enter-ap row (s.all.rows x (λ j b. t j (omega arith)))
                  ∙ sym (enter-suc (λ j. box_at l₀ (used + j)) (records_in l₀ used) n);
            };
        rest = λ j b g. o.rest j (omega arith) (omega (arith, s.len)) ∙ s.rest j (omega arith) g;
      }

-- ---- a transaction's records, which stand behind the used slots

enter-last : (o : Bool) (k b : ℕ) (bs : List ℕ) (rs : List BoxRec) → enter_boxes o k (bs ++ (b ∷ [])) rs ≡ enter_box o k b (enter_boxes o k bs rs)
enter-last o k b [] rs = refl
enter-last o k b (c ∷ bs) rs = enter-last o k b bs (enter_box o k c rs)

-- the boxes of a list, in order
enter-list : (o : Bool) (k W : ℕ) (l : List ℕ) (f : ℕ → BoxRec) (rs : List BoxRec) (n : ℕ) → ((j : ℕ) → j < n → f j ≡ record { box = id_at l (j * W); owner = k; out = o; live = true })
    → enters_to f rs n ≡ enter_boxes o k (ids_to W l n) rs
unfolding enters_to
enter-list o k W l f rs zero h = rw (of_none (ids W) l)
enter-list o k W l f rs (suc n) h =
    (λ t. enter_row (h n (omega arith) t) (enter-list o k W l f rs n (λ j b. h j (omega arith)) t))
    ∙ sym (enter-last o k (id_at l (n * W)) (ids_to W l n) rs)
    ∙ ap (λ (bs : List ℕ). enter_boxes o k bs rs) (sym (of-suc (ids W) l n) ∙ ap (ids_to W l) (add-one n))

enter-add : (f : ℕ → BoxRec) (rs : List BoxRec) (a b : ℕ) → enters_to f rs (a + b) ≡ enters_to (λ j. f (a + j)) (enters_to f rs a) b
unfolding enters_to
enter-add f rs a zero = rw (add-zero a)
enter-add f rs a (suc b) = rw (add-suc a b) (ap (enter_row (f (a + b))) (enter-add f rs a b))

module _ (l m : List ℕ) (used k W : ℕ) (ins : List ℕ) (X : ℕ) (outs : List ℕ) (w : WroteBoth l m used k W ins X outs) where
  new_in : (j : ℕ) → j < count_of W ins → box_at m (used + j) ≡ record { box = id_at ins (j * W); owner = k; out = false; live = true }
  unfolding box_at
  new_in j b = ap (λ (s : Slot). s.row) (w.inputs j b)

  new-out : (j : ℕ) → j < count_of X outs → box_at m (used + (count_of W ins + j)) ≡ record { box = id_at outs (j * X); owner = k; out = true; live = true }
  unfolding box_at
  new-out j b = ap (λ (s : Slot). s.row) (w.outputs j b)

  pub enter-both : (rs : List BoxRec) → enters_to (λ j. box_at m (used + j)) rs (count_of W ins + count_of X outs) ≡ enter_tx k (ids_of W ins) (ids_of X outs) rs
  enter-both rs =
      enter-add (λ j. box_at m (used + j)) rs (count_of W ins) (count_of X outs)
      ∙ enter-list true k X outs (λ j. box_at m (used + (count_of W ins + j))) (enters_to (λ j. box_at m (used + j)) rs (count_of W ins)) (count_of X outs) new-out
      ∙ ap (enter_boxes true k (ids_of X outs)) (enter-list false k W ins (λ j. box_at m (used + j)) rs (count_of W ins) new_in)

  solid : (j : ℕ) → j < count_of W ins + count_of X outs → (slot_at m (used + j)).gone ≡ false
  solid j b = go (dec_lt j (count_of W ins))
    where
      go : Dec (j < count_of W ins) → (slot_at m (used + j)).gone ≡ false
      go (yes z) = ap (λ (s : Slot). s.gone) (w.inputs j z)
      go (no z) =
          let u : j ≡ count_of W ins + (j - count_of W ins) = omega (arith, z) in
          rw u (ap (λ (s : Slot). s.gone) (w.outputs (j - count_of W ins) (omega (arith, z))))

  -- the used slots are as they were, and so are the indexes
  old-slots : used + (count_of W ins + count_of X outs) ≤ box_slots l → records_in m used ≡ records_in l used
  old-slots h = records-ext l m used (λ i b. slot-ext l m i (λ p q. w.words p (λ j u v r. omega (arith, row-unique i j p q r))))

  old-index : length m ≡ length l → used + (count_of W ins + count_of X outs) ≤ box_slots l → (c : ℕ) → c < 2 → Indexed l c used → Indexed m c used
  old-index e h c q x = indexed-before l m used (used + (count_of W ins + count_of X outs)) e h w.words c q x

  -- they have entered
  pub all-entered : (o : List ℕ) → length m ≡ length l → used + (count_of W ins + count_of X outs) ≤ box_slots l → AllIn m o used (count_of W ins + count_of X outs) → ((c : ℕ) → c < 2 → Indexed l c used)
      → ((c : ℕ) → c < 2 → Indexed o c (used + (count_of W ins + count_of X outs))) × (records_in o (used + (count_of W ins + count_of X outs)) ≡ enter_tx k (ids_of W ins) (ids_of X outs) (records_in l used))
  all-entered o e h a x = (
    λ c q. a.index c q (old-index e h c q (x c q)),
    a.rows (old-index e h 0 (omega arith) (x 0 (omega arith))) solid ∙ enter-both (records_in m used) ∙ ap (enter_tx k (ids_of W ins) (ids_of X outs)) (old-slots h),
  )
