-- What entering a transaction does to the records, in one step: the older records are hidden in place, and the new ones stand behind them
-- (`entered`). `Records` says it record by record, as the code does it.
use Rattle.std.specs.Prelude.{ℕ, ◌+◌, ◌≡◌, Bool, ◌&&◌, ◌||◌, List, [], ◌∷◌, ◌++◌, map, eqb, length}
use Rattle.std.proofs.Math.Path.{refl, sym}
use Rattle.std.proofs.Common.{ap, ◌∙◌, append_assoc, append-nil, length-append}
use Rattle.std.proofs.Math.Bool.{true, false, not, and-true}
use Rattle.std.proofs.lemmas.List.{length-map}
use Rattle.words.specs.Lists.{pick, map-append}
use Rattle.boxes.specs.Among.{among, among-cons, eqb_comm}
use Rattle.boxes.specs.Records.{BoxRec, same, hide, enter_box, enter_boxes, enter_tx}

-- a record is hidden by each box of a list
abbrev hide_all : Bool → List ℕ → BoxRec → BoxRec
hide_all o bs r = record { box = r.box; owner = r.owner; out = r.out; live = r.live && not (same o r.out && among r.box bs) }

-- a live record is overtaken where a newcomer has its box too, among the inputs if it is an input, and among the outputs if it is an output
unfoldable pub overtaken_by : List ℕ → List ℕ → BoxRec → Bool
overtaken_by ins outs r = r.live && among r.box (pick r.out outs ins)

abbrev pub hide_tx : List ℕ → List ℕ → BoxRec → BoxRec
hide_tx ins outs r = record { box = r.box; owner = r.owner; out = r.out; live = r.live && not (among r.box (pick r.out outs ins)) }

-- the new records: of a box that the list repeats the last one is live
abbrev pub new_box : Bool → ℕ → ℕ → List ℕ → BoxRec
new_box o k b bs = record { box = b; owner = k; out = o; live = not (among b bs) }

abbrev pub new_boxes : Bool → ℕ → List ℕ → List BoxRec
new_boxes o k [] = []
new_boxes o k (b ∷ bs) = new_box o k b bs ∷ new_boxes o k bs

-- ---- record by record, and at once

-- a record is told from another of its box, owner and kind by its mark alone
marked : BoxRec → Bool → BoxRec
marked r l = record { box = r.box; owner = r.owner; out = r.out; live = l }

hide-nil : (o : Bool) (rs : List BoxRec) → map (hide_all o []) rs ≡ rs
unfolding marked
hide-nil o [] = refl
hide-nil o (r ∷ rs) = λ t. marked r (go r.live (same o r.out) t) ∷ hide-nil o rs t
  where
    go : (l s : Bool) → (l && not (s && false)) ≡ l
    go true true = refl
    go true false = refl
    go false s = refl

hide-cons : (o : Bool) (b : ℕ) (bs : List ℕ) (rs : List BoxRec) → map (hide_all o bs) (map (hide o b) rs) ≡ map (hide_all o (b ∷ bs)) rs
unfolding marked
hide-cons o b bs [] = refl
hide-cons o b bs (r ∷ rs) =
    λ t. marked r ((go r.live (same o r.out) (eqb r.box b) (among r.box bs) ∙ ap (λ (x : Bool). r.live && not (same o r.out && x)) (sym here)) t) ∷ hide-cons o b bs rs t
  where
    here : among r.box (b ∷ bs) ≡ (eqb r.box b || among r.box bs)
    here = among-cons r.box b bs ∙ ap (λ (x : Bool). x || among r.box bs) (eqb_comm b r.box)

    go : (l s e a : Bool) → ((l && not (s && e)) && not (s && a)) ≡ (l && not (s && (e || a)))
    go false s e a = refl
    go true false e a = refl
    go true true true a = refl
    go true true false a = refl

entered-one : (o : Bool) (k : ℕ) (bs : List ℕ) (rs : List BoxRec) → enter_boxes o k bs rs ≡ map (hide_all o bs) rs ++ new_boxes o k bs
entered-one o k [] rs = sym (append-nil (map (hide_all o []) rs) ∙ hide-nil o rs)
entered-one o k (b ∷ bs) rs =
    entered-one o k bs (enter_box o k b rs)
    ∙ rw (map-append (hide_all o bs) (map (hide o b) rs) _, hide-cons o b bs rs, append_assoc) (go o)
  where
    go : (t : Bool) → map (hide_all o (b ∷ bs)) rs ++ (hide_all t bs (record { box = b; owner = k; out = t; live = true }) ∷ new_boxes o k bs) ≡ map (hide_all o (b ∷ bs)) rs ++ (new_box t k b bs ∷ new_boxes o k bs)
    go true = refl
    go false = refl

-- outputs hide no inputs
new-inputs : (k : ℕ) (bs ins : List ℕ) → map (hide_all true bs) (new_boxes false k ins) ≡ new_boxes false k ins
unfolding marked
new-inputs k bs [] = refl
new-inputs k bs (b ∷ ins) = λ t. marked (new_box false k b ins) (and-true (not (among b ins)) t) ∷ new-inputs k bs ins t

-- both kinds in one pass
hide-both : (ins outs : List ℕ) (rs : List BoxRec) → map (hide_all true outs) (map (hide_all false ins) rs) ≡ map (hide_tx ins outs) rs
unfolding marked
hide-both ins outs [] = refl
hide-both ins outs (r ∷ rs) = λ t. marked r (go r.live r.out t) ∷ hide-both ins outs rs t
  where
    go : (l o : Bool) → ((l && not (not o && among r.box ins)) && not (o && among r.box outs)) ≡ (l && not (among r.box (pick o outs ins)))
    go l true = ap (λ (x : Bool). x && not (among r.box outs)) (and-true l)
    go l false = and-true (l && not (among r.box ins))

pub entered : (k : ℕ) (ins outs : List ℕ) (rs : List BoxRec) → enter_tx k ins outs rs ≡ map (hide_tx ins outs) rs ++ (new_boxes false k ins ++ new_boxes true k outs)
entered k ins outs rs =
    entered-one true k outs (enter_boxes false k ins rs)
    ∙ rw (
      entered-one false k ins rs,
      map-append (hide_all true outs) (map (hide_all false ins) rs) (new_boxes false k ins),
      new-inputs k outs ins,
      hide-both ins outs rs,
    )
    (append_assoc (map (hide_tx ins outs) rs) (new_boxes false k ins) (new_boxes true k outs))

-- a record as the code tests it
module _ (ins outs : List ℕ) (r : BoxRec) where
  pub overtaken-output : {x : ℕ} {t : Bool} → r.live ≡ true → r.out ≡ true → x ≡ r.box → t ≡ among x outs → t ≡ overtaken_by ins outs r
  unfolding overtaken_by
  overtaken-output l o e h = rw (l, o, ← e) h

  pub overtaken-input : {x : ℕ} {t : Bool} → r.live ≡ true → r.out ≡ false → x ≡ r.box → t ≡ among x ins → t ≡ overtaken_by ins outs r
  unfolding overtaken_by
  overtaken-input l o e h = rw (l, o, ← e) h

  pub overtaken-not : r.live ≡ false → false ≡ overtaken_by ins outs r
  unfolding overtaken_by
  overtaken-not l = rw l

-- a record that is not overtaken is as it was
module _ (ins outs : List ℕ) (r : BoxRec) where
  pub hide-no : overtaken_by ins outs r ≡ false → hide_tx ins outs r ≡ r
  unfolding marked overtaken_by
  hide-no e = λ t. marked r (go r.live (among r.box (pick r.out outs ins)) e t)
    where
      go : (l a : Bool) → (l && a) ≡ false → (l && not a) ≡ l
      go true true q = sym q
      go true false q = refl
      go false a q = refl

-- ---- how many they are: "one record for each input and output, repeats counted"

pub length-new : (o : Bool) (k : ℕ) (bs : List ℕ) → length (new_boxes o k bs) ≡ length bs
length-new o k [] = refl
length-new o k (b ∷ bs) = rw (length-new o k bs)

pub length-enter : (k : ℕ) (ins outs : List ℕ) (rs : List BoxRec) → length (enter_tx k ins outs rs) ≡ length rs + (length ins + length outs)
length-enter k ins outs rs = rw (entered k ins outs rs) (simp (length-append, length-map, length-new))
