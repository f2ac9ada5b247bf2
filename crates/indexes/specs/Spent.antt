-- Whether any of a list of boxes has a spender: box by box. Where none has one there is no conflict.
use Rattle.std.specs.Prelude.{ℕ, ◌+◌, ◌*◌, ◌≤◌, ◌<◌, ◌≡◌, refl, Bool, true, false, not, ◌&&◌, ◌||◌, List, [], ◌∷◌, eqb, drop}
use Rattle.std.proofs.Common.{sym, ap, ◌∙◌, arith}
use Rattle.words.specs.Ids.{id_at}
use Rattle.words.specs.Lists.{pick, flat}
use Rattle.words.specs.Tables.{drop_of, drop_past}
use Rattle.boxes.specs.Records.{BoxRec, index, lookup, conflicts}
use Rattle.boxes.specs.Among.{among, among-cons, eqb_comm}
use Rattle.boxes.specs.Entering.{overtaken_by}
use Rattle.boxes.specs.Flat.{count_of, ids_of, ids}
use Rattle.boxes.specs.Layout.{boxes_of}
use Rattle.boxes.specs.Index.{BoxesKept}
use Rattle.boxes.specs.Lookup.{is_entry, lookup-cons}
use Rattle.indexes.specs.Owners.{is_found}

-- a live input of one of the boxes: what a newcomer with these inputs and no outputs would overtake
abbrev pub any_spent : List ℕ → List BoxRec → Bool
any_spent ins [] = false
any_spent ins (r ∷ rs) = overtaken_by ins [] r || any_spent ins rs

-- ---- box by box

-- of one box more: a record that is its entry, or that is overtaken by the others
over-cons : (b : ℕ) (bs : List ℕ) (r : BoxRec) → overtaken_by (b ∷ bs) [] r ≡ (is_entry false b r || overtaken_by bs [] r)
unfolding overtaken_by is_entry
over-cons b bs r = rw (eqb_comm r.box b) (go r.live r.out)
  where
    go : (v o : Bool) → (v && among r.box (pick o [] (b ∷ bs))) ≡ ((eqb b r.box && (v && not o)) || (v && among r.box (pick o [] bs)))
    go true true = none (eqb b r.box)
      where
        none : (t : Bool) → false ≡ ((t && false) || false)
        none true = refl
        none false = refl
    go true false = among-cons r.box b bs ∙ one (eqb b r.box)
      where
        one : (t : Bool) → (t || among r.box bs) ≡ ((t && true) || among r.box bs)
        one true = refl
        one false = refl
    go false o = gone (eqb b r.box)
      where
        gone : (t : Bool) → false ≡ ((t && false) || false)
        gone true = refl
        gone false = refl

spent-cons : (b : ℕ) (bs : List ℕ) (rs : List BoxRec) → any_spent (b ∷ bs) rs ≡ (is_found (lookup (index false rs) b) || any_spent bs rs)
spent-cons b bs [] = none bs
  where
    none : (bs : List ℕ) → ◌≡◌ {A = Bool} false (false || false)
    none bs = refl
spent-cons b bs (r ∷ rs) =
    rw (over-cons b bs r, lookup-cons false b r rs) (go (is_entry false b r) (overtaken_by bs [] r) (is_found (lookup (index false rs) b)) refl (spent-cons b bs rs))
  where
    go : (t u v : Bool) → is_found (lookup (index false rs) b) ≡ v → any_spent (b ∷ bs) rs ≡ (is_found (lookup (index false rs) b) || any_spent bs rs)
        → ((t || u) || any_spent (b ∷ bs) rs) ≡ (is_found (pick t (r.owner ∷ []) (lookup (index false rs) b)) || (u || any_spent bs rs))
    go true u v q h = refl
    go false true v q h = sym (or-true (is_found (lookup (index false rs) b)))
      where
        or-true : (t : Bool) → (t || true) ≡ true
        or-true true = refl
        or-true false = refl
    go false false v q h = h

spent-none : (rs : List BoxRec) → any_spent [] rs ≡ false
unfolding overtaken_by
spent-none [] = refl
spent-none (r ∷ rs) = rw (spent-none rs) (go r.live r.out)
  where
    go : (v o : Bool) → ((v && among r.box (pick o [] [])) || false) ≡ false
    go true true = refl
    go true false = refl
    go false o = refl

-- the boxes from the j-th on say what all of them say
pub record Spending (W : ℕ) (inputs l : List ℕ) (n j : ℕ) : Type 0 where
  pub same : BoxesKept l n → any_spent (drop j (ids_of W inputs)) (boxes_of l n) ≡ any_spent (ids_of W inputs) (boxes_of l n)

module _ (W : ℕ) (inputs l : List ℕ) (n : ℕ) where
  module _ (j x : ℕ) (t : Bool) (h : j < count_of W inputs) (e : x ≡ id_at inputs (j * W)) (s : Spending W inputs l n j)
      (f : BoxesKept l n → t ≡ is_found (lookup (index false (boxes_of l n)) x)) where
    here : BoxesKept l n → (t || any_spent (drop (j + 1) (ids_of W inputs)) (boxes_of l n)) ≡ any_spent (ids_of W inputs) (boxes_of l n)
    here k =
        ap (λ (u : Bool). u || any_spent (drop (j + 1) (ids_of W inputs)) (boxes_of l n)) (f k ∙ ap (λ (y : ℕ). is_found (lookup (index false (boxes_of l n)) y)) e)
        ∙ sym (spent-cons (id_at inputs (j * W)) (drop (j + 1) (ids_of W inputs)) (boxes_of l n))
        ∙ ap (λ (bs : List ℕ). any_spent bs (boxes_of l n)) (sym (drop_of (ids W) inputs (count_of W inputs) j h))
        ∙ s.same k

    pub spend-hit : t ≡ true → BoxesKept l n → true ≡ any_spent (ids_of W inputs) (boxes_of l n)
    spend-hit q k = ap (λ (u : Bool). u || any_spent (drop (j + 1) (ids_of W inputs)) (boxes_of l n)) (sym q) ∙ here k

    pub spend-miss : t ≡ false → Spending W inputs l n (j + 1)
    spend-miss q = record { same = λ k. ap (λ (u : Bool). u || any_spent (drop (j + 1) (ids_of W inputs)) (boxes_of l n)) (sym q) ∙ here k }

  pub spend-end : (j : ℕ) → count_of W inputs ≤ j → Spending W inputs l n j → BoxesKept l n → false ≡ any_spent (ids_of W inputs) (boxes_of l n)
  spend-end j h s k =
      sym (spent-none (boxes_of l n)) ∙ ap (λ (bs : List ℕ). any_spent bs (boxes_of l n)) (sym (drop_past (ids W) inputs (count_of W inputs) j h)) ∙ s.same k

-- ---- no spender, no conflict

or-none : (a b : Bool) → (a || b) ≡ false → (a ≡ false) × (b ≡ false)
or-none true b e = (e, cc)
or-none false b e = (refl, e)

not_found : (ks : List ℕ) → is_found ks ≡ false → ks ≡ []
not_found [] e = refl
not_found (k ∷ ks) e = absurd (let z : ◌≡◌ {A = ℕ} 0 1 = cc in omega arith)

flat-spent : (bs : List ℕ) (rs : List BoxRec) → any_spent bs rs ≡ false → flat (lookup (index false rs)) bs ≡ []
flat-spent [] rs e = refl
flat-spent (b ∷ bs) rs e =
    let p = or-none (is_found (lookup (index false rs) b)) (any_spent bs rs) (sym (spent-cons b bs rs) ∙ e) in
    rw (not_found (lookup (index false rs) b) p.0) (flat-spent bs rs p.1)

pub no-conflict : (ins : List ℕ) (rs : List BoxRec) → any_spent ins rs ≡ false → conflicts (index false rs) ins ≡ []
no-conflict ins rs e = rw (flat-spent ins rs e)
