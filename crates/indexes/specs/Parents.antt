-- The last input of a transaction, among the first records, that has a producer, for the family walk (document 01, "Credits to parents"): its "inputs'
-- producers in input order" are pushed and the last is popped, so the producers of the inputs in the first n records are a stack whose top is that
-- of the last input that has one.
use Rattle.std.specs.Prelude.{Option, Some, None, ℕ, suc, ◌+◌, ◌<◌, ◌≡◌, refl, Bool, true, false, ◌⊎◌, eqb, length, take}
use Rattle.std.proofs.Common.{sym, ap, ◌∙◌, inl, inr, ⊎_elim, add-zero, add-suc, suc-add, arith, length-take, take-take}
use mathlib.Core.List.{List, [], ◌∷◌, ◌++◌, append_assoc, reverse_aux, reverse_aux-append, cons≢nil}
use Rattle.words.specs.Lists.{pick, flat}
use Rattle.words.specs.Ids.{id_of}
use Rattle.boxes.specs.Records.{BoxRec, Pair, lookup, is_input, inputs_of}
use Rattle.indexes.specs.declared.inputs.Parent.{Parent}

-- a producer, and the index of the record of the input that it produces
pub record Link : Type 0 where
  pub parent : ℕ
  pub at : ℕ

-- the first producer that there is, else what was there before
abbrev pub or_else : List ℕ → ℕ → List Link → List Link
or_else [] n best = best
or_else (p ∷ ps) n best = record { parent = p; at = n } ∷ []

abbrev pub last_from : (BoxRec → List ℕ) → ℕ → List BoxRec → List Link → List Link
last_from g n [] best = best
last_from g n (r ∷ rs) best = last_from g (suc n) rs (or_else (g r) n best)

-- f gives the producer of a box, if there is one: that of a record, where it is an input of transaction k
abbrev pub of_input : (ℕ → List ℕ) → ℕ → BoxRec → List ℕ
of_input f k r = pick (is_input k r) (f r.box) []

abbrev pub last_parent : (ℕ → List ℕ) → ℕ → List BoxRec → ℕ → List Link
last_parent f k rs n = last_from (of_input f k) 0 (take n rs) []

abbrev fifty : ℕ → List ℕ
fifty b = lookup (record { box = 5; id = 50 } ∷ []) b

abbrev spends : ℕ → ℕ → BoxRec
spends k b = record { box = b; owner = k; out = false; live = true }

abbrev some : List BoxRec
some = spends 1 5 ∷ spends 1 6 ∷ spends 2 5 ∷ spends 1 5 ∷ spends 1 6 ∷ []

-- box 5 has producer 50, box 6 none: of inputs 5, 6, 5, 6 of transaction 1 the last that has one is at index 3; in the first three records it is
-- at 0, since the one at 2 is another's; in none there is none
last-edges : (last_parent fifty 1 some 5 ≡ record { parent = 50; at = 3 } ∷ []) × (last_parent fifty 1 some 3 ≡ record { parent = 50; at = 0 } ∷ []) × (last_parent fifty 1 some 0 ≡ [])
last-edges = (refl, refl, refl)

-- the code's answer
abbrev pub links_of : Option Parent → List Link
links_of (Some p) = record { parent = id_of p.id; at = p.slot } ∷ []
links_of None = []

-- ---- the law that the walk goes by: the producers of the inputs in the first n records as a stack. Either there is none, or the answer is on
-- top, and below it are those of the first i records, i < n.

abbrev pub AtMostOne : (ℕ → List ℕ) → Type 0
AtMostOne f = (b : ℕ) → (f b ≡ []) ⊎ ((p : ℕ) × (f b ≡ p ∷ []))

pub lookup-one : (ps : List Pair) → AtMostOne (lookup ps)
lookup-one [] b = inl refl
lookup-one (p ∷ ps) b = go (eqb p.box b) (lookup-one ps b)
  where
    go : (t : Bool) → (lookup ps b ≡ []) ⊎ ((q : ℕ) × (lookup ps b ≡ q ∷ [])) → (pick t (p.id ∷ []) (lookup ps b) ≡ []) ⊎ ((q : ℕ) × (pick t (p.id ∷ []) (lookup ps b) ≡ q ∷ []))
    go true h = inr (p.id, refl)
    go false h = h

module _ (g : BoxRec → List ℕ) (one : (r : BoxRec) → (g r ≡ []) ⊎ ((p : ℕ) × (g r ≡ p ∷ []))) where
  record Top (n : ℕ) (l : List BoxRec) (r : List Link) : Type 0 where
    parent : ℕ
    at : ℕ
    low : at < length l
    rows : flat g l ≡ flat g (take at l) ++ (parent ∷ [])
    found : r ≡ record { parent = parent; at = n + at } ∷ []

  tops : (n : ℕ) (l : List BoxRec) (best : List Link) → ((flat g l ≡ []) × (last_from g n l best ≡ best)) ⊎ Top n l (last_from g n l best)
  tops n [] best = inl (refl, refl)
  tops n (b ∷ l) best = go (one b) (tops (suc n) l (or_else (g b) n best))
    where
      go : (g b ≡ []) ⊎ ((p : ℕ) × (g b ≡ p ∷ []))
          → ((flat g l ≡ []) × (last_from g (suc n) l (or_else (g b) n best) ≡ or_else (g b) n best)) ⊎ Top (suc n) l (last_from g (suc n) l (or_else (g b) n best))
          → ((g b ++ flat g l ≡ []) × (last_from g (suc n) l (or_else (g b) n best) ≡ best)) ⊎ Top n (b ∷ l) (last_from g (suc n) l (or_else (g b) n best))
      go (inl e) (inl h) = inl (rw (e, h.0), h.1 ∙ ap (λ x. or_else x n best) e)
      go (inr e) (inl h) =
          inr
          (record {
            parent = e.0;
            at = 0;
            low = omega arith;
            rows = rw (e.1, h.0);
            found = h.1 ∙ ap (λ x. or_else x n best) e.1 ∙ rw (add-zero n);
          })
      go e (inr t) =
          inr
          (record {
            parent = t.parent;
            at = suc t.at;
            low = omega (arith, t.low);
            rows = rw t.rows (sym (append_assoc (g b) (flat g (take t.at l)) (t.parent ∷ [])));
            found = t.found ∙ rw (suc-add n t.at, add-suc n t.at);
          })

module _ (f : ℕ → List ℕ) (one : AtMostOne f) (k : ℕ) where
  one_input : (r : BoxRec) → (of_input f k r ≡ []) ⊎ ((p : ℕ) × (of_input f k r ≡ p ∷ []))
  one_input r = go (is_input k r) (one r.box)
    where
      go : (t : Bool) → (f r.box ≡ []) ⊎ ((p : ℕ) × (f r.box ≡ p ∷ [])) → (pick t (f r.box) [] ≡ []) ⊎ ((p : ℕ) × (pick t (f r.box) [] ≡ p ∷ []))
      go true h = h
      go false h = inl refl

  -- record by record is input by input
  by-input : (rs : List BoxRec) → flat (of_input f k) rs ≡ flat f (inputs_of k rs)
  by-input [] = refl
  by-input (r ∷ rs) = go (is_input k r) (by-input rs)
    where
      go : (t : Bool) → flat (of_input f k) rs ≡ flat f (inputs_of k rs) → pick t (f r.box) [] ++ flat (of_input f k) rs ≡ flat f (pick t (r.box ∷ inputs_of k rs) (inputs_of k rs))
      go true h = ap (λ (x : List ℕ). f r.box ++ x) h
      go false h = h

  pub last_none : (rs : List BoxRec) (n : ℕ) → last_parent f k rs n ≡ [] → flat f (inputs_of k (take n rs)) ≡ []
  last_none rs n e =
      sym (by-input (take n rs)) ∙ ⊎_elim (λ h. h.0) (λ t. absurd (cons≢nil (sym t.found ∙ e))) (tops (of_input f k) one_input 0 (take n rs) [])

  pub last_some : (rs : List BoxRec) (n p i : ℕ) → last_parent f k rs n ≡ record { parent = p; at = i } ∷ [] → (i < n) × (flat f (inputs_of k (take n rs)) ≡ flat f (inputs_of k (take i rs)) ++ (p ∷ []))
  last_some rs n p i e = ⊎_elim (λ h. absurd (cons≢nil (sym e ∙ h.1))) here (tops (of_input f k) one_input 0 (take n rs) [])
    where
      here : Top (of_input f k) one_input 0 (take n rs) (last_from (of_input f k) 0 (take n rs) []) → (i < n) × (flat f (inputs_of k (take n rs)) ≡ flat f (inputs_of k (take i rs)) ++ (p ∷ []))
      here t =
          let q : ◌≡◌ {A = Link} (record { parent = p; at = i }) (record { parent = t.parent; at = 0 + t.at }) = cc (e, t.found) in
          let a : p ≡ t.parent = ap (λ (x : Link). x.parent) q in
          let b : i ≡ 0 + t.at = ap (λ (x : Link). x.at) q in
          let c : t.at < n = omega (arith, t.low, length-take n rs) in
          let d : t.at ≡ i = omega arith in
          (omega arith, sym (by-input (take n rs)) ∙ t.rows ∙ rw (take-take t.at n rs (omega arith), d, a) (ap (λ (x : List ℕ). x ++ (t.parent ∷ [])) (by-input (take i rs))))

  -- .. as the walk pushes them onto a stack
  pub last-push : (rs : List BoxRec) (n p i : ℕ) (st : List ℕ) → last_parent f k rs n ≡ record { parent = p; at = i } ∷ [] → reverse_aux (flat f (inputs_of k (take n rs))) st ≡ p ∷ reverse_aux (flat f (inputs_of k (take i rs))) st
  last-push rs n p i st e = ap (λ x. reverse_aux x st) (last_some rs n p i e).1 ∙ reverse_aux-append (flat f (inputs_of k (take i rs))) (p ∷ []) st
