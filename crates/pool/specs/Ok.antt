-- The store's validity beside room: what an accepted start leaves and every call keeps (document 01, "The ordered pool"). The entries are in priority
-- order, each id once; every box record is a pooled transaction's; a transaction's records are its inputs, then its outputs; each box has at most one
-- live record of each kind. Insertion of an id that is not pooled, removal, eviction and a change of weights keep it.
use Rattle.std.specs.Prelude.{Option}
use Rattle.std.specs.Prelude.{ℕ, zero, suc, ◌<◌, ◌≡◌, refl, Bool, true, false, not, List, [], ◌∷◌, ◌++◌, map, eqb, leb, length}
use Rattle.std.proofs.Common.{sym, ap, ◌∙◌, append-nil, not-suc-le-zero, arith, eq-eqb, eqb-true, leb-false}
use Rattle.std.proofs.lemmas.Bool.{eqb-false}
use Rattle.words.specs.Lists.{pick, keep, other, count, Once, count-append, count-map-keep, keep_append, keep_all, keep-none, map-append, absent-head, absent-tail}
use Rattle.words.specs.Find.{without, last, drop_last}
use Rattle.entries.specs.Entries.{Entry, weight_of, key_of, pooled, raised, credit, stamped}
use Rattle.entries.specs.Order.{count-insert, count-sort}
use Rattle.entries.specs.InOrder.{EntriesInOrder, insert-order, without-order, not-pooled, credit-order, stamp-view, stamp-order}
use Rattle.entries.specs.Moves.{without-rest, last_rest, changed, credit-move}
use Rattle.boxes.specs.Records.{BoxRec, enter_tx, drop_owner}
use Rattle.boxes.specs.IndexLaws.{Use, uses, the, uses-enter, uses-drop, Unowned, OneLive, one-live-none, one-live-enter, one-live-drop}
use Rattle.pool.specs.Pool.{Tables, insert_tx, remove_tx, remove_all, nobody, lowest, drop_low, trim, evict, credits}

-- the records of transaction k, without the mark 'live'
abbrev pub uses_of : ℕ → List BoxRec → List Use
uses_of k rs = keep (λ u. eqb u.owner k) (uses rs)

-- some inputs, then some outputs
abbrev pub Shaped : ℕ → List Use → Type 0
Shaped k us = (ins : List ℕ) × (outs : List ℕ) × (us ≡ map (the false k) ins ++ map (the true k) outs)

pub record Ok (t : Tables) : Type 0 where
  pub order : EntriesInOrder t.entries
  pub owners : (k : ℕ) → count k (map key_of t.entries) ≡ 0 → Unowned k t.boxes
  pub shape : (k : ℕ) → Shaped k (uses_of k t.boxes)
  pub live : OneLive t.boxes

pub ok-none : Ok (record { entries = []; boxes = [] })
ok-none = record { order = record { sorted = tt; once = λ k. omega arith }; owners = λ k h. refl; shape = λ k. ([], [], refl); live = one-live-none }

-- ---- the records of one transaction

owners-uses : (rs : List BoxRec) → map (λ r. r.owner) rs ≡ map (λ u. u.owner) (uses rs)
owners-uses [] = refl
owners-uses (r ∷ rs) = ap (λ (l : List ℕ). r.owner ∷ l) (owners-uses rs)

none_owned : (k : ℕ) (rs : List BoxRec) → Unowned k rs → uses_of k rs ≡ []
none_owned k [] h = refl
none_owned k (r ∷ rs) h =
    let l : List ℕ = map (λ r. r.owner) rs in
    rw (absent-head k r.owner l h) (none_owned k rs (absent-tail k r.owner l h))

count-the : (o : Bool) (j k : ℕ) → eqb j k ≡ false → (bs : List ℕ) → count k (map (λ u. u.owner) (map (the o j) bs)) ≡ 0
count-the o j k n [] = refl
count-the o j k n (b ∷ bs) = rw n (omega (arith, count-the o j k n bs))

-- records that a newcomer j brings
module _ (j : ℕ) (ins outs : List ℕ) (rs : List BoxRec) where
  abbrev new : List Use
  new = map (the false j) ins ++ map (the true j) outs

  enter-uses : (k : ℕ) → uses_of k (enter_tx j ins outs rs) ≡ uses_of k rs ++ keep (λ u. eqb u.owner k) new
  enter-uses k = rw (uses-enter j ins outs rs) (keep_append (λ u. eqb u.owner k) (uses rs) new)

  keep-new : (k : ℕ) (t : Bool) → eqb j k ≡ t → keep (λ u. eqb u.owner k) new ≡ pick t new []
  keep-new k true q =
      keep_append (λ u. eqb u.owner k) (map (the false j) ins) (map (the true j) outs)
      ∙ rw (keep_all (the false j) (λ u. eqb u.owner k) (λ b. q) ins, keep_all (the true j) (λ u. eqb u.owner k) (λ b. q) outs)
  keep-new k false q =
      keep_append (λ u. eqb u.owner k) (map (the false j) ins) (map (the true j) outs)
      ∙ rw (keep-none (the false j) (λ u. eqb u.owner k) (λ b. q) ins, keep-none (the true j) (λ u. eqb u.owner k) (λ b. q) outs)

  unowned-enter : (k : ℕ) → eqb j k ≡ false → Unowned k rs → Unowned k (enter_tx j ins outs rs)
  unowned-enter k n h =
      let f : Use → ℕ = λ u. u.owner in
      ap (count k) (owners-uses (enter_tx j ins outs rs) ∙ ap (map f) (uses-enter j ins outs rs))
      ∙ omega (
        arith,
        ap (count k) (map-append f (uses rs) new),
        count-append k (map f (uses rs)) (map f new),
        ap (count k) (map-append f (map (the false j) ins) (map (the true j) outs)),
        count-append k (map f (map (the false j) ins)) (map f (map (the true j) outs)),
        count-the false j k n ins,
        count-the true j k n outs,
        ap (count k) (owners-uses rs),
        h,
      )

  shape-enter : Unowned j rs → ((k : ℕ) → Shaped k (uses_of k rs)) → (k : ℕ) → Shaped k (uses_of k (enter_tx j ins outs rs))
  shape-enter h s k = go (eqb j k) refl
    where
      go : (t : Bool) → eqb j k ≡ t → Shaped k (uses_of k (enter_tx j ins outs rs))
      go true q =
          let e : j ≡ k = eqb-true j k q in
          (ins, outs, enter-uses k ∙ rw (keep-new k true q, ← e, none_owned j rs h))
      go false q = ((s k).0, (s k).1, enter-uses k ∙ rw (keep-new k false q) (append-nil (uses_of k rs) ∙ (s k).2))

-- records that j takes with it
keep_out : (j : ℕ) (us : List Use) → keep (λ u. eqb u.owner j) (keep (λ u. other j u.owner) us) ≡ []
keep_out j [] = refl
keep_out j (u ∷ us) = go (eqb u.owner j) refl (keep_out j us)
  where
    go : (t : Bool) → eqb u.owner j ≡ t → keep (λ u. eqb u.owner j) (keep (λ u. other j u.owner) us) ≡ []
        → keep (λ u. eqb u.owner j) (pick (not t) (u ∷ keep (λ u. other j u.owner) us) (keep (λ u. other j u.owner) us)) ≡ []
    go true q h = h
    go false q h = rw q h

keep-beside : (j k : ℕ) → eqb j k ≡ false → (us : List Use) → keep (λ u. eqb u.owner k) (keep (λ u. other j u.owner) us) ≡ keep (λ u. eqb u.owner k) us
keep-beside j k n [] = refl
keep-beside j k n (u ∷ us) = go (eqb u.owner j) refl (eqb u.owner k) refl (keep-beside j k n us)
  where
    go : (t : Bool) → eqb u.owner j ≡ t → (v : Bool) → eqb u.owner k ≡ v
        → keep (λ u. eqb u.owner k) (keep (λ u. other j u.owner) us) ≡ keep (λ u. eqb u.owner k) us
        → keep (λ u. eqb u.owner k) (pick (not t) (u ∷ keep (λ u. other j u.owner) us) (keep (λ u. other j u.owner) us)) ≡ pick v (u ∷ keep (λ u. eqb u.owner k) us) (keep (λ u. eqb u.owner k) us)
    go true p true q h = absurd (eqb-false j k n (sym (eqb-true u.owner j p) ∙ eqb-true u.owner k q))
    go true p false q h = h
    go false p true q h = rw q (ap (λ (x : List Use). u ∷ x) h)
    go false p false q h = rw q h

shape-drop : (j : ℕ) (rs : List BoxRec) → ((k : ℕ) → Shaped k (uses_of k rs)) → (k : ℕ) → Shaped k (uses_of k (drop_owner j rs))
shape-drop j rs s k = go (eqb j k) refl
  where
    out : uses_of k (drop_owner j rs) ≡ keep (λ u. eqb u.owner k) (keep (λ u. other j u.owner) (uses rs))
    out = rw (uses-drop j rs)

    go : (t : Bool) → eqb j k ≡ t → Shaped k (uses_of k (drop_owner j rs))
    go true q = let e : k ≡ j = sym (eqb-true j k q) in ([], [], out ∙ rw e (keep_out j (uses rs)))
    go false q = ((s k).0, (s k).1, out ∙ keep-beside j k q (uses rs) ∙ (s k).2)

unowned-drop : (j : ℕ) (rs : List BoxRec) → Unowned j (drop_owner j rs)
unowned-drop j [] = refl
unowned-drop j (r ∷ rs) = go (eqb r.owner j) refl (unowned-drop j rs)
  where
    go : (t : Bool) → eqb r.owner j ≡ t → Unowned j (drop_owner j rs) → Unowned j (pick (not t) (r ∷ drop_owner j rs) (drop_owner j rs))
    go true q h = h
    go false q h = rw q (omega arith)

-- ---- a transaction enters

pub ok-insert : (e : Entry) (ins outs : List ℕ) (t : Tables) → pooled e.id t.entries ≡ false → Ok t → Ok (insert_tx e ins outs t)
ok-insert e ins outs t n o = record {
  order = insert-order weight_of key_of e t.entries absent o.order;
  owners = λ k h. owned k (rw (count-insert weight_of key_of k e t.entries) at h);
  shape = shape-enter e.id ins outs t.boxes (o.owners e.id absent) o.shape;
  live = one-live-enter e.id ins outs t.boxes o.live;
}
  where
    absent : count e.id (map key_of t.entries) ≡ 0
    absent = not-pooled e.id t.entries n

    owned : (k : ℕ) → count k (e.id ∷ map key_of t.entries) ≡ 0 → Unowned k (enter_tx e.id ins outs t.boxes)
    owned k h = unowned-enter e.id ins outs t.boxes k (absent-head k e.id (map key_of t.entries) h) (o.owners k (absent-tail k e.id (map key_of t.entries) h))

-- ---- a transaction leaves

count-beside : (j k : ℕ) → eqb j k ≡ false → (es : List Entry) → count k (map key_of (without key_of j es)) ≡ count k (map key_of es)
count-beside j k n [] = refl
count-beside j k n (e ∷ es) = go (eqb e.id j) refl (count-beside j k n es)
  where
    go : (t : Bool) → eqb e.id j ≡ t → count k (map key_of (without key_of j es)) ≡ count k (map key_of es) → count k (map key_of (pick t es (e ∷ without key_of j es))) ≡ count k (map key_of (e ∷ es))
    go true q h = let z : eqb e.id k ≡ false = rw (eqb-true e.id j q) n in rw z (omega arith)
    go false q h = omega arith

pub ok-remove : (j : ℕ) (t : Tables) → Ok t → Ok (remove_tx j t)
ok-remove j t o = go (pooled j t.entries)
  where
    owned : (k : ℕ) → count k (map key_of (without key_of j t.entries)) ≡ 0 → Unowned k (drop_owner j t.boxes)
    owned k h = both (eqb j k) refl
      where
        both : (u : Bool) → eqb j k ≡ u → Unowned k (drop_owner j t.boxes)
        both true q = rw (← eqb-true j k q) (unowned-drop j t.boxes)
        both false q =
            let z : Unowned k t.boxes = o.owners k (sym (count-beside j k q t.entries) ∙ h) in
            omega (arith, count-map-keep (λ (r : BoxRec). r.owner) (λ r. other j r.owner) k t.boxes)

    go : (p : Bool) → Ok (pick p (record { entries = without key_of j t.entries; boxes = drop_owner j t.boxes }) t)
    go true = record { order = without-order weight_of key_of j t.entries o.order; owners = owned; shape = shape-drop j t.boxes o.shape; live = one-live-drop j t.boxes o.live }
    go false = o

pub ok-remove-all : (ks : List ℕ) (t : Tables) → Ok t → Ok (remove_all ks t)
ok-remove-all [] t o = o
ok-remove-all (k ∷ ks) t o = ok-remove-all ks (remove_tx k t) (ok-remove k t o)

-- ---- the lowest leaves: as one that is removed

pooled-last : (x : Entry) (xs : List Entry) → pooled (last x xs).id (x ∷ xs) ≡ true
pooled-last x [] = rw (eq-eqb x.id x.id refl)
pooled-last x (y ∷ ys) = go (eqb x.id (last y ys).id) (pooled-last y ys)
  where
    go : (t : Bool) → pooled (last y ys).id (y ∷ ys) ≡ true → pick t true (pooled (last y ys).id (y ∷ ys)) ≡ true
    go true h = refl
    go false h = h

pub low-remove : (t : Tables) → Ok t → 0 < length t.entries → drop_low t ≡ remove_tx (lowest t).id t
low-remove t o h = go t.entries o.order.once h
  where
    go : (es : List Entry) → Once (map key_of es) → 0 < length es
        → ◌≡◌ {A = Tables} (record { entries = drop_last es; boxes = drop_owner (last nobody es).id t.boxes })
        (pick (pooled (last nobody es).id es) (record { entries = without key_of (last nobody es).id es; boxes = drop_owner (last nobody es).id t.boxes }) (record { entries = es; boxes = t.boxes }))
    go [] u h = absurd (not-suc-le-zero h)
    go (x ∷ xs) u h =
        rw (pooled-last x xs)
        (ap (λ (l : List Entry). record { entries = l; boxes = drop_owner (last x xs).id t.boxes }) (last_rest key_of x xs u ∙ sym (without-rest key_of (last x xs).id (x ∷ xs) u)))

pub ok-low : (t : Tables) → Ok t → 0 < length t.entries → Ok (drop_low t)
ok-low t o h = rw (low-remove t o h) (ok-remove (lowest t).id t o)

ok-trim : (f n : ℕ) (t : Tables) → Ok t → Ok (trim f n t)
ok-trim zero n t o = o
ok-trim (suc f) n t o = go (leb (length t.entries) n) refl (ok-trim f n (drop_low t))
  where
    go : (u : Bool) → leb (length t.entries) n ≡ u → (Ok (drop_low t) → Ok (trim f n (drop_low t))) → Ok (pick u t (trim f n (drop_low t)))
    go true q ih = o
    go false q ih = let h = leb-false (length t.entries) n q in ih (ok-low t o (omega arith))

pub ok-evict : (n : ℕ) (t : Tables) → Ok t → Ok (evict n t)
ok-evict n t o = ok-trim (length t.entries) n t o

-- ---- entries change, and their ids stay: credits and stamps

pub ok-entries : (es : List Entry) (t : Tables) → EntriesInOrder es → ((k : ℕ) → count k (map key_of es) ≡ count k (map key_of t.entries)) → Ok t
    → Ok (record { entries = es; boxes = t.boxes })
ok-entries es t i h o = record { order = i; owners = λ k z. o.owners k (sym (h k) ∙ z); shape = o.shape; live = o.live }

credit-ids : (c j k : ℕ) (es : List Entry) → EntriesInOrder es → count k (map key_of (credit c j es)) ≡ count k (map key_of es)
credit-ids c j k es o =
    ap (λ (l : List Entry). count k (map key_of l)) (credit-move c j es o)
    ∙ count-sort weight_of key_of k (map (changed key_of (raised c) j) es)
    ∙ ap (count k) (same es)
  where
    one : (t : Bool) (e : Entry) → key_of (pick t (raised c e) e) ≡ key_of e
    one true e = refl
    one false e = refl

    same : (es : List Entry) → map key_of (map (changed key_of (raised c) j) es) ≡ map key_of es
    same [] = refl
    same (e ∷ es) = λ t. one (eqb e.id j) e t ∷ same es t

pub ok-credits : (c : ℕ) (ks : List ℕ) (t : Tables) → Ok t → Ok (record { entries = credits c ks t.entries; boxes = t.boxes })
ok-credits c [] t o = o
ok-credits c (k ∷ ks) t o =
    ok-credits c ks (record { entries = credit c k t.entries; boxes = t.boxes })
    (ok-entries (credit c k t.entries) t (credit-order c k t.entries o.order) (λ j. credit-ids c k j t.entries o.order) o)

pub ok-stamped : (k : ℕ) (v : Option ℕ) (time : ℕ) (t : Tables) → Ok t → Ok (record { entries = stamped k v time t.entries; boxes = t.boxes })
ok-stamped k v time t o =
    ok-entries (stamped k v time t.entries) t (stamp-order k v time t.entries o.order) (λ j. ap (count j) (stamp-view k v time key_of (λ e. refl) t.entries)) o
