-- What a walk's credits make of the weights: "adds the child's base (capped at 2^64−1)" at each visit comes to one sum that is capped once. An
-- entry's weight is its base and all its credits, or 2^64−1 where that is larger (entries' `raised-weight`); nothing else of an entry changes.
use Rattle.std.specs.Prelude.{ℕ, ◌+◌, ◌*◌, ◌≤◌, ◌≡◌, refl, ◌⊎◌, Bool, true, false, List, [], ◌∷◌, map, eqb}
use Rattle.std.proofs.Common.{sym, ap, ◌∙◌, inl, inr, zero-mul, add-mul, one-mul, zero-add, arith, eqb-true, eq-eqb}
use Rattle.std.proofs.lemmas.Bool.{eqb-false}
use Rattle.words.specs.Lists.{pick, count}
use Rattle.words.specs.Find.{found, without}
use Rattle.words.specs.Sums.{cap, capped}
use Rattle.entries.specs.Entries.{Entry, weight_of, key_of, ahead, insert_by, raised, credit}
use Rattle.entries.specs.InOrder.{EntriesInOrder, gone, credit-order}
use Rattle.pool.specs.Pool.{credits}
use Rattle.family.specs.Chains.{walked, over, chains, once-for-every-chain}

-- ---- one credit, on the entries: found by its id, taken out, raised, put back

abbrev at : ℕ → List Entry → List Entry
at k es = found key_of k es

abbrev off : ℕ → List Entry → List Entry
off k es = without key_of k es

-- what is found is nothing, or one entry of that id
abbrev Found : ℕ → List Entry → Type 0
Found k es = (at k es ≡ []) ⊎ ((e : Entry) × (at k es ≡ e ∷ []) × (e.id ≡ k))

found-is : (k : ℕ) (es : List Entry) → Found k es
found-is k [] = inl refl
found-is k (e ∷ es) = go (eqb e.id k) refl (found-is k es)
  where
    go : (t : Bool) → eqb e.id k ≡ t → Found k es → (pick t (e ∷ []) (at k es) ≡ []) ⊎ ((x : Entry) × (pick t (e ∷ []) (at k es) ≡ x ∷ []) × (x.id ≡ k))
    go true q h = inr (e, refl, eqb-true e.id k q)
    go false q h = h

absent : (k : ℕ) (es : List Entry) → count k (map key_of es) ≡ 0 → at k es ≡ []
absent k [] h = refl
absent k (e ∷ es) h = go (eqb e.id k) (absent k es) h
  where
    go : (t : Bool) → (count k (map key_of es) ≡ 0 → at k es ≡ []) → pick t 1 0 + count k (map key_of es) ≡ 0 → pick t (e ∷ []) (at k es) ≡ []
    go true ih q = absurd (omega arith)
    go false ih q = ih (omega arith)

off-other : (j k : ℕ) → eqb j k ≡ false → (es : List Entry) → at k (off j es) ≡ at k es
off-other j k n [] = refl
off-other j k n (e ∷ es) = go (eqb e.id j) refl (eqb e.id k) refl (off-other j k n es)
  where
    go : (t : Bool) → eqb e.id j ≡ t → (u : Bool) → eqb e.id k ≡ u → at k (off j es) ≡ at k es → at k (pick t es (e ∷ off j es)) ≡ pick u (e ∷ []) (at k es)
    go true p true q h = absurd (eqb-false j k n (sym (eqb-true e.id j p) ∙ eqb-true e.id k q))
    go true p false q h = refl
    go false p true q h = rw q
    go false p false q h = rw q h

insert-other : (k : ℕ) (x : Entry) → eqb x.id k ≡ false → (ys : List Entry) → at k (insert_by x ys) ≡ at k ys
insert-other k x n [] = rw n
insert-other k x n (y ∷ ys) = go (ahead y.weight y.id x.weight x.id) (eqb y.id k) refl (insert-other k x n ys)
  where
    go : (t u : Bool) → eqb y.id k ≡ u → at k (insert_by x ys) ≡ at k ys → at k (pick t (y ∷ insert_by x ys) (x ∷ y ∷ ys)) ≡ pick u (y ∷ []) (at k ys)
    go true true q h = rw q
    go true false q h = rw q h
    go false u q h = rw (n, q)

insert-same : (k : ℕ) (x : Entry) → eqb x.id k ≡ true → (ys : List Entry) → at k ys ≡ [] → at k (insert_by x ys) ≡ x ∷ []
insert-same k x n [] h = rw n
insert-same k x n (y ∷ ys) h = go (ahead y.weight y.id x.weight x.id) (eqb y.id k) refl (insert-same k x n ys) h
  where
    go : (t u : Bool) → eqb y.id k ≡ u → (at k ys ≡ [] → at k (insert_by x ys) ≡ x ∷ []) → pick u (y ∷ []) (at k ys) ≡ [] → at k (pick t (y ∷ insert_by x ys) (x ∷ y ∷ ys)) ≡ x ∷ []
    go t true q ih z = let z' : ◌≡◌ {A = ℕ} 0 1 = cc in absurd (omega arith)
    go true false q ih z = rw q (ih z)
    go false false q ih z = rw n

credit-other : (c j k : ℕ) (es : List Entry) → eqb j k ≡ false → at k (credit c j es) ≡ at k es
credit-other c j k es n = go (found-is j es)
  where
    go : Found j es → at k (credit c j es) ≡ at k es
    go (inl h) = rw h (off-other j k n es)
    go (inr (e, h, q)) = rw h (insert-other k (raised c e) (rw q n) (off j es) ∙ off-other j k n es)

credit-same : (c k : ℕ) (es : List Entry) → EntriesInOrder es → at k (credit c k es) ≡ map (raised c) (at k es)
credit-same c k es o = go (found-is k es)
  where
    none : at k (off k es) ≡ []
    none = absent k (off k es) (gone weight_of key_of k es o.once)

    go : Found k es → at k (credit c k es) ≡ map (raised c) (at k es)
    go (inl h) = rw h none
    go (inr (e, h, q)) = rw h (insert-same k (raised c e) (eq-eqb e.id k q) (off k es) none)

-- ---- credits add up, and the cap holds once

weighed : Entry → ℕ → Entry
weighed e w =
    record { id = e.id; weight = w; base = e.base; size = e.size; cost = e.cost; validation_cost = e.validation_cost; created = e.created; last_checked = e.last_checked; height_key = e.height_key; inputs = e.inputs }

raised-twice : (a b : ℕ) (e : Entry) → raised b (raised a e) ≡ raised (a + b) e
unfolding weighed
raised-twice a b e = ap (weighed e) sum
  where
    sum : capped (capped (e.weight + a) + b) ≡ capped (e.weight + (a + b))
    sum = omega arith

raised-none : (e : Entry) → e.weight ≤ cap → e ≡ raised 0 e
unfolding weighed
raised-none e h = ap (weighed e) sum
  where
    sum : e.weight ≡ capped (e.weight + 0)
    sum = omega arith

raised_all_twice : (a b : ℕ) (es : List Entry) → map (raised b) (map (raised a) es) ≡ map (raised (a + b)) es
raised_all_twice a b [] = refl
raised_all_twice a b (e ∷ es) = λ t. raised-twice a b e t ∷ raised_all_twice a b es t

-- weights are numbers of 64 bits
abbrev pub Low : List Entry → Type 0
Low [] = Unit {0}
Low (e ∷ es) = (e.weight ≤ cap) × Low es

low-none : (es : List Entry) → Low es → es ≡ map (raised 0) es
low-none [] h = refl
low-none (e ∷ es) h = λ t. raised-none e h.0 t ∷ low-none es h.1 t

low-raised : (c : ℕ) (es : List Entry) → Low (map (raised c) es)
low-raised c [] = tt
low-raised c (e ∷ es) = (omega arith, low-raised c es)

-- ---- the credits of a walk

-- The entry of id k is raised by c once for each time that k was visited, whatever stands between. So its weight is the smaller of 2^64−1 and
-- its weight before plus c times its visits.
pub credited : (c k : ℕ) (ks : List ℕ) (es : List Entry) → EntriesInOrder es → Low (found key_of k es)
    → found key_of k (credits c ks es) ≡ map (raised (count k ks * c)) (found key_of k es)
credited c k [] es o l = rw (zero-mul c) (low-none (at k es) l)
credited c k (j ∷ ks) es o l = go (eqb j k) refl (credited c k ks (credit c j es) (credit-order c j es o))
  where
    go : (t : Bool) → eqb j k ≡ t → (Low (at k (credit c j es)) → at k (credits c ks (credit c j es)) ≡ map (raised (count k ks * c)) (at k (credit c j es)))
        → at k (credits c ks (credit c j es)) ≡ map (raised ((pick t 1 0 + count k ks) * c)) (at k es)
    go true q ih =
        let same : at k (credit c j es) ≡ map (raised c) (at k es) = rw (eqb-true j k q) (credit-same c k es o) in
        ih (rw same (low-raised c (at k es))) ∙ rw same (raised_all_twice c (count k ks * c) (at k es) ∙ rw (add-mul 1 (count k ks) c, one-mul c))
    go false q ih =
        let same : at k (credit c j es) ≡ at k es = credit-other c j k es q in
        ih (rw same l) ∙ rw (same, zero-add (count k ks))

-- A walk that ended with no parent left credits once for every chain.
pub credited-for-chains : (f : ℕ → List ℕ) (b new c k : ℕ) (es : List Entry) → EntriesInOrder es → Low (found key_of k es) → over f b new ≡ []
    → found key_of k (credits c (walked f b new) es) ≡ map (raised (count k (chains f b new b) * c)) (found key_of k es)
credited-for-chains f b new c k es o l h = rw (← once-for-every-chain f b new h k) (credited c k (walked f b new) es o l)
