-- The ids that an admission's outcome counts have their places in the answer buffer: on any tables it counts no more than the buffer has, and on tables
-- that a start and calls left, where the buffer has a place for each pooled transaction and one more, it counts every id that is to be written.
use Rattle.std.specs.Prelude.{ℕ, zero, suc, ◌+◌, ◌≤◌, ◌≡◌, refl, Bool, true, false, ◌&&◌, ◌||◌, eqb, leb, ltb, length}
use Rattle.std.proofs.Common.{sym, ap, ◌∙◌, arith, length-append, eq-eqb, eqb-true}
use mathlib.Core.List.{List, [], ◌∷◌, ◌++◌, map}
use Rattle.std.proofs.lemmas.Bool.{eqb-false}
use Rattle.words.specs.Lists.{pick, count, flat, Once, once-head, once-tail, count-append, absent-head, absent-tail}
use Rattle.words.specs.Find.{without, found, put_back}
use Rattle.pool_types.specs.declared.MempoolConfig.{MempoolConfig}
use Rattle.pool_types.specs.declared.Submission.{Submission}
use Rattle.pool_types.specs.Outcomes.{Outcome, refused, done, wrote, needed, candidate, ended, missing, invalid, valid, number, said, entry, none, written_of}
use Rattle.arguments.specs.Arguments.{fee_of}
use Rattle.entries.specs.Entries.{Entry, weight_of, key_of, insert_by, pooled, raised, credit}
use Rattle.entries.specs.Order.{length-insert}
use Rattle.entries.specs.InOrder.{not-pooled}
use Rattle.entries.specs.Laws.{length_without}
use Rattle.boxes.specs.Records.{BoxRec, Pair, same, index, lookup, parents, once, dedup, conflicts}
use Rattle.boxes.specs.Each.{Each}
use Rattle.boxes.specs.IndexLaws.{Unowned}
use Rattle.boxes.specs.Flat.{ids_of}
use Rattle.pool.specs.Pool.{Tables, insert_tx, remove_tx, remove_all, drop_low, lowest, trimmed, evicted, credits}
use Rattle.pool.specs.Ok.{Ok}
use Rattle.family.specs.Chains.{walked}
use Rattle.admit.specs.Admit.{Admitted, loses, crowded, newcomer, joined, settled, seated, contested, base_of, admit_spec}

-- the outcomes of an admission: no other refusal than 10, 29 and 30
unfoldable pub of_admission : Outcome → Bool
of_admission (refused j i) = eqb j 10 || (eqb j 29 || eqb j 30)
of_admission done = true
of_admission (wrote n) = true
of_admission needed = false
of_admission (candidate k) = false
of_admission (ended n) = false
of_admission (missing k) = false
of_admission (invalid k) = false
of_admission (valid k) = false
of_admission (number n) = false
of_admission (said t) = false
of_admission (entry k w b) = false
of_admission none = false

-- what holds of these holds of the outcome of an admission
module _ (P : Outcome → Type 0) (in_place : P done) (replaced : (n : ℕ) → P (wrote n)) (declined : (j i : ℕ) → (eqb j 10 || (eqb j 29 || eqb j 30)) ≡ true → P (refused j i)) where
  no : {A : Type 0} → false ≡ true → A
  no h = let z : ◌≡◌ {A = ℕ} 0 1 = cc in absurd (omega arith)

  pub admission-cases : (o : Outcome) → of_admission o ≡ true → P o
  unfolding of_admission
  admission-cases (refused j i) h = declined j i h
  admission-cases done h = in_place
  admission-cases (wrote n) h = replaced n
  admission-cases needed h = no h
  admission-cases (candidate k) h = no h
  admission-cases (ended n) h = no h
  admission-cases (missing k) h = no h
  admission-cases (invalid k) h = no h
  admission-cases (valid k) h = no h
  admission-cases (number n) h = no h
  admission-cases (said t) h = no h
  admission-cases (entry k w b) h = no h
  admission-cases none h = no h

picked : (P : Admitted → Type 0) (t : Bool) (x y : Admitted) → P x → P y → P (pick t x y)
picked P true x y p q = p
picked P false x y p q = q

-- ---- an admission has five outcomes, and the counts in them have room

module _ (P : Outcome → Type 0) (room : ℕ) (lost : (n : ℕ) → n ≤ room → P (refused 29 n)) (full : P (refused 30 0)) (in_place : P done) (replaced : (n : ℕ) → n ≤ room → P (wrote n)) where
  settled-outcome : (capacity : ℕ) (ks : List ℕ) (t : Tables) → P (settled room capacity ks t).outcome
  unfolding settled
  settled-outcome capacity [] t = in_place
  settled-outcome capacity (k ∷ ks) t = replaced _ (omega arith)

  pub admit-outcome : (visits : ℕ) (g : MempoolConfig) (t : Tables) (a : Submission) (c : ℕ) (ins outs : List ℕ) → P (refused 10 0) → P (admit_spec visits room g t a c ins outs).outcome
  unfolding admit_spec contested seated
  admit-outcome visits g t a c ins outs low =
      picked (λ d. P d.outcome) (ltb (fee_of outs) g.min_fee) _ _ low
      (picked (λ d. P d.outcome) (loses _ _ t.entries) _ _ (lost _ (omega arith))
      (picked (λ d. P d.outcome) (crowded g.capacity _ _) _ _ full (settled-outcome g.capacity _ _)))

-- ---- conflicts are distinct

once-one : (k : ℕ) (seen : List ℕ) → Once seen → Once (once k seen)
once-one k seen o = go (eqb (count k seen) 0) refl
  where
    one : (j : ℕ) (t : Bool) → eqb k j ≡ t → count k seen ≡ 0 → count j seen + (pick t 1 0 + 0) ≤ 1
    one j true q h = let e : k ≡ j = eqb-true k j q in let z : count j seen ≡ 0 = rw (← e) h in omega arith
    one j false q h = omega (arith, o j)

    go : (t : Bool) → eqb (count k seen) 0 ≡ t → Once (pick t (seen ++ (k ∷ [])) seen)
    go true q = λ j. omega (arith, count-append j seen (k ∷ []), one j (eqb k j) refl (eqb-true (count k seen) 0 q))
    go false q = o

once-dedup : (ks seen : List ℕ) → Once seen → Once (dedup ks seen)
once-dedup [] seen o = o
once-dedup (k ∷ ks) seen o = once-dedup ks (once k seen) (once-one k seen o)

pub conflicts-once : (ps : List Pair) (ins : List ℕ) → Once (conflicts ps ins)
conflicts-once ps ins = once-dedup (flat (lookup ps) ins) [] (λ k. omega arith)

-- ---- what holds of each record's owner holds of each conflict

module _ (P : ℕ → Type 0) where
  each_both : (a b : List ℕ) → Each P a → Each P b → Each P (a ++ b)
  each_both [] b p q = q
  each_both (x ∷ a) b p q = (p.0, each_both a b p.1 q)

  each_index : (o : Bool) (rs : List BoxRec) → Each (λ r. P r.owner) rs → Each (λ q. P q.id) (index o rs)
  each_index o [] p = tt
  each_index o (r ∷ rs) p = go (r.live && same o r.out) p.0 (each_index o rs p.1)
    where
      go : (t : Bool) → P r.owner → Each (λ q. P q.id) (index o rs) → Each (λ q. P q.id) (pick t (record { box = r.box; id = r.owner } ∷ index o rs) (index o rs))
      go true h ih = (h, ih)
      go false h ih = ih

  each-lookup : (b : ℕ) (ps : List Pair) → Each (λ q. P q.id) ps → Each P (lookup ps b)
  each-lookup b [] p = tt
  each-lookup b (q ∷ ps) p = go (eqb q.box b) p.0 (each-lookup b ps p.1)
    where
      go : (t : Bool) → P q.id → Each P (lookup ps b) → Each P (pick t (q.id ∷ []) (lookup ps b))
      go true h ih = (h, tt)
      go false h ih = ih

  each-flat : (ps : List Pair) → Each (λ q. P q.id) ps → (ins : List ℕ) → Each P (flat (lookup ps) ins)
  each-flat ps p [] = tt
  each-flat ps p (b ∷ ins) = each_both (lookup ps b) (flat (lookup ps) ins) (each-lookup b ps p) (each-flat ps p ins)

  each-dedup : (ks seen : List ℕ) → Each P ks → Each P seen → Each P (dedup ks seen)
  each-dedup [] seen p q = q
  each-dedup (k ∷ ks) seen p q = each-dedup ks (once k seen) p.1 (go (eqb (count k seen) 0))
    where
      go : (t : Bool) → Each P (pick t (seen ++ (k ∷ [])) seen)
      go true = each_both seen (k ∷ []) q (p.0, tt)
      go false = q

  pub each-conflict : (rs : List BoxRec) (ins : List ℕ) → Each (λ r. P r.owner) rs → Each P (conflicts (index false rs) ins)
  each-conflict rs ins p = each-dedup (flat (lookup (index false rs)) ins) [] (each-flat (index false rs) (each_index false rs p) ins) tt

-- .. so that each is pooled, where every record is a pooled transaction's
each-pooled : (es : List Entry) (rs : List BoxRec) → ((k : ℕ) → pooled k es ≡ false → Unowned k rs) → Each (λ r. pooled r.owner es ≡ true) rs
each-pooled es [] h = tt
each-pooled es (r ∷ rs) h = (go (pooled r.owner es) refl, each-pooled es rs (λ k q. absent-tail k r.owner (map (λ r. r.owner) rs) (h k q)))
  where
    go : (t : Bool) → pooled r.owner es ≡ t → t ≡ true
    go true q = refl
    go false q = sym (absent-head r.owner r.owner (map (λ r. r.owner) rs) (h r.owner q)) ∙ eq-eqb r.owner r.owner refl

pub conflicts-pooled : (t : Tables) (ins : List ℕ) → Ok t → Each (λ k. pooled k t.entries ≡ true) (conflicts (index false t.boxes) ins)
conflicts-pooled t ins o =
    each-conflict (λ k. pooled k t.entries ≡ true) t.boxes ins (each-pooled t.entries t.boxes (λ k q. o.owners k (not-pooled k t.entries q)))

-- ---- as many entries fewer as losers went

pooled-beside : (k j : ℕ) → eqb j k ≡ false → (es : List Entry) → pooled j (without key_of k es) ≡ pooled j es
pooled-beside k j n [] = refl
pooled-beside k j n (e ∷ es) = go (eqb e.id k) refl (eqb e.id j) refl (pooled-beside k j n es)
  where
    go : (t : Bool) → eqb e.id k ≡ t → (u : Bool) → eqb e.id j ≡ u → pooled j (without key_of k es) ≡ pooled j es → pooled j (pick t es (e ∷ without key_of k es)) ≡ pick u true (pooled j es)
    go true p true q h = absurd (eqb-false j k n (sym (eqb-true e.id j q) ∙ eqb-true e.id k p))
    go true p false q h = refl
    go false p true q h = rw q
    go false p false q h = rw q h

module _ (k : ℕ) (t : Tables) (p : pooled k t.entries ≡ true) where
  gone : (remove_tx k t).entries ≡ without key_of k t.entries
  gone = rw p

  one_fewer : length (remove_tx k t).entries + 1 ≡ length t.entries
  one_fewer = ap (λ (es : List Entry). length es + 1) gone ∙ ap (λ (u : Bool). length (without key_of k t.entries) + pick u 1 0) (sym p) ∙ length_without k t.entries

  still-pooled : (ks : List ℕ) → count k ks ≡ 0 → Each (λ j. pooled j t.entries ≡ true) ks → Each (λ j. pooled j (remove_tx k t).entries ≡ true) ks
  still-pooled [] h q = tt
  still-pooled (j ∷ ks) h q =
      (ap (pooled j) gone ∙ pooled-beside k j (absent-head k j ks h) t.entries ∙ q.0, still-pooled ks (absent-tail k j ks h) q.1)

pub losers-gone : (ks : List ℕ) (t : Tables) → Once ks → Each (λ k. pooled k t.entries ≡ true) ks → length (remove_all ks t).entries + length ks ≡ length t.entries
losers-gone [] t o p = omega arith
losers-gone (k ∷ ks) t o p =
    omega (arith, one_fewer k t p.0, losers-gone ks (remove_tx k t) (once-tail k ks o) (still-pooled k t p.0 ks (once-head k ks o) p.1))

-- ---- one entry more with the newcomer

back-length : (c k : ℕ) (es ys : List Entry) → length (put_back insert_by (raised c) (found key_of k es) ys) ≡ length ys + pick (pooled k es) 1 0
back-length c k [] ys = omega arith
back-length c k (e ∷ es) ys = go (eqb e.id k) (back-length c k es ys)
  where
    go : (t : Bool) → length (put_back insert_by (raised c) (found key_of k es) ys) ≡ length ys + pick (pooled k es) 1 0
        → length (put_back insert_by (raised c) (pick t (e ∷ []) (found key_of k es)) ys) ≡ length ys + pick (pick t true (pooled k es)) 1 0
    go true h = omega (arith, length-insert weight_of key_of (raised c e) ys)
    go false h = h

credits-length : (c : ℕ) (ks : List ℕ) (es : List Entry) → length (credits c ks es) ≡ length es
credits-length c [] es = refl
credits-length c (k ∷ ks) es = credits-length c ks (credit c k es) ∙ back-length c k es (without key_of k es) ∙ length_without k es

joined_length : (visits : ℕ) (e : Entry) (ins outs : List ℕ) (t : Tables) → length (joined visits e ins outs t).entries ≡ suc (length t.entries)
unfolding joined
joined_length visits e ins outs t =
    credits-length e.base (walked (parents (insert_tx e (ids_of 5 ins) (ids_of 7 outs) t).boxes) visits e.id) (insert_by e t.entries)
    ∙ length-insert weight_of key_of e t.entries

-- ---- no more are evicted than there are

trimmed-few : (f n : ℕ) (t : Tables) → length (trimmed f n t) ≤ f
trimmed-few zero n t = omega arith
trimmed-few (suc f) n t = go (leb (length t.entries) n) (trimmed-few f n (drop_low t))
  where
    go : (u : Bool) → length (trimmed f n (drop_low t)) ≤ f → length (pick u [] ((lowest t).id ∷ trimmed f n (drop_low t))) ≤ suc f
    go true h = omega arith
    go false h = omega arith

-- ---- the ids that a submission writes, conflicts and evicted, are at most as many as the pooled and the newcomer

module _ (visits capacity : ℕ) (e : Entry) (ins outs ks : List ℕ) (t : Tables) (o : Once ks) (p : Each (λ k. pooled k t.entries ≡ true) ks) where
  pub written-few : length ks + length (evicted capacity (joined visits e ins outs (remove_all ks t))) ≤ length t.entries + 1
  written-few =
      let u : Tables = joined visits e ins outs (remove_all ks t) in
      omega (arith, losers-gone ks t o p, joined_length visits e ins outs (remove_all ks t), trimmed-few (length u.entries) capacity u)

  pub losers-few : length ks ≤ length t.entries
  losers-few = omega (arith, losers-gone ks t o p)

-- ---- so every id that is to be written is counted

record Tells (d : Admitted) : Type 0 where
  is : written_of d.outcome ≡ length d.written

-- whichever of the two lists stands first
settled-tells : (room capacity : ℕ) (ks : List ℕ) (t : Tables) → length ks + length (evicted capacity t) ≤ room → Tells (settled room capacity ks t)
unfolding settled written_of
settled-tells room capacity [] t h = record { is = refl }
settled-tells room capacity (k ∷ ks) t h = record { is = omega (arith, length-append (k ∷ ks) (evicted capacity t), length-append (evicted capacity t) (k ∷ ks)) }

contested-tells : (visits room capacity : ℕ) (e : Entry) (ins outs ks : List ℕ) (t : Tables) → Once ks → Each (λ k. pooled k t.entries ≡ true) ks → length t.entries + 1 ≤ room
    → Tells (contested visits room capacity e ins outs ks t)
unfolding contested seated written_of
contested-tells visits room capacity e ins outs ks t o p h =
    let f = written-few visits capacity e ins outs ks t o p in
    picked Tells (loses e.base ks t.entries) _ _ (record { is = omega (arith, losers-few visits capacity e ins outs ks t o p) })
    (picked Tells (crowded capacity e.base (remove_all ks t).entries) _ _ (record { is = refl })
    (settled-tells room capacity ks (joined visits e ins outs (remove_all ks t)) (omega arith)))

pub placed : (visits room : ℕ) (g : MempoolConfig) (t : Tables) (a : Submission) (c : ℕ) (ins outs : List ℕ) → Ok t → length t.entries + 1 ≤ room
    → written_of (admit_spec visits room g t a c ins outs).outcome ≡ length (admit_spec visits room g t a c ins outs).written
unfolding admit_spec written_of
placed visits room g t a c ins outs o h =
    (picked Tells (ltb (fee_of outs) g.min_fee) _ _ (record { is = refl })
    (contested-tells visits room g.capacity (newcomer a c (base_of g a c outs) ins outs) ins outs (conflicts (index false t.boxes) (ids_of 5 ins)) t
    (conflicts-once (index false t.boxes) (ids_of 5 ins)) (conflicts-pooled t (ids_of 5 ins) o) h)).is
