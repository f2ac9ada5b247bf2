-- What the agreement says, one reading after the other (document 01, "Demand 3": "Ids, bases, box ids and indexes are compared with the pool's, and
-- weights as demand 3 says"). The indexes are equal by definition (`SameBook`, `spenders` and `producers`).
use Rattle.std.specs.Prelude.{ℕ, ◌≤◌, ◌≡◌, refl, Bool, true, false, not, ◌&&◌, ◌||◌, List, [], ◌∷◌, map, eqb, length}
use Rattle.std.proofs.Common.{sym, ap, subst, ◌∙◌, arith, eq-eqb, eqb-true}
use Rattle.std.proofs.lemmas.Simd.{map-map}
use Rattle.words.specs.Lists.{pick, count, Once}
use Rattle.words.specs.Find.{found, found-view}
use Rattle.entries.specs.Entries.{Entry, weight_of, key_of, pooled}
use Rattle.entries.specs.InOrder.{EntriesInOrder, Strict, strict}
use Rattle.boxes.specs.Among.{among, among-cons}
use Rattle.boxes.specs.Records.{BoxRec, Pair, same, index, lookup, inputs_of, outputs_of}
use Rattle.pool.specs.Pool.{Tables}
use Rattle.ledger.specs.Book.{Tx, Book, tx_weight, ins_of, outs_of, in_book}
use Rattle.ledger.proofs.Same.{Brief, brief_of, view_of, SameBook}
use Rattle.ledger.proofs.Uses.{ids, inputs-in-book, outputs-in-book}
use Rattle.ledger.proofs.Views.{found-sort}
use Rattle.ledger.proofs.SameLaws.{count_same, pool-once, pool-order}
use Rattle.ledger.proofs.SameMoves.{size_same}

-- ---- an id is pooled, or in the book, where it stands among the ids

or-pick : (t u : Bool) → pick t true u ≡ (t || u)
or-pick true u = refl
or-pick false u = refl

pooled-among : (k : ℕ) (es : List Entry) → pooled k es ≡ among k (map key_of es)
pooled-among k [] = refl
pooled-among k (e ∷ es) = or-pick (eqb e.id k) (pooled k es) ∙ ap (λ u. eqb e.id k || u) (pooled-among k es) ∙ sym (among-cons k e.id (map key_of es))

book-among : (k : ℕ) (ts : List Tx) → in_book k ts ≡ among k (ids ts)
book-among k [] = refl
book-among k (t ∷ ts) = or-pick (eqb t.id k) (in_book k ts) ∙ ap (λ u. eqb t.id k || u) (book-among k ts) ∙ sym (among-cons k t.id (ids ts))

-- ---- an index names transactions that have the box

-- each pair's box stands in what f has of the pair's id
abbrev Reads : (ℕ → List ℕ) → List Pair → Type 0
Reads f [] = Unit {0}
Reads f (p ∷ ps) = (1 ≤ count p.box (f p.id)) × Reads f ps

reads_more : (f g : ℕ → List ℕ) → ((x k : ℕ) → count x (f k) ≤ count x (g k)) → (ps : List Pair) → Reads f ps → Reads g ps
reads_more f g h [] r = tt
reads_more f g h (p ∷ ps) r = (omega (arith, r.0, h p.box p.id), reads_more f g h ps r.1)

-- a transaction's inputs (`false`) or outputs (`true`)
abbrev side_of : Bool → ℕ → List BoxRec → List ℕ
side_of o k [] = []
side_of o k (r ∷ rs) = pick (eqb r.owner k && same o r.out) (r.box ∷ side_of o k rs) (side_of o k rs)

side-in : (k : ℕ) (rs : List BoxRec) → side_of false k rs ≡ inputs_of k rs
side-in k [] = refl
side-in k (r ∷ rs) = rw (side-in k rs)

side-out : (k : ℕ) (rs : List BoxRec) → side_of true k rs ≡ outputs_of k rs
side-out k [] = refl
side-out k (r ∷ rs) = rw (side-out k rs)

side-more : (o : Bool) (r : BoxRec) (rs : List BoxRec) (x k : ℕ) → count x (side_of o k rs) ≤ count x (side_of o k (r ∷ rs))
side-more o r rs x k = go (eqb r.owner k && same o r.out)
  where
    go : (t : Bool) → count x (side_of o k rs) ≤ count x (pick t (r.box ∷ side_of o k rs) (side_of o k rs))
    go true = omega arith
    go false = omega arith

index_reads : (o : Bool) (rs : List BoxRec) → Reads (λ k. side_of o k rs) (index o rs)
index_reads o [] = tt
index_reads o (r ∷ rs) = go r.live (same o r.out) refl (reads_more (λ k. side_of o k rs) (λ k. side_of o k (r ∷ rs)) (side-more o r rs) (index o rs) (index_reads o rs))
  where
    here : same o r.out ≡ true → 1 ≤ count r.box (side_of o r.owner (r ∷ rs))
    here q = rw (eq-eqb r.owner r.owner refl, q, eq-eqb r.box r.box refl) (omega arith)

    go : (l t : Bool) → same o r.out ≡ t → Reads (λ k. side_of o k (r ∷ rs)) (index o rs)
        → Reads (λ k. side_of o k (r ∷ rs)) (pick (l && t) (record { box = r.box; id = r.owner } ∷ index o rs) (index o rs))
    go true true q ih = (here q, ih)
    go true false q ih = ih
    go false t q ih = ih

ins-there : (x k : ℕ) (ts : List Tx) → 1 ≤ count x (ins_of k ts) → in_book k ts ≡ true
ins-there x k [] h = absurd (omega arith)
ins-there x k (t ∷ ts) h = go (eqb t.id k) (ins-there x k ts) h
  where
    go : (u : Bool) → (1 ≤ count x (ins_of k ts) → in_book k ts ≡ true) → 1 ≤ count x (pick u t.ins (ins_of k ts)) → pick u true (in_book k ts) ≡ true
    go true ih z = refl
    go false ih z = ih z

outs-there : (x k : ℕ) (ts : List Tx) → 1 ≤ count x (outs_of k ts) → in_book k ts ≡ true
outs-there x k [] h = absurd (omega arith)
outs-there x k (t ∷ ts) h = go (eqb t.id k) (outs-there x k ts) h
  where
    go : (u : Bool) → (1 ≤ count x (outs_of k ts) → in_book k ts ≡ true) → 1 ≤ count x (pick u t.outs (outs_of k ts)) → pick u true (in_book k ts) ≡ true
    go true ih z = refl
    go false ih z = ih z

-- every pair of an index names a transaction of the book that has the pair's box among its inputs, or among its outputs
abbrev pub Named : (ℕ → List Tx → List ℕ) → List Tx → List Pair → Type 0
Named f ts [] = Unit {0}
Named f ts (p ∷ ps) = (in_book p.id ts ≡ true) × (1 ≤ count p.box (f p.id ts)) × Named f ts ps

named-of : (f : ℕ → List Tx → List ℕ) (ts : List Tx) → ((x k : ℕ) → 1 ≤ count x (f k ts) → in_book k ts ≡ true) → (ps : List Pair) → Reads (λ k. f k ts) ps → Named f ts ps
named-of f ts h [] r = tt
named-of f ts h (p ∷ ps) r = (h p.box p.id r.0, r.0, named-of f ts h ps r.1)

-- .. so what a lookup finds is such a one
pub named-found : (f : ℕ → List Tx → List ℕ) (ts : List Tx) (ps : List Pair) (x k : ℕ) → Named f ts ps → lookup ps x ≡ k ∷ [] → (in_book k ts ≡ true) × (1 ≤ count x (f k ts))
named-found f ts [] x k n e = let z : ◌≡◌ {A = ℕ} 0 1 = cc in absurd (omega arith)
named-found f ts (p ∷ ps) x k n e = go (eqb p.box x) refl e (named-found f ts ps x k n.2)
  where
    go : (t : Bool) → eqb p.box x ≡ t → pick t (p.id ∷ []) (lookup ps x) ≡ k ∷ [] → (lookup ps x ≡ k ∷ [] → (in_book k ts ≡ true) × (1 ≤ count x (f k ts))) → (in_book k ts ≡ true) × (1 ≤ count x (f k ts))
    go true q h ih = let z : p.id ≡ k = cc in let y : p.box ≡ x = eqb-true p.box x q in (rw z at n.0, rw (z, y) at n.1)
    go false q h ih = ih h

-- ---- the readings

module _ (t : Tables) (b : Book) (s : SameBook t b) where
  pub ids-once : Once (map key_of t.entries)
  ids-once = pool-once t b s

  -- entries in priority order: none is ahead of one before it, and each is ahead of the next
  pub in_order_at : EntriesInOrder t.entries
  in_order_at = pool-order t b s

  pub in-strict-order : Strict weight_of key_of t.entries
  in-strict-order = strict weight_of key_of t.entries in_order_at

  pub length-same : length t.entries ≡ length b.txs
  length-same = size_same t b s

  pub pooled-same : (k : ℕ) → pooled k t.entries ≡ in_book k b.txs
  pooled-same k = pooled-among k t.entries ∙ ap (λ n. not (eqb n 0)) (count_same t b s k) ∙ sym (book-among k b.txs)

  -- ---- weights and bases

  pub found-same : (k : ℕ) → map brief_of (found (λ e. e.id) k t.entries) ≡ map view_of (found (λ x. x.id) k b.txs)
  found-same k =
      found-view brief_of (λ x. x.id) k t.entries
      ∙ ap (found (λ x. x.id) k) s.entries
      ∙ found-sort (λ x. x.weight) (λ x. x.id) k (map view_of b.txs) (λ j. rw (map-map (λ (x : Brief). x.id) view_of b.txs) (s.once j))
      ∙ sym (found-view view_of (λ x. x.id) k b.txs)

  pub weights-same : (k : ℕ) → map (λ e. e.weight) (found (λ e. e.id) k t.entries) ≡ map tx_weight (found (λ x. x.id) k b.txs)
  weights-same k =
      sym (map-map (λ (x : Brief). x.weight) brief_of (found (λ e. e.id) k t.entries))
      ∙ ap (map (λ (x : Brief). x.weight)) (found-same k)
      ∙ map-map (λ (x : Brief). x.weight) view_of (found (λ x. x.id) k b.txs)

  pub bases-same : (k : ℕ) → map (λ e. e.base) (found (λ e. e.id) k t.entries) ≡ map (λ x. x.base) (found (λ x. x.id) k b.txs)
  bases-same k =
      sym (map-map (λ (x : Brief). x.base) brief_of (found (λ e. e.id) k t.entries))
      ∙ ap (map (λ (x : Brief). x.base)) (found-same k)
      ∙ map-map (λ (x : Brief). x.base) view_of (found (λ x. x.id) k b.txs)

  -- ---- boxes

  pub inputs-same : (k : ℕ) → inputs_of k t.boxes ≡ ins_of k b.txs
  inputs-same k = inputs-in-book k t.boxes b.txs s.boxes s.once

  pub outputs-same : (k : ℕ) → outputs_of k t.boxes ≡ outs_of k b.txs
  outputs-same k = outputs-in-book k t.boxes b.txs s.boxes s.once

  pub named-spender : Named ins_of b.txs b.spenders
  named-spender =
      named-of ins_of b.txs (λ x k. ins-there x k b.txs) b.spenders
      (subst (λ f. Reads f b.spenders) all (subst (Reads (λ k. side_of false k t.boxes)) s.spenders (index_reads false t.boxes)))
    where
      all : ◌≡◌ {A = ℕ → List ℕ} (λ k. side_of false k t.boxes) (λ k. ins_of k b.txs)
      all = λ i k. (side-in k t.boxes ∙ inputs-same k) i

  pub named-producer : Named outs_of b.txs b.producers
  named-producer =
      named-of outs_of b.txs (λ x k. outs-there x k b.txs) b.producers
      (subst (λ f. Reads f b.producers) all (subst (Reads (λ k. side_of true k t.boxes)) s.producers (index_reads true t.boxes)))
    where
      all : ◌≡◌ {A = ℕ → List ℕ} (λ k. side_of true k t.boxes) (λ k. outs_of k b.txs)
      all = λ i k. (side-out k t.boxes ∙ outputs-same k) i
