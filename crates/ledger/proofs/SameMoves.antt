-- A walk's credits and the eviction of the lowest keep the agreement.
use Rattle.std.specs.Prelude.{ℕ, zero, suc, ◌+◌, ◌<◌, ◌≡◌, refl, Bool, true, false, List, [], ◌∷◌, map, eqb, leb, length}
use Rattle.std.proofs.Common.{sym, ap, subst, ◌∙◌, arith, leb-false}
use Rattle.std.proofs.lemmas.Simd.{map-map}
use Rattle.std.proofs.lemmas.List.{length-map}
use Rattle.words.specs.Lists.{pick, flat}
use Rattle.words.specs.Find.{last, last_view}
use Rattle.words.specs.Sums.{capped, total}
use Rattle.entries.specs.Entries.{Entry, key_of, raised, credit}
use Rattle.entries.specs.Order.{sort_on, length-sort, resort}
use Rattle.entries.specs.Moves.{changed, credit-move}
use Rattle.boxes.specs.Records.{lookup, once, parents}
use Rattle.pool.specs.Pool.{Tables, remove_tx, nobody, lowest, drop_low, trim, evict, credits}
use Rattle.pool.specs.Ok.{low-remove}
use Rattle.family.specs.Family.{propagated}
use Rattle.family.specs.Chains.{walked}
use Rattle.ledger.specs.Book.{Tx, Book, book, tx_weight, leaves, credit_tx, credits_to, parents_in, walks, lowest_id, trims, evicts}
use Rattle.ledger.proofs.Same.{Brief, brief_of, view_of, uses_in, SameBook}
use Rattle.ledger.proofs.Uses.{ids, inputs-in-book}
use Rattle.ledger.proofs.Views.{sort-view, lowest-last, sort_txs}
use Rattle.ledger.proofs.SameLaws.{pool-order, same_ok, same-remove}

abbrev weighs : Brief → ℕ
weighs x = x.weight

abbrev named : Brief → ℕ
named x = x.id

-- ---- a walk's credits: each is added to a weight that is capped, and the book adds them all and caps once

abbrev raise : ℕ → ℕ → Brief → Brief
raise c k x = record { id = x.id; weight = pick (eqb x.id k) (capped (x.weight + c)) x.weight; base = x.base }

brief-raise : (c k : ℕ) (es : List Entry) → map brief_of (map (changed key_of (raised c) k) es) ≡ map (raise c k) (map brief_of es)
brief-raise c k [] = refl
brief-raise c k (e ∷ es) = λ i. go (eqb e.id k) i ∷ brief-raise c k es i
  where
    go : (t : Bool) → brief_of (pick t (raised c e) e) ≡ record { id = e.id; weight = pick t (capped (e.weight + c)) e.weight; base = e.base }
    go true = refl
    go false = refl

view-raise : (c k : ℕ) (ts : List Tx) → map view_of (map (credit_tx c k) ts) ≡ map (raise c k) (map view_of ts)
unfolding tx_weight
view-raise c k [] = refl
view-raise c k (t ∷ ts) = λ i. record { id = t.id; weight = go (eqb t.id k) i; base = t.base } ∷ view-raise c k ts i
  where
    go : (b : Bool) → capped (t.base + total (pick b (c ∷ t.credits) t.credits)) ≡ pick b (capped (capped (t.base + total t.credits) + c)) (capped (t.base + total t.credits))
    go true = omega arith
    go false = refl

ids-credit : (c k : ℕ) (ts : List Tx) → ids (map (credit_tx c k) ts) ≡ ids ts
ids-credit c k [] = refl
ids-credit c k (t ∷ ts) = ap (λ (l : List ℕ). t.id ∷ l) (ids-credit c k ts)

uses-credit : (c k : ℕ) (ts : List Tx) → uses_in (map (credit_tx c k) ts) ≡ uses_in ts
uses-credit c k [] = refl
uses-credit c k (t ∷ ts) = rw (uses-credit c k ts)

same-credit : (c k : ℕ) (t : Tables) (b : Book) → SameBook t b → SameBook (record { entries = credit c k t.entries; boxes = t.boxes }) (book (map (credit_tx c k) b.txs) b.spenders b.producers)
same-credit c k t b s =
    record {
      once = λ j. rw (ids-credit c k b.txs) (s.once j);
      entries =
          ap (map brief_of) (credit-move c k t.entries (pool-order t b s))
          ∙ sort-view brief_of weighs named (map (changed key_of (raised c) k) t.entries)
          ∙ ap (sort_on weighs named) (brief-raise c k t.entries)
          ∙ ap (λ es. sort_on weighs named (map (raise c k) es)) s.entries
          ∙ resort weighs named (raise c k) (λ x. refl) (map view_of b.txs) (λ j. rw (map-map named view_of b.txs) (s.once j))
          ∙ ap (sort_on weighs named) (sym (view-raise c k b.txs));
      boxes = s.boxes ∙ sym (uses-credit c k b.txs);
      spenders = s.spenders;
      producers = s.producers;
      lone-in = s.lone-in;
      lone-out = s.lone-out;
    }

pub same-credits : (c : ℕ) (ks : List ℕ) (t : Tables) (b : Book) → SameBook t b → SameBook (record { entries = credits c ks t.entries; boxes = t.boxes }) (credits_to c ks b)
same-credits c [] t b s = s
same-credits c (k ∷ ks) t b s =
    same-credits c ks (record { entries = credit c k t.entries; boxes = t.boxes }) (book (map (credit_tx c k) b.txs) b.spenders b.producers) (same-credit c k t b s)

-- both walk over the same parents
pub parents-same : (t : Tables) (b : Book) → SameBook t b → parents t.boxes ≡ parents_in b
parents-same t b s = λ i k. flat (lookup (s.producers i)) (inputs-in-book k t.boxes b.txs s.boxes s.once i)

pub same-propagated : (visits c k : ℕ) (t : Tables) (b : Book) → SameBook t b → SameBook (propagated visits c k t) (walks visits c k b)
unfolding walks
same-propagated visits c k t b s = rw (ap (λ f. walked f visits k) (parents-same t b s)) (same-credits c (walked (parents_in b) visits k) t b s)

-- ---- eviction: the last in order is the lowest of the book

pub size_same : (t : Tables) (b : Book) → SameBook t b → length t.entries ≡ length b.txs
size_same t b s = sym (length-map t.entries brief_of) ∙ ap length s.entries ∙ length-sort weighs named (map view_of b.txs) ∙ length-map b.txs view_of

abbrev no_tx : Tx
no_tx = record { id = 0; base = 0; ins = []; outs = []; credits = [] }

pub lowest-same : (t : Tables) (b : Book) → SameBook t b → (lowest t).id ≡ lowest_id b.txs
unfolding tx_weight
lowest-same t b s =
    ap named (last_view brief_of nobody t.entries)
    ∙ ap (λ es. (last (brief_of nobody) es).id) (s.entries ∙ sym (sort-view view_of weighs named b.txs))
    ∙ ap named (sym (last_view view_of no_tx (sort_txs b.txs)))
    ∙ lowest-last no_tx b.txs refl

same_low : (t : Tables) (b : Book) → SameBook t b → 0 < length t.entries → SameBook (drop_low t) (leaves (lowest_id b.txs) b)
same_low t b s h = rw (low-remove t (same_ok t b s) h) (subst (λ k. SameBook (remove_tx (lowest t).id t) (leaves k b)) (lowest-same t b s) (same-remove (lowest t).id t b s))

same-trim : (f n : ℕ) (t : Tables) (b : Book) → SameBook t b → SameBook (trim f n t) (trims f n b)
same-trim zero n t b s = s
same-trim (suc f) n t b s = rw (size_same t b s) (go (leb (length b.txs) n) refl (same-trim f n (drop_low t) (leaves (lowest_id b.txs) b)))
  where
    go : (u : Bool) → leb (length b.txs) n ≡ u → (SameBook (drop_low t) (leaves (lowest_id b.txs) b) → SameBook (trim f n (drop_low t)) (trims f n (leaves (lowest_id b.txs) b)))
        → SameBook (pick u t (trim f n (drop_low t))) (pick u b (trims f n (leaves (lowest_id b.txs) b)))
    go true q ih = s
    go false q ih = let h = leb-false (length b.txs) n q in ih (same_low t b s (omega (arith, size_same t b s)))

pub same-evict : (n : ℕ) (t : Tables) (b : Book) → SameBook t b → SameBook (evict n t) (evicts n b)
unfolding evicts
same-evict n t b s = rw (size_same t b s) (same-trim (length b.txs) n t b s)
