-- Each change of the pool's tables keeps the agreement with the book's change: a transaction enters, one leaves, entries are stamped. And what agrees with
-- a book is a valid store.
use Rattle.std.specs.Prelude.{Option}
use Rattle.std.specs.Prelude.{ℕ, ◌+◌, ◌≤◌, ◌≡◌, refl, Bool, true, false, List, [], ◌∷◌, ◌++◌, map}
use Rattle.std.proofs.Common.{sym, ap, subst, ◌∙◌, arith}
use Rattle.std.proofs.lemmas.Simd.{map-map}
use Rattle.words.specs.Lists.{pick, keep, other, count, Once, once-cons, count-map-keep, keep-map}
use Rattle.words.specs.Find.{without, without-view}
use Rattle.words.specs.Sums.{cap, capped}
use Rattle.entries.specs.Entries.{Entry, key_of, pooled, insert_on, stamped}
use Rattle.entries.specs.Order.{sort_on, Sorted, sort_sorted, count-sort, keep-sort, insert-view}
use Rattle.entries.specs.InOrder.{EntriesInOrder, not-pooled, stamp-view}
use Rattle.entries.specs.Moves.{without-rest}
use Rattle.boxes.specs.Records.{Pair, index, drop_owner}
use Rattle.boxes.specs.IndexLaws.{Use, the, Lone, Unowned, enter_pairs, enter_pair, spenders-enter, producers-enter, index-drop, lone-enter, lone-drop, uses-enter, uses-drop}
use Rattle.pool.specs.Pool.{Tables, insert_tx, remove_tx, remove_all}
use Rattle.pool.specs.Laws.{away-none}
use Rattle.pool.specs.Ok.{Ok}
use Rattle.ledger.specs.Book.{Tx, Book, book, tx_weight, enters_pairs, leaves_pairs, enters, leaves, all_leave, ins_of, outs_of}
use Rattle.ledger.proofs.Same.{Brief, brief_of, view_of, SameBook}
use Rattle.ledger.proofs.Uses.{ids, keep-uses, own, unowned, drop-none}
use Rattle.ledger.proofs.Views.{sorted-view}

-- the order reads these of what both know
abbrev weighs : Brief → ℕ
weighs x = x.weight

abbrev named : Brief → ℕ
named x = x.id

pub same_none : SameBook (record { entries = []; boxes = [] }) (book [] [] [])
same_none = record { once = λ k. omega arith; entries = refl; boxes = refl; spenders = refl; producers = refl; lone-in = λ k. omega arith; lone-out = λ k. omega arith }

-- the pool's rule on an index is the book's
pairs-same : (k : ℕ) (bs : List ℕ) (ps : List Pair) → enter_pairs k bs ps ≡ enters_pairs k bs ps
pairs-same k [] ps = refl
pairs-same k (b ∷ bs) ps = pairs-same k bs (enter_pair k b ps)

-- ---- what is read of both

module _ (t : Tables) (b : Book) (s : SameBook t b) where
  -- each id stands in the pool as often as in the book
  pub count_same : (k : ℕ) → count k (map key_of t.entries) ≡ count k (ids b.txs)
  count_same k =
      ap (count k) (sym (map-map named brief_of t.entries))
      ∙ ap (λ es. count k (map named es)) s.entries
      ∙ count-sort weighs named k (map view_of b.txs)
      ∙ ap (count k) (map-map named view_of b.txs)

  pub pool-once : Once (map key_of t.entries)
  pool-once k = rw (count_same k) (s.once k)

  pub pool-order : EntriesInOrder t.entries
  pool-order =
      record {
        sorted = sorted-view brief_of weighs named t.entries (subst (Sorted weighs named) (sym s.entries) (sort_sorted weighs named (map view_of b.txs)));
        once = pool-once;
      }

  pub pool-unowned : (k : ℕ) → count k (map key_of t.entries) ≡ 0 → Unowned k t.boxes
  pool-unowned k h = unowned k t.boxes b.txs s.boxes (sym (count_same k) ∙ h)

  -- a store that agrees with a book is valid
  pub same_ok : Ok t
  same_ok =
      record {
        order = pool-order;
        owners = pool-unowned;
        shape = λ k. (ins_of k b.txs, outs_of k b.txs, own k t.boxes b.txs s.boxes s.once);
        live = live;
      }
    where
      live : (o : Bool) → Lone (index o t.boxes)
      live true = rw s.producers s.lone-out
      live false = rw s.spenders s.lone-in

-- ---- one enters

pub same-enter : (e : Entry) (ins outs : List ℕ) (t : Tables) (b : Book) → SameBook t b → pooled e.id t.entries ≡ false → e.weight ≡ e.base → e.base ≤ cap
    → SameBook (insert_tx e ins outs t) (enters e.id e.base ins outs b)
unfolding enters tx_weight
same-enter e ins outs t b s n w h =
    record {
      once = once-cons e.id (ids b.txs) (sym (count_same t b s e.id) ∙ not-pooled e.id t.entries n) s.once;
      entries = insert-view brief_of weighs named e t.entries ∙ λ i. insert_on weighs named (record { id = e.id; weight = q i; base = e.base }) (s.entries i);
      boxes = uses-enter e.id ins outs t.boxes ∙ ap (λ (us : List Use). us ++ (map (the false e.id) ins ++ map (the true e.id) outs)) s.boxes;
      spenders = spenders-enter e.id ins outs t.boxes ∙ pairs-same e.id ins (index false t.boxes) ∙ ap (enters_pairs e.id ins) s.spenders;
      producers = producers-enter e.id ins outs t.boxes ∙ pairs-same e.id outs (index true t.boxes) ∙ ap (enters_pairs e.id outs) s.producers;
      lone-in = subst Lone (pairs-same e.id ins b.spenders) (lone-enter e.id ins b.spenders s.lone-in);
      lone-out = subst Lone (pairs-same e.id outs b.producers) (lone-enter e.id outs b.producers s.lone-out);
    }
  where
    q : e.weight ≡ capped (e.base + 0)
    q = omega (arith, w, h)

-- ---- one leaves

gone : (k : ℕ) (t : Tables) (b : Book) → SameBook t b → SameBook (record { entries = without (λ e. e.id) k t.entries; boxes = drop_owner k t.boxes }) (leaves k b)
unfolding leaves
gone k t b s =
    record {
      once = λ j. omega (arith, count-map-keep (λ (x : Tx). x.id) (λ x. other k x.id) j b.txs, s.once j);
      entries =
          without-view brief_of named k t.entries
          ∙ without-rest named k (map brief_of t.entries) (λ j. rw (map-map named brief_of t.entries) (pool-once t b s j))
          ∙ ap (keep (λ x. other k x.id)) s.entries
          ∙ keep-sort weighs named (λ x. other k x.id) (map view_of b.txs)
          ∙ ap (sort_on weighs named) (keep-map view_of (λ x. other k x.id) b.txs);
      boxes = uses-drop k t.boxes ∙ ap (keep (λ u. other k u.owner)) s.boxes ∙ keep-uses (other k) b.txs;
      spenders = index-drop false k t.boxes ∙ ap (leaves_pairs k) s.spenders;
      producers = index-drop true k t.boxes ∙ ap (leaves_pairs k) s.producers;
      lone-in = lone-drop k b.spenders s.lone-in;
      lone-out = lone-drop k b.producers s.lone-out;
    }

-- one that is not pooled is not named in the book either, and nothing changes there
pub same-remove : (k : ℕ) (t : Tables) (b : Book) → SameBook t b → SameBook (remove_tx k t) (leaves k b)
same-remove k t b s = go (pooled k t.entries) refl
  where
    go : (p : Bool) → pooled k t.entries ≡ p → SameBook (pick p (record { entries = without (λ e. e.id) k t.entries; boxes = drop_owner k t.boxes }) t) (leaves k b)
    go true q = gone k t b s
    go false q =
        subst (λ (u : Tables). SameBook u (leaves k b))
        (λ i. record { entries = away-none k t.entries q i; boxes = drop-none k t.boxes (pool-unowned t b s k (not-pooled k t.entries q)) i })
        (gone k t b s)

pub same-remove-all : (ks : List ℕ) (t : Tables) (b : Book) → SameBook t b → SameBook (remove_all ks t) (all_leave ks b)
same-remove-all [] t b s = s
same-remove-all (k ∷ ks) t b s = same-remove-all ks (remove_tx k t) (leaves k b) (same-remove k t b s)

-- ---- entries are stamped: the book knows of no stamp

pub same-stamped : (k : ℕ) (v : Option ℕ) (time : ℕ) (t : Tables) (b : Book) → SameBook t b → SameBook (record { entries = stamped k v time t.entries; boxes = t.boxes }) b
same-stamped k v time t b s =
    record {
      once = s.once;
      entries = stamp-view k v time brief_of (λ e. refl) t.entries ∙ s.entries;
      boxes = s.boxes;
      spenders = s.spenders;
      producers = s.producers;
      lone-in = s.lone-in;
      lone-out = s.lone-out;
    }
