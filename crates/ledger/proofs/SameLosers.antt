-- Losers leave the pool and the book: the pool removes each once, as conflicts list them, the book as often as an input names one. Leaving is a filter,
-- so that repeats and order make no difference.
use Rattle.std.specs.Prelude.{ℕ, zero, suc, ◌+◌, min, ◌≡◌, refl, Bool, true, false, not, List, [], ◌∷◌, ◌++◌, eqb}
use Rattle.std.proofs.Common.{sym, ap, subst, ◌∙◌, arith, ne_eqb, eqb-true}
use Rattle.std.proofs.lemmas.Bool.{eqb-false}
use Rattle.words.specs.Lists.{pick, keep, other, count, flat, count-append}
use Rattle.boxes.specs.Among.{eqb_comm}
use Rattle.boxes.specs.Records.{Pair, index, lookup, conflicts, once, dedup}
use Rattle.pool.specs.Pool.{Tables, remove_all}
use Rattle.ledger.specs.Book.{Tx, Book, book, leaves, all_leave, losers_leave}
use Rattle.ledger.proofs.Same.{SameBook}
use Rattle.ledger.proofs.SameLaws.{same-remove-all}

abbrev outside : List ℕ → ℕ → Bool
outside ks x = eqb (count x ks) 0

module _ {A : Type 0} (n : A → ℕ) where
  keep-outside : (k : ℕ) (ks : List ℕ) (l : List A) → keep (λ x. outside ks (n x)) (keep (λ x. other k (n x)) l) ≡ keep (λ x. outside (k ∷ ks) (n x)) l
  keep-outside k ks [] = refl
  keep-outside k ks (x ∷ l) = rw (eqb_comm (n x) k) (go (eqb k (n x)) (count (n x) ks) refl (keep-outside k ks l))
    where
      go : (t : Bool) (c : ℕ) → count (n x) ks ≡ c → keep (λ x. outside ks (n x)) (keep (λ x. other k (n x)) l) ≡ keep (λ x. outside (k ∷ ks) (n x)) l
          → keep (λ x. outside ks (n x)) (pick (not t) (x ∷ keep (λ x. other k (n x)) l) (keep (λ x. other k (n x)) l))
          ≡ pick (eqb (pick t 1 0 + c) 0) (x ∷ keep (λ x. outside (k ∷ ks) (n x)) l) (keep (λ x. outside (k ∷ ks) (n x)) l)
      go true c q ih = rw (ne_eqb (1 + c) 0 (λ z. omega arith)) ih
      go false zero q ih = rw q (ap (λ (r : List A). x ∷ r) ih)
      go false (suc c) q ih = rw (q, ne_eqb (0 + suc c) 0 (λ z. omega arith), ne_eqb (suc c) 0 (λ z. omega arith)) ih

  keep_same : (p q : ℕ → Bool) → ((x : ℕ) → p x ≡ q x) → (l : List A) → keep (λ x. p (n x)) l ≡ keep (λ x. q (n x)) l
  keep_same p q h [] = refl
  keep_same p q h (x ∷ l) = rw (h (n x), keep_same p q h l)

  keep-everyone : (l : List A) → l ≡ keep (λ x. outside [] (n x)) l
  keep-everyone [] = refl
  keep-everyone (x ∷ l) = ap (λ (r : List A). x ∷ r) (keep-everyone l)

abbrev filtered : (ℕ → Bool) → Book → Book
filtered p b = book (keep (λ t. p t.id) b.txs) (keep (λ q. p q.id) b.spenders) (keep (λ q. p q.id) b.producers)

leave-filter : (ks : List ℕ) (b : Book) → all_leave ks b ≡ filtered (outside ks) b
unfolding leaves
leave-filter [] b = λ i. book (keep-everyone (λ (t : Tx). t.id) b.txs i) (keep-everyone (λ (q : Pair). q.id) b.spenders i) (keep-everyone (λ (q : Pair). q.id) b.producers i)
leave-filter (k ∷ ks) b =
    leave-filter ks (leaves k b)
    ∙ λ i.
    book (keep-outside (λ (t : Tx). t.id) k ks b.txs i) (keep-outside (λ (q : Pair). q.id) k ks b.spenders i) (keep-outside (λ (q : Pair). q.id) k ks b.producers i)

-- each stands there once, and who stands there is the same
once-there : (x k : ℕ) (seen : List ℕ) → min 1 (count x (once k seen)) ≡ min 1 (count x (k ∷ seen))
once-there x k seen = go (eqb (count k seen) 0) refl (eqb k x) refl
  where
    go : (t : Bool) → eqb (count k seen) 0 ≡ t → (u : Bool) → eqb k x ≡ u → min 1 (count x (pick t (seen ++ (k ∷ [])) seen)) ≡ min 1 (pick u 1 0 + count x seen)
    go true q u r = rw (count-append x seen (k ∷ []), r) (omega arith)
    go false q true r = let z : count x seen ≡ 0 → ⊥ = λ e. eqb-false (count k seen) 0 q (rw (eqb-true k x r) e) in omega (arith, z)
    go false q false r = omega arith

dedup-there : (x : ℕ) (ks seen : List ℕ) → min 1 (count x (dedup ks seen)) ≡ min 1 (count x ks + count x seen)
dedup-there x [] seen = omega arith
dedup-there x (k ∷ ks) seen = omega (arith, dedup-there x ks (once k seen), once-there x k seen)

outside-dedup : (ks : List ℕ) (x : ℕ) → outside (dedup ks []) x ≡ outside ks x
outside-dedup ks x = go (count x (dedup ks [])) (count x ks) (dedup-there x ks [])
  where
    go : (a c : ℕ) → min 1 a ≡ min 1 (c + 0) → eqb a 0 ≡ eqb c 0
    go zero zero h = refl
    go zero (suc c) h = absurd (omega arith)
    go (suc a) zero h = absurd (omega arith)
    go (suc a) (suc c) h = rw (ne_eqb (suc a) 0 (λ z. omega arith), ne_eqb (suc c) 0 (λ z. omega arith))

leave-once : (ks : List ℕ) (b : Book) → all_leave (dedup ks []) b ≡ all_leave ks b
leave-once ks b =
    leave-filter (dedup ks []) b
    ∙ (λ i.
    book (keep_same (λ (t : Tx). t.id) (outside (dedup ks [])) (outside ks) (outside-dedup ks) b.txs i)
    (keep_same (λ (q : Pair). q.id) (outside (dedup ks [])) (outside ks) (outside-dedup ks) b.spenders i)
    (keep_same (λ (q : Pair). q.id) (outside (dedup ks [])) (outside ks) (outside-dedup ks) b.producers i))
    ∙ sym (leave-filter ks b)

pub same-losers : (ins : List ℕ) (t : Tables) (b : Book) → SameBook t b → SameBook (remove_all (conflicts (index false t.boxes) ins) t) (losers_leave ins b)
unfolding losers_leave
same-losers ins t b s =
    rw s.spenders
    (subst (SameBook (remove_all (conflicts b.spenders ins) t)) (leave-once (flat (lookup b.spenders) ins) b) (same-remove-all (conflicts b.spenders ins) t b s))
