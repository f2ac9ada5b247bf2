-- What a walk grants in the book (document 01, "Credits to parents": a chain "credits the newcomer's base to the producer it ends at"): each transaction
-- gets the newcomer's base as often as the walk visits it, and where the walk ended with no parent left, that is once for every chain that ends there,
-- however long chains are counted.
use Rattle.std.specs.Prelude.{ℕ, zero, suc, ◌+◌, ◌-◌, ◌*◌, ◌≤◌, ◌≡◌, refl, Bool, true, false, List, [], ◌∷◌, ◌++◌, map, eqb, length, replicate}
use Rattle.std.proofs.Common.{sym, ap, ◌∙◌, append-nil, zero-add, suc-add, suc-ne-zero, zero-mul, suc-mul, arith, eqb-true}
use Rattle.words.specs.Lists.{pick, count}
use Rattle.words.specs.Find.{found}
use Rattle.words.specs.Sums.{capped, total}
use Rattle.boxes.specs.Among.{eqb_comm}
use Rattle.family.specs.Walk.{level, upto, upto-last, none_below}
use Rattle.family.specs.Chains.{walked, over, chains, level-lists-ends, no-longer-chain, once-for-every-chain}
use Rattle.ledger.specs.Book.{Tx, Book, book, tx_weight, credit_tx, credits_to, parents_in, walks}

-- ---- so many credits of c for each id

abbrev pub granted : ℕ → (ℕ → ℕ) → Tx → Tx
granted c n t = record { id = t.id; base = t.base; ins = t.ins; outs = t.outs; credits = replicate (n t.id) c ++ t.credits }

abbrev pub granted_all : ℕ → (ℕ → ℕ) → Book → Book
granted_all c n b = book (map (granted c n) b.txs) b.spenders b.producers

one_more : (n c : ℕ) (cs : List ℕ) → replicate n c ++ (c ∷ cs) ≡ c ∷ (replicate n c ++ cs)
one_more zero c cs = refl
one_more (suc n) c cs = ap (λ (l : List ℕ). c ∷ l) (one_more n c cs)

credit-more : (c k : ℕ) (ks : List ℕ) (ts : List Tx) → map (granted c (λ j. count j ks)) (map (credit_tx c k) ts) ≡ map (granted c (λ j. count j (k ∷ ks))) ts
credit-more c k ks [] = refl
credit-more c k ks (t ∷ ts) = λ i. record { id = t.id; base = t.base; ins = t.ins; outs = t.outs; credits = same i } ∷ credit-more c k ks ts i
  where
    go : (b : Bool) → replicate (count t.id ks) c ++ pick b (c ∷ t.credits) t.credits ≡ replicate (pick b 1 0 + count t.id ks) c ++ t.credits
    go true = let e : 1 + count t.id ks ≡ suc (count t.id ks) = omega arith in rw e (one_more (count t.id ks) c t.credits)
    go false = rw (zero-add (count t.id ks))

    same : replicate (count t.id ks) c ++ pick (eqb t.id k) (c ∷ t.credits) t.credits ≡ replicate (pick (eqb k t.id) 1 0 + count t.id ks) c ++ t.credits
    same = rw (eqb_comm t.id k) (go (eqb k t.id))

none-granted : (c : ℕ) (ts : List Tx) → ts ≡ map (granted c (λ j. 0)) ts
none-granted c [] = refl
none-granted c (t ∷ ts) = ap (λ (r : List Tx). t ∷ r) (none-granted c ts)

-- Each transaction is given c once for each time that its id is listed, and nothing else of the book changes.
pub credited-is : (c : ℕ) (ks : List ℕ) (b : Book) → credits_to c ks b ≡ granted_all c (λ j. count j ks) b
credited-is c [] b = λ i. book (none-granted c b.txs i) b.spenders b.producers
credited-is c (k ∷ ks) b = credited-is c ks (book (map (credit_tx c k) b.txs) b.spenders b.producers) ∙ λ i. book (credit-more c k ks b.txs i) b.spenders b.producers

-- the transaction of one id
granted-found : (c : ℕ) (n : ℕ → ℕ) (k : ℕ) (ts : List Tx)
    → map (λ t. t.credits) (found (λ t. t.id) k (map (granted c n) ts)) ≡ map (λ t. replicate (n k) c ++ t.credits) (found (λ t. t.id) k ts)
granted-found c n k [] = refl
granted-found c n k (t ∷ ts) = go (eqb t.id k) refl (granted-found c n k ts)
  where
    go : (b : Bool) → eqb t.id k ≡ b → map (λ t. t.credits) (found (λ t. t.id) k (map (granted c n) ts)) ≡ map (λ t. replicate (n k) c ++ t.credits) (found (λ t. t.id) k ts)
        → map (λ t. t.credits) (pick b (granted c n t ∷ []) (found (λ t. t.id) k (map (granted c n) ts))) ≡ map (λ t. replicate (n k) c ++ t.credits) (pick b (t ∷ []) (found (λ t. t.id) k ts))
    go true q ih = ap (λ j. (replicate (n j) c ++ t.credits) ∷ []) (eqb-true t.id k q)
    go false q ih = ih

pub credits-of : (c : ℕ) (ks : List ℕ) (b : Book) (k : ℕ)
    → map (λ t. t.credits) (found (λ t. t.id) k (credits_to c ks b).txs) ≡ map (λ t. replicate (count k ks) c ++ t.credits) (found (λ t. t.id) k b.txs)
credits-of c ks b k = rw (credited-is c ks b) (granted-found c (λ j. count j ks) k b.txs)

-- ---- chains end: after an empty level nothing comes, however far one counts

module _ (f : ℕ → List ℕ) where
  empty-on : (n d : ℕ) (st : List ℕ) → length (level d f st) ≡ 0 → length (level (n + d) f st) ≡ 0
  empty-on zero d st h = rw (zero-add d) h
  empty-on (suc n) d st h = rw (suc-add n d) (none_below f (n + d) st (empty-on n d st h))

  nothing : (l : List ℕ) → length l ≡ 0 → l ≡ []
  nothing [] h = refl
  nothing (x ∷ l) h = absurd (suc-ne-zero (length l) h)

  upto-end : (n d : ℕ) (st : List ℕ) → length (level d f st) ≡ 0 → upto (n + d) f st ≡ upto d f st
  upto-end zero d st h = rw (zero-add d)
  upto-end (suc n) d st h =
      rw (suc-add n d) (upto-last f (n + d) st ∙ rw (nothing (level (n + d) f st) (empty-on n d st h)) (append-nil (upto (n + d) f st) ∙ upto-end n d st h))

  pub chains-end : (visits new d : ℕ) → over f visits new ≡ [] → visits ≤ d → chains f visits new d ≡ chains f visits new visits
  chains-end visits new d e h =
      let none : length (level visits f (f new)) ≡ 0 = rw (level-lists-ends f visits new) (no-longer-chain f visits new e) in
      let n : d ≡ d - visits + visits = omega arith in
      ap (λ m. chains f visits new m) n ∙ upto-end (d - visits) visits (f new) none

-- ---- the walk of a newcomer

-- Where the walk ended with no parent left, it granted the newcomer's base c to each transaction once for every chain that ends there, of whatever length.
module _ (visits c k : ℕ) (b : Book) (ended : over (parents_in b) visits k ≡ []) (d : ℕ) (h : visits ≤ d) where
  visits-chains : (j : ℕ) → count j (walked (parents_in b) visits k) ≡ count j (chains (parents_in b) visits k d)
  visits-chains j = once-for-every-chain (parents_in b) visits k ended j ∙ ap (count j) (sym (chains-end (parents_in b) visits k d ended h))

  pub walk-for-every-chain : walks visits c k b ≡ granted_all c (λ j. count j (chains (parents_in b) visits k d)) b
  unfolding walks
  walk-for-every-chain = credited-is c (walked (parents_in b) visits k) b ∙ λ i. granted_all c (λ j. visits-chains j i) b

  pub credits-for-chains : (j : ℕ) → map (λ t. t.credits) (found (λ t. t.id) j (walks visits c k b).txs)
      ≡ map (λ t. replicate (count j (chains (parents_in b) visits k d)) c ++ t.credits) (found (λ t. t.id) j b.txs)
  credits-for-chains j = rw walk-for-every-chain (granted-found c (λ j. count j (chains (parents_in b) visits k d)) j b.txs)

-- ---- .. and its weight: "the base plus the credits granted since it last entered, capped at 2^64−1"

total-more : (n c : ℕ) (cs : List ℕ) → total (replicate n c ++ cs) ≡ n * c + total cs
total-more zero c cs = rw (zero-mul c) (sym (zero-add (total cs)))
total-more (suc n) c cs = rw (suc-mul n c) (omega (arith, total-more n c cs))

pub granted-weight : (c : ℕ) (n : ℕ → ℕ) (t : Tx) → tx_weight (granted c n t) ≡ capped (t.base + (n t.id * c + total t.credits))
unfolding tx_weight
granted-weight c n t = ap (λ x. capped (t.base + x)) (total-more (n t.id) c t.credits)
