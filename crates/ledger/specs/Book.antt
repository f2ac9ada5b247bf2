-- The ledger's book (document 01, "Demand 3": "It holds transactions (id, base, input and output box ids) with their credits, .. both indexes by the
-- pool's rule"): what enters it, what leaves it and what is credited, reckoned from the book alone. Shared with the pool's definitions are words, namely the
-- cap, a total, and a pair of an index and its lookup; and two rules: weight falling then id rising (`ahead`), and a walk (`walked`: last producer first,
-- so many visits).
use Rattle.std.specs.Prelude.{ℕ, zero, suc, ◌+◌, ◌≡◌, refl, Bool, true, false, List, [], ◌∷◌, ◌++◌, map, eqb, leb, length}
use Rattle.words.specs.Lists.{pick, keep, other, flat}
use Rattle.words.specs.Sums.{cap, capped, total}
use Rattle.entries.specs.Entries.{ahead}
use Rattle.boxes.specs.Records.{Pair, lookup}
use Rattle.family.specs.Chains.{walked}

-- a transaction with the credits that it was given since it last entered, the last first
pub record Tx : Type 0 where
  pub id : ℕ
  pub base : ℕ
  pub ins : List ℕ
  pub outs : List ℕ
  pub credits : List ℕ

-- transactions, the last entered first; who spends a box, and who makes it
pub record Book : Type 0 where
  pub txs : List Tx
  pub spenders : List Pair
  pub producers : List Pair

abbrev pub book : List Tx → List Pair → List Pair → Book
book ts ss ps = record { txs = ts; spenders = ss; producers = ps }

-- ---- weights: "the base plus the credits granted since it last entered, capped at 2^64−1"

unfoldable pub tx_weight : Tx → ℕ
tx_weight t = capped (t.base + total t.credits)

-- ---- both indexes "by the pool's rule": "Each box has at most one spender and one producer in the indexes: the last inserted. Removing a transaction
-- drops the index entries that name it; an older one is not put back."

abbrev pub enters_pair : ℕ → ℕ → List Pair → List Pair
enters_pair k b ps = keep (λ p. other b p.box) ps ++ (record { box = b; id = k } ∷ [])

abbrev pub enters_pairs : ℕ → List ℕ → List Pair → List Pair
enters_pairs k [] ps = ps
enters_pairs k (b ∷ bs) ps = enters_pairs k bs (enters_pair k b ps)

abbrev pub leaves_pairs : ℕ → List Pair → List Pair
leaves_pairs k ps = keep (λ p. other k p.id) ps

-- ---- one enters, "without credits"

unfoldable pub enters : ℕ → ℕ → List ℕ → List ℕ → Book → Book
enters k base ins outs b =
    book (record { id = k; base = base; ins = ins; outs = outs; credits = [] } ∷ b.txs) (enters_pairs k ins b.spenders) (enters_pairs k outs b.producers)

-- ---- one leaves; and one after the other

unfoldable pub leaves : ℕ → Book → Book
leaves k b = book (keep (λ t. other k t.id) b.txs) (leaves_pairs k b.spenders) (leaves_pairs k b.producers)

abbrev pub all_leave : List ℕ → Book → Book
all_leave [] b = b
all_leave (k ∷ ks) b = all_leave ks (leaves k b)

-- "Losers": the transactions that spend one of these boxes, as the spender index names them
unfoldable pub losers_leave : List ℕ → Book → Book
losers_leave ins b = all_leave (flat (lookup b.spenders) ins) b

-- ---- credits: "a submission's walk then runs on the ledger, each visit crediting the newcomer's base to the parent visited"

abbrev pub credit_tx : ℕ → ℕ → Tx → Tx
credit_tx c k t = record { id = t.id; base = t.base; ins = t.ins; outs = t.outs; credits = pick (eqb t.id k) (c ∷ t.credits) t.credits }

abbrev pub credits_to : ℕ → List ℕ → Book → Book
credits_to c [] b = b
credits_to c (k ∷ ks) b = credits_to c ks (book (map (credit_tx c k) b.txs) b.spenders b.producers)

abbrev pub ins_of : ℕ → List Tx → List ℕ
ins_of k [] = []
ins_of k (t ∷ ts) = pick (eqb t.id k) t.ins (ins_of k ts)

abbrev pub outs_of : ℕ → List Tx → List ℕ
outs_of k [] = []
outs_of k (t ∷ ts) = pick (eqb t.id k) t.outs (outs_of k ts)

-- whether a transaction of this id is in the book
abbrev pub in_book : ℕ → List Tx → Bool
in_book k [] = false
in_book k (t ∷ ts) = pick (eqb t.id k) true (in_book k ts)

-- a transaction's "inputs' producers in input order", as the producer index names them
abbrev pub parents_in : Book → ℕ → List ℕ
parents_in b k = flat (lookup b.producers) (ins_of k b.txs)

-- the walk of the newcomer k with the base c, of so many visits at most
unfoldable pub walks : ℕ → ℕ → ℕ → Book → Book
walks visits c k b = credits_to c (walked (parents_in b) visits k) b

-- ---- "eviction of the lowest until the capacity is met"

-- the lowest of x and those in the list: the one that every other is ahead of
abbrev pub lowest_of : Tx → List Tx → Tx
lowest_of x [] = x
lowest_of x (y ∷ ys) = pick (ahead (tx_weight (lowest_of y ys)) (lowest_of y ys).id (tx_weight x) x.id) x (lowest_of y ys)

abbrev pub lowest_id : List Tx → ℕ
lowest_id [] = 0
lowest_id (x ∷ xs) = (lowest_of x xs).id

abbrev pub trims : ℕ → ℕ → Book → Book
trims zero n b = b
trims (suc f) n b = pick (leb (length b.txs) n) b (trims f n (leaves (lowest_id b.txs) b))

unfoldable pub evicts : ℕ → Book → Book
evicts n b = trims (length b.txs) n b

-- ---- a block: "those a block removes leave when and as this document's rules say"

-- the spender of one box of the block's transaction k leaves, if it is another
abbrev pub rival_leaves : ℕ → List ℕ → Book → Book
rival_leaves k [] b = b
rival_leaves k (o ∷ os) b = pick (eqb o k) b (leaves o b)

abbrev pub rivals_leave : ℕ → List ℕ → Book → Book
rivals_leave k [] b = b
rivals_leave k (x ∷ xs) b = rivals_leave k xs (rival_leaves k (lookup b.spenders x) b)

-- one transaction of a block, its id and its inputs as the call lists them
unfoldable pub confirms : ℕ → List ℕ → Book → Book
confirms k ins b = rivals_leave k ins (leaves k b)

-- ---- on the edges: 1 spends box 7 and makes 8; 2 spends 8 and makes 9

abbrev two : Book
two = enters 2 20 (8 ∷ []) (9 ∷ []) (enters 1 30 (7 ∷ []) (8 ∷ []) (book [] [] []))

abbrev tx : ℕ → ℕ → List ℕ → List ℕ → List ℕ → Tx
tx k base ins outs cs = record { id = k; base = base; ins = ins; outs = outs; credits = cs }

abbrev pair : ℕ → ℕ → Pair
pair b k = record { box = b; id = k }

-- credits add up, and the cap holds once
weight-edge : (tx_weight (tx 1 30 [] [] (5 ∷ 6 ∷ [])) ≡ 41) × (tx_weight (tx 1 cap [] [] (1 ∷ [])) ≡ cap)
unfolding tx_weight
weight-edge = (refl, refl)

-- 3 spends 9: its walk credits 2 and 1; a second spender of 8 takes the index's entry, and nobody gets it back
walk-edge : (walks 500 5 3 (enters 3 5 (9 ∷ []) [] two)).txs ≡ tx 3 5 (9 ∷ []) [] [] ∷ tx 2 20 (8 ∷ []) (9 ∷ []) (5 ∷ []) ∷ tx 1 30 (7 ∷ []) (8 ∷ []) (5 ∷ []) ∷ []
unfolding walks enters
walk-edge = refl

not_put_back : leaves 4 (enters 4 5 (8 ∷ []) [] two) ≡ book two.txs (pair 7 1 ∷ []) (pair 8 1 ∷ pair 9 2 ∷ [])
unfolding leaves enters
not_put_back = refl

-- the lowest goes first; of a block that confirms another spender of 8, transaction 2 is driven out
lowest-edge : (evicts 1 two ≡ enters 1 30 (7 ∷ []) (8 ∷ []) (book [] [] [])) × ((confirms 6 (8 ∷ 8 ∷ []) two).txs ≡ tx 1 30 (7 ∷ []) (8 ∷ []) [] ∷ [])
unfolding evicts leaves enters confirms tx_weight ahead
lowest-edge = (refl, refl)
