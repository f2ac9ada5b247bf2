-- Changes of pool and book, computed side by side: what the pool's tables are after them and what the book says. The laws are for all tables; these are
-- some that a reader can follow, and that a wrong book or ledger fails by computation.
use Rattle.std.specs.Prelude.{None}
use Rattle.std.specs.Prelude.{ℕ, ◌≡◌, refl, false, List, [], ◌∷◌, map}
use Rattle.pool_types.specs.declared.MempoolConfig.{MempoolConfig}
use Rattle.pool_types.specs.declared.FeeStrategy.TheVariants.{FeePerByte}
use Rattle.pool_types.specs.declared.Source.TheVariants.{Local}
use Rattle.pool_types.specs.Outcomes.{refused, wrote}
use Rattle.entries.specs.Entries.{Entry, ahead}
use Rattle.boxes.specs.Records.{Pair, index}
use Rattle.pool.specs.Pool.{Tables, insert_tx, remove_tx, evict}
use Rattle.family.specs.Family.{propagated}
use Rattle.returns.specs.declared.UnconfirmedTx.{UnconfirmedTx}
use Rattle.ledger.specs.Book.{Book, book, tx_weight, enters, leaves, walks, evicts}
use Rattle.ledger.proofs.Same.{Brief, brief_of, view_of, in_order}
use Rattle.ledger.specs.Ledger.{Ledger, empty_ledger, Block, ledger, enters_return, mined}
use Rattle.ledger.specs.Demand3.{PriorityOrder}

abbrev entry : ℕ → ℕ → Entry
entry k w = record { id = k; weight = w; base = w; size = 0; cost = 0; validation_cost = None; created = 0; last_checked = 0; height_key = 0; inputs = 0 }

-- a transaction enters and its walk credits its base
abbrev arrives : ℕ → ℕ → List ℕ → List ℕ → Tables → Tables
arrives k w ins outs t = propagated 500 w k (insert_tx (entry k w) ins outs t)

abbrev enrolls : ℕ → ℕ → List ℕ → List ℕ → Book → Book
enrolls k w ins outs b = walks 500 w k (enters k w ins outs b)

-- 1 weighs 2,000; 2 spends what 1 makes and weighs 30; 3 spends what 2 makes and weighs 5: 2 is credited 5, and 1 is credited 30 and 5
abbrev pool3 : Tables
pool3 = arrives 3 5 (12 ∷ []) (13 ∷ []) (arrives 2 30 (11 ∷ []) (12 ∷ []) (arrives 1 2000 (7 ∷ []) (11 ∷ []) (record { entries = []; boxes = [] })))

abbrev book3 : Book
book3 = enrolls 3 5 (12 ∷ []) (13 ∷ []) (enrolls 2 30 (11 ∷ []) (12 ∷ []) (enrolls 1 2000 (7 ∷ []) (11 ∷ []) (book [] [] [])))

-- 4 weighs 40; with a capacity of 3 the lowest goes, 3, and not the newest
abbrev pool4 : Tables
pool4 = evict 3 (arrives 4 40 (8 ∷ []) (14 ∷ []) pool3)

abbrev book4 : Book
book4 = evicts 3 (enrolls 4 40 (8 ∷ []) (14 ∷ []) book3)

-- 0 comes back, spends the box that 1 spends and weighs as much as 4: the smaller id goes first
abbrev pool5 : Tables
pool5 = insert_tx (entry 0 40) (7 ∷ []) (15 ∷ []) pool4

abbrev book5 : Book
book5 = enters 0 40 (7 ∷ []) (15 ∷ []) book4

abbrev seen : ℕ → ℕ → ℕ → Brief
seen k w b = record { id = k; weight = w; base = b }

abbrev pair : ℕ → ℕ → Pair
pair x k = record { box = x; id = k }

weights : (map brief_of pool3.entries ≡ seen 1 2035 2000 ∷ seen 2 35 30 ∷ seen 3 5 5 ∷ []) × (in_order (map view_of book3.txs) ≡ map brief_of pool3.entries)
unfolding ahead enters walks tx_weight
weights = (refl, refl)

the-lowest : (map brief_of pool4.entries ≡ seen 1 2035 2000 ∷ seen 4 40 40 ∷ seen 2 35 30 ∷ []) × (in_order (map view_of book4.txs) ≡ map brief_of pool4.entries)
unfolding ahead enters walks tx_weight evicts leaves
the-lowest = (refl, refl)

ties : (map brief_of pool5.entries ≡ seen 1 2035 2000 ∷ seen 0 40 40 ∷ seen 4 40 40 ∷ seen 2 35 30 ∷ []) × (in_order (map view_of book5.txs) ≡ map brief_of pool5.entries)
unfolding ahead enters walks tx_weight evicts leaves
ties = (refl, refl)

-- the order that demand 3 claims, of these four
ordered : PriorityOrder pool5.entries
unfolding ahead
ordered = (refl, (refl, (refl, (tt, tt))))

-- 0 has the index's entry of box 7, and when it leaves nobody gets it back
taken : (index false pool5.boxes ≡ pair 11 2 ∷ pair 8 4 ∷ pair 7 0 ∷ []) × (book5.spenders ≡ index false pool5.boxes)
unfolding enters walks evicts leaves ahead tx_weight
taken = (refl, refl)

not_put_back : (index false (remove_tx 0 pool5).boxes ≡ pair 11 2 ∷ pair 8 4 ∷ []) × ((leaves 0 book5).spenders ≡ index false (remove_tx 0 pool5).boxes)
unfolding enters walks evicts leaves ahead tx_weight
not_put_back = (refl, refl)

-- ---- calls

abbrev settings : MempoolConfig
settings =
    record {
      capacity = 3;
      min_fee = 0;
      fee_strategy = FeePerByte;
      cleanup_interval = 0;
      rebroadcast_count = 0;
      invalidation_ttl = 0;
      invalidation_capacity = 9;
      cost_per_block = 9000;
      cost_per_peer_per_block = 5000;
    }

-- a block that is refused leaves the charges; one that is not clears them
abbrev charged : Ledger
charged = record { book = book [] [] []; charged = record { peer = 7; cost = 1024 } ∷ []; given = [] }

blocks : (ledger settings (Block 0 [] []) (refused 20 0) charged ≡ charged) × ((ledger settings (Block 0 [] []) (wrote 0) charged).charged ≡ [])
unfolding ledger mined
blocks = (refl, refl)

-- a transaction that comes back enters without credits
abbrev back : UnconfirmedTx
back =
    record { id = record { a = 0; b = 0; c = 0; d = 5 }; fee = 40; size = 1024; cost = 0; validation_cost = None; created = 0; last_checked = 0; source = Local }

comes_back : map tx_weight (enters_return settings back [] [] empty_ledger).book.txs ≡ 40 ∷ []
unfolding enters_return enters tx_weight
comes_back = refl
