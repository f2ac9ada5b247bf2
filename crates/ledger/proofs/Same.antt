-- The pool's tables agree with the ledger's book: what each of them says of the same transactions.
use Rattle.std.specs.Prelude.{ℕ, ◌≡◌, true, false, List, [], ◌∷◌, ◌++◌, map}
use Rattle.words.specs.Lists.{Once}
use Rattle.entries.specs.Entries.{Entry}
use Rattle.entries.specs.Order.{sort_on}
use Rattle.boxes.specs.Records.{index}
use Rattle.boxes.specs.IndexLaws.{Use, uses, the, Lone}
use Rattle.pool.specs.Pool.{Tables}
use Rattle.ledger.specs.Book.{Tx, Book, tx_weight}

-- what both know of a transaction beside its boxes
pub record Brief : Type 0 where
  pub id : ℕ
  pub weight : ℕ
  pub base : ℕ

abbrev pub brief_of : Entry → Brief
brief_of e = record { id = e.id; weight = e.weight; base = e.base }

abbrev pub view_of : Tx → Brief
view_of t = record { id = t.id; weight = tx_weight t; base = t.base }

abbrev pub in_order : List Brief → List Brief
in_order bs = sort_on (λ b. b.weight) (λ b. b.id) bs

-- the boxes of the book's transactions, in order of entry: of each its inputs, then its outputs
abbrev pub uses_of_tx : Tx → List Use
uses_of_tx t = map (the false t.id) t.ins ++ map (the true t.id) t.outs

abbrev pub uses_in : List Tx → List Use
uses_in [] = []
uses_in (t ∷ ts) = uses_in ts ++ uses_of_tx t

pub record SameBook (t : Tables) (b : Book) : Type 0 where
  pub once : Once (map (λ x. x.id) b.txs)
  pub entries : map brief_of t.entries ≡ in_order (map view_of b.txs)
  pub boxes : uses t.boxes ≡ uses_in b.txs
  pub spenders : index false t.boxes ≡ b.spenders
  pub producers : index true t.boxes ≡ b.producers
  pub lone-in : Lone b.spenders
  pub lone-out : Lone b.producers
