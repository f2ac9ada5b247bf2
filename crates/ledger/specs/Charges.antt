-- The ledger's charges (document 01, "Demand 3": "Outcomes `Accepted`, `Replaced`, 10, 29 and 30 charge a remote submission its cost; a block not refused
-- clears the charges. Total and peer sums add them."): those since the last block, the last first.
use Rattle.std.specs.Prelude.{ℕ, ◌+◌, ◌<◌, ◌≡◌, refl, List, [], ◌∷◌, ◌++◌, eqb}
use Rattle.words.specs.Lists.{pick}
use Rattle.boxes.specs.Among.{among}
use Rattle.pool_types.specs.declared.Source.{Source}
use Rattle.pool_types.specs.declared.Source.TheVariants.{Local, Peer}

pub record Charge : Type 0 where
  pub peer : ℕ
  pub cost : ℕ

-- a submission from here is charged, if it is remote
abbrev pub charges : Source → ℕ → List Charge → List Charge
charges Local c cs = cs
charges (Peer p) c cs = record { peer = p; cost = c } ∷ cs

-- the total, and the sum of one peer
abbrev pub total_charged : List Charge → ℕ
total_charged [] = 0
total_charged (c ∷ cs) = c.cost + total_charged cs

abbrev pub charged_to : ℕ → List Charge → ℕ
charged_to p [] = 0
charged_to p (c ∷ cs) = pick (eqb c.peer p) c.cost 0 + charged_to p cs

-- the peers that have had a charge, each once, the first charged first
abbrev pub payers : List Charge → List ℕ
payers [] = []
payers (c ∷ cs) = pick (among c.peer (payers cs)) (payers cs) (payers cs ++ (c.peer ∷ []))

-- "each charge found the total and its peer's sum below their limits"
abbrev pub Fair : ℕ → ℕ → List Charge → Type 0
Fair block peer [] = Unit {0}
Fair block peer (c ∷ cs) = (total_charged cs < block) × (charged_to c.peer cs < peer) × Fair block peer cs

-- ---- on the edges: peer 7 is charged 5, peer 8 nothing, peer 7 once more

abbrev three : List Charge
three = charges (Peer 7) 2 (charges Local 9 (charges (Peer 8) 0 (charges (Peer 7) 5 [])))

edges : (total_charged three ≡ 7) × (charged_to 7 three ≡ 7) × (charged_to 8 three ≡ 0) × (payers three ≡ 7 ∷ 8 ∷ [])
edges = (refl, refl, refl, refl)
