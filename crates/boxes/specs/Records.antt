-- The box records of the ordered pool and both indexes, as lists (document 01, "The ordered pool"). A record stands for one input or output of a
-- pooled transaction: "An entry uses one record for each input and output, repeats counted." The indexes are read from the records.
use Rattle.std.specs.Prelude.{ℕ, ◌≡◌, refl, Bool, true, false, not, ◌&&◌, List, [], ◌∷◌, ◌++◌, map, eqb}
use Rattle.words.specs.Lists.{pick, keep, other, count, flat}

pub record BoxRec : Type 0 where
  pub box : ℕ
  pub owner : ℕ
  -- an output of its owner, else an input
  pub out : Bool
  -- the index's entry for its box
  pub live : Bool

-- two kinds are the same
abbrev pub same : Bool → Bool → Bool
same true x = x
same false x = not x

-- ---- a transaction enters

-- an older record of this kind and box is no more live: "Each box has at most one spender and one producer in the indexes"
abbrev pub hide : Bool → ℕ → BoxRec → BoxRec
hide o b r = record { box = r.box; owner = r.owner; out = r.out; live = r.live && not (same o r.out && eqb r.box b) }

-- .. "the last inserted": the new record stands live at the end
abbrev pub enter_box : Bool → ℕ → ℕ → List BoxRec → List BoxRec
enter_box o k b rs = map (hide o b) rs ++ (record { box = b; owner = k; out = o; live = true } ∷ [])

abbrev pub enter_boxes : Bool → ℕ → List ℕ → List BoxRec → List BoxRec
enter_boxes o k [] rs = rs
enter_boxes o k (b ∷ bs) rs = enter_boxes o k bs (enter_box o k b rs)

-- a transaction's inputs, then its outputs
abbrev pub enter_tx : ℕ → List ℕ → List ℕ → List BoxRec → List BoxRec
enter_tx k ins outs rs = enter_boxes true k outs (enter_boxes false k ins rs)

-- ---- a transaction leaves

-- "Removing a transaction drops the index entries that name it; an older one is not put back. .. Freed records are used by later insertions."
abbrev pub drop_owner : ℕ → List BoxRec → List BoxRec
drop_owner k rs = keep (λ r. other k r.owner) rs

-- ---- the indexes: their entries in order of insertion, of spenders (`index false`) and of producers (`index true`)

pub record Pair : Type 0 where
  pub box : ℕ
  pub id : ℕ

abbrev pub index : Bool → List BoxRec → List Pair
index o [] = []
index o (r ∷ rs) = pick (r.live && same o r.out) (record { box = r.box; id = r.owner } ∷ index o rs) (index o rs)

-- the one id that an index has for a box, or none
abbrev pub lookup : List Pair → ℕ → List ℕ
lookup [] b = []
lookup (p ∷ ps) b = pick (eqb p.box b) (p.id ∷ []) (lookup ps b)

-- ---- what is read of the records

-- a transaction's inputs, in order
abbrev pub is_input : ℕ → BoxRec → Bool
is_input k r = eqb r.owner k && not r.out

abbrev pub inputs_of : ℕ → List BoxRec → List ℕ
inputs_of k [] = []
inputs_of k (r ∷ rs) = pick (is_input k r) (r.box ∷ inputs_of k rs) (inputs_of k rs)

-- a transaction's outputs, as `inputs_of` has its inputs
abbrev pub outputs_of : ℕ → List BoxRec → List ℕ
outputs_of k [] = []
outputs_of k (r ∷ rs) = pick (eqb r.owner k && r.out) (r.box ∷ outputs_of k rs) (outputs_of k rs)

-- document 01, "Credits to parents": a transaction's "inputs' producers in input order", "a repeated input counts twice"
abbrev pub parents : List BoxRec → ℕ → List ℕ
parents rs k = flat (lookup (index true rs)) (inputs_of k rs)

-- document 01, "A submission": "Conflicts are listed by first input": the spenders of these boxes, each once
abbrev pub once : ℕ → List ℕ → List ℕ
once k seen = pick (eqb (count k seen) 0) (seen ++ (k ∷ [])) seen

abbrev pub dedup : List ℕ → List ℕ → List ℕ
dedup [] seen = seen
dedup (k ∷ ks) seen = dedup ks (once k seen)

abbrev pub conflicts : List Pair → List ℕ → List ℕ
conflicts spenders ins = dedup (flat (lookup spenders) ins) []

-- ---- on the edges. Transaction 1 spends box 7 and makes 8 and 9; transaction 2 spends 7 twice and 8, and makes 9 again.

abbrev first : List BoxRec
first = enter_tx 1 (7 ∷ []) (8 ∷ 9 ∷ []) []

abbrev both : List BoxRec
both = enter_tx 2 (7 ∷ 7 ∷ 8 ∷ []) (9 ∷ []) first

-- the last inserted is in the index, of a box that one transaction repeats too
last-wins : (lookup (index false both) 7 ≡ 2 ∷ []) × (lookup (index true both) 9 ≡ 2 ∷ []) × (lookup (index true both) 8 ≡ 1 ∷ []) × (index false first ≡ record { box = 7; id = 1 } ∷ [])
last-wins = (refl, refl, refl, refl)

-- nobody is put back when it leaves, and one that was overtaken leaves no trace
not_put_back : (index false (drop_owner 2 both) ≡ []) × (index true (drop_owner 2 both) ≡ record { box = 8; id = 1 } ∷ []) × (index true (drop_owner 1 both) ≡ record { box = 9; id = 2 } ∷ [])
not_put_back = (refl, refl, refl)

-- repeats are counted as inputs and parents, outputs are listed whether live or not, and a conflict is listed once
repeats : (inputs_of 2 both ≡ 7 ∷ 7 ∷ 8 ∷ []) × (outputs_of 1 both ≡ 8 ∷ 9 ∷ []) × (parents both 2 ≡ 1 ∷ []) × (parents (enter_tx 3 (9 ∷ 9 ∷ []) [] both) 3 ≡ 2 ∷ 2 ∷ []) × (conflicts (index false both) (8 ∷ 5 ∷ 7 ∷ 8 ∷ []) ≡ 2 ∷ [])
repeats = (refl, refl, refl, refl, refl)
