-- The owner of what a search of an index found.
use Rattle.std.specs.Prelude.{None, Option, Some, is_some}
use Rattle.std.specs.Prelude.{ℕ, ◌≡◌, Bool, true, false, List, [], ◌∷◌}
use Rattle.std.proofs.Common.{ap}
use Rattle.words.specs.Ids.{id_of}
use Rattle.words.specs.declared.ids.Id.{Id}

-- the code's answer, as the list that `lookup` gives
abbrev pub owner_ids : Option Id → List ℕ
owner_ids (Some x) = id_of x ∷ []
owner_ids None = []

abbrev pub is_found : List ℕ → Bool
is_found [] = false
is_found (k ∷ ks) = true

pub found_is : (o : Option Id) {ks : List ℕ} → owner_ids o ≡ ks → is_some o ≡ is_found ks
found_is None e = ap is_found e
found_is (Some x) e = ap is_found e
