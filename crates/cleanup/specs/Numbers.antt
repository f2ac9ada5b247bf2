-- The outcomes that document 01 gives the calls of a pass and a rebroadcast. Those of answer and rebroadcast hold of their tests too, which answer nothing.
use Rattle.std.specs.Prelude.{◌≡◌, refl, Bool, true, false, [], ◌∷◌, Result, Ok, Err, eqb}
use Rattle.pool_types.specs.Refusals.{refusal_number}
use Rattle.pool_types.specs.declared.Refusal.{Refusal}
use Rattle.pool_types.specs.declared.NextOutcome.{NextOutcome}
use Rattle.boxes.specs.Among.{among}
use Rattle.returns.specs.Numbers.{not-zero}

-- 20: "a pass is open (every changing call but start, next and answer)"
unfoldable pub of_open : Result Unit Refusal → Bool
of_open (Ok u) = true
of_open (Err r) = among (refusal_number r) (20 ∷ [])

-- 21: "none is open (those two)", and 1 where the counts do not fit
unfoldable pub of_next : Result NextOutcome Refusal → Bool
of_next (Ok o) = true
of_next (Err r) = among (refusal_number r) (21 ∷ 1 ∷ [])

-- 21: ".. or for answer no candidate is out", and 1
unfoldable pub of_answer : {A : Type 0} → Result A Refusal → Bool
of_answer (Ok o) = true
of_answer (Err r) = among (refusal_number r) (21 ∷ 1 ∷ [])

-- a query that writes ids: 1 and 2
unfoldable pub of_rebroadcast : {A : Type 0} → Result A Refusal → Bool
of_rebroadcast (Ok n) = true
of_rebroadcast (Err r) = among (refusal_number r) (1 ∷ 2 ∷ [])

-- ---- no refusal of theirs has the number 0

pub answer-refuses : (r : Refusal) → of_answer {A = Unit} (Err r) ≡ true → eqb (refusal_number r) 0 ≡ false
unfolding of_answer
answer-refuses r h = not-zero (refusal_number r) (21 ∷ 1 ∷ []) refl h

pub rebroadcast-refuses : (r : Refusal) → of_rebroadcast {A = Unit} (Err r) ≡ true → eqb (refusal_number r) 0 ≡ false
unfolding of_rebroadcast
rebroadcast-refuses r h = not-zero (refusal_number r) (1 ∷ 2 ∷ []) refl h
