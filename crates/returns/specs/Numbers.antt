-- The outcomes that document 01 gives a return and an invalidation, and that they give no other, whatever they are asked.
use Rattle.std.specs.Prelude.{ℕ, ◌≡◌, refl, Bool, true, false, List, [], ◌∷◌, Result, Ok, Err, eqb}
use Rattle.std.proofs.Common.{sym, ap, ◌∙◌, ne_eqb, arith}
use Rattle.pool_types.specs.Refusals.{refusal_number}
use Rattle.pool_types.specs.declared.Refusal.{Refusal}
use Rattle.boxes.specs.Among.{among}

-- "A return tests 20, 1, 3, 23, 27"
abbrev pub return_refusals : List ℕ
return_refusals = 20 ∷ 1 ∷ 3 ∷ 23 ∷ 27 ∷ []

unfoldable pub of_return : Result Unit Refusal → Bool
of_return (Ok u) = true
of_return (Err r) = among (refusal_number r) return_refusals

-- an invalidation tests 20, and 1 where the counts do not fit
unfoldable pub of_invalidation : Result Unit Refusal → Bool
of_invalidation (Ok u) = true
of_invalidation (Err r) = among (refusal_number r) (20 ∷ 1 ∷ [])

-- a number of a list without 0 is not 0
pub not-zero : (n : ℕ) (l : List ℕ) → among 0 l ≡ false → among n l ≡ true → eqb n 0 ≡ false
not-zero n l h q = ne_eqb n 0 (λ e. let z : true ≡ false = sym q ∙ ap (λ m. among m l) e ∙ h in let w : ◌≡◌ {A = ℕ} 0 1 = cc in absurd (omega arith))

-- no refusal of a return has the number 0
pub return-refuses : (r : Refusal) → of_return (Err r) ≡ true → eqb (refusal_number r) 0 ≡ false
unfolding of_return
return-refuses r h = not-zero (refusal_number r) return_refusals refl h
