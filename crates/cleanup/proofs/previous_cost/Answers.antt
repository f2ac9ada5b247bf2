-- `cleanup::previous_cost` meets its contract: what was measured of the entry that was found. Assumes nothing.
use mathlib.Core.Path.{◌≡◌, refl, sym, ap, ◌∙◌}
use Rattle.std.specs.Prelude.{ℕ, Option, None, Some}
use Rattle.std.specs.Option.{unwrap_or}
use Rattle.cleanup.specs.Passes.{measured}
use Rattle.cleanup.specs.Laws.{cost-there, cost-nowhere}
use Rattle.cleanup.proofs.previous_cost.Goals as goal

measured-is : (cost : Option ℕ) → unwrap_or cost 0 ≡ measured cost
measured-is None = refl
measured-is (Some c) = refl

pub returns-in-Some : goal.returns-in-Some
returns-in-Some c = λ k. cost-there _ _ _ _ (sym (c.find.ensures.value k) ∙ c.in-Some.is) (c.unwrap_or.ensures ∙ measured-is c.validation_cost_at.result ∙ ap measured c.validation_cost_at.ensures)

pub returns-in-None : goal.returns-in-None
returns-in-None c = λ k. cost-nowhere _ _ _ (sym (c.find.ensures.value k) ∙ c.in-None.is)
