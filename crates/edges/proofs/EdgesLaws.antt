-- Document 01, "Each edge (* proved)": the one theorem over the table of the starred cases.
use Rattle.std.specs.Prelude.{ℕ, zero, suc, ◌≡◌, refl, Bool, true, false, ◌&&◌, List, [], ◌∷◌, get_or, eqb}
use Rattle.std.proofs.Common.{arith, eqb-true}
use Rattle.stats.specs.Stats.{fresh, confirmed, counted, binned}
use Rattle.checks.specs.Checks.{list_refusal}
use Rattle.admit.specs.Admit.{loses}
use Rattle.cleanup.specs.Passes.{due}
use Rattle.edges.specs.Edges.{Row, is, starred, agree}

-- Every row of the table is as document 01 says: computed.
pub starred-cases : agree starred ≡ true
unfolding starred fresh confirmed counted binned loses list_refusal due
starred-cases = refl

-- .. and so is the row at each place
pub each_row : (t : List Row) → agree t ≡ true → (i : ℕ) → (get_or t i (is 0 0)).got ≡ (get_or t i (is 0 0)).due
each_row [] e i = refl
each_row (r ∷ rs) e i = go (eqb r.got r.due) refl e i (λ f j. each_row rs f j)
  where
    go : (b : Bool) → eqb r.got r.due ≡ b → (b && agree rs) ≡ true → (i : ℕ) → (agree rs ≡ true → (j : ℕ) → (get_or rs j (is 0 0)).got ≡ (get_or rs j (is 0 0)).due)
        → (get_or (r ∷ rs) i (is 0 0)).got ≡ (get_or (r ∷ rs) i (is 0 0)).due
    go true q f zero ih = eqb-true _ _ q
    go true q f (suc i) ih = ih f i
    go false q f i ih = let z : ◌≡◌ {A = ℕ} 0 1 = cc in absurd (omega arith)
