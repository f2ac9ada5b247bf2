-- `clear_bins` meets its contract: the words filled are those of the first n bins (`cleared`). Assumes nothing.
use Prim.Native.Nat.{ℕ}
use mathlib.Core.Path.{ap, ◌∙◌}
use lib.Seq.{length-take-le}
use lib.ListN.{replicate}
use Rattle.fees.proofs.Laws.{cleared}
use Rattle.fees.proofs.clear_bins.Goals as goal

pub returns : goal.returns
returns c = cleared _ _ _ c.requires (c.fill.ensures.after (λ w h. h) ∙ ap (λ (n : ℕ). replicate n 0) (length-take-le _ _ c.requires))
