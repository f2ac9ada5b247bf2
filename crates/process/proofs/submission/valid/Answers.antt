-- `valid` meets its contract: the bill and the admission stand beside each other. Assumes nothing.
use Rattle.process.specs.Claims.{claims-valid}
use Rattle.process.proofs.ClaimsLaws.{bills}
use Rattle.process.proofs.submission.valid.Goals as goal

pub returns-clause-claims : goal.returns-clause-claims
returns-clause-claims c =
    let n = c.admit-outcome.ensures in
    let counts = c.requires.passed.0 in
    λ k ys f q. claims-valid _ _ _ _ _ _ c.args.sub _ _ _ _ _ _ _ _ (rw counts at n.leaves) n.sound.ours (rw counts at n.spares_words) n.sound.told c.cost_of.ensures (bills ys _ f q c.requires.passed.1 c.charged-bill.ensures)
