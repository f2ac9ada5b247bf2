-- `chain::home_of` meets its contract: the key stands behind the word of the known slots. Assumes nothing.
use native.Mathlib.Omega.{arith}
use Rattle.entries.specs.Index.{home-is}
use Rattle.entries.proofs.chain.home_of.Goals as goal

pub returns : goal.returns
returns c =
    (home-is c.args.s.now c.args.d _ _ _ c.slots-n.ensures c.raw.ensures c.bucket_of.ensures.0, omega (arith, c.bucket_of.ensures.1, c.slots-n.ensures))
