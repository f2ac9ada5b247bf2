use Rattle.std.proofs.Common.{length}
use Rattle.lines.specs.BlockLaws as L
use Rattle.lines.proofs.blocks.all_txs.Given as goal

abbrev pub invariant-loop-rest : goal.invariant-loop-rest
invariant-loop-rest l = L.Moves l.inside l.depth l.rest l.gap l.initial.first l.first l.initial.second l.second l.k l.j

abbrev pub decreases-loop-rest : goal.decreases-loop-rest
decreases-loop-rest l = length l.rest
