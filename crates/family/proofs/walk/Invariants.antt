use Rattle.std.specs.Prelude.{◌+◌, ◌≤◌, ◌≡◌, length}
use Rattle.boxes.specs.Layout.{all_rows}
use Rattle.pool.specs.Pool.{PoolKept}
use Rattle.family.specs.Steps.{Walking}
use Rattle.family.proofs.walk.Given as goal

abbrev pub invariant-loop-w : goal.invariant-loop-w
invariant-loop-w l =
    (length l.entries ≡ length l.initial.entries)
    × (length l.frames ≡ length l.initial.frames)
    × (l.w.depth + l.w.budget ≤ length l.frames)
    × (PoolKept l.initial.entries l.boxes l.counts → Walking l.initial.entries l.entries l.initial.frames l.frames (all_rows l.boxes l.counts.records) l.counts.pooled l.amount l.initial.w l.w)

abbrev pub decreases-loop-w : goal.decreases-loop-w
decreases-loop-w l = l.w.budget + l.w.budget + l.w.depth
