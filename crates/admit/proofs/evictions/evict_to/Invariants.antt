use Prim.Native.Nat.{◌+◌}
use mathlib.Core.Path.{◌≡◌}
use Rattle.pool.specs.Lent.{Same, KeptIn, tables_in}
use Rattle.admit.specs.Evictions.{Evicting}
use Rattle.admit.proofs.evictions.evict_to.Given as goal

abbrev pub invariant-loop-i : goal.invariant-loop-i
invariant-loop-i l =
    record {
      same : Same l.initial.pool l.pool;
      pooled : l.i + l.pool.counts.pooled ≡ l.initial.pool.counts.pooled;
      evicting :
          KeptIn l.initial.pool
          → KeptIn l.pool × Evicting l.capacity l.at l.write (tables_in l.initial.pool) (tables_in l.pool) l.initial.answer l.answer l.i;
    }
