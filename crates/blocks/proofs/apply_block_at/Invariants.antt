use Rattle.pool.specs.Lent.{Same}
use Rattle.blocks.specs.Runs.{run_in, Running, turns}
use Rattle.blocks.proofs.apply_block_at.Given as goal

-- the pool stands in the same words, and so far the block has run as `Running` says
abbrev pub invariant-loop-run : goal.invariant-loop-run
invariant-loop-run l =
    record {
      same : Same l.initial.pool l.pool;
      running : Running l.time l.transactions l.inputs l.fn.entries l.fn.boxes l.fn.cache l.fn.answer l.mempool l.fn.stats l.pool.entries.now l.pool.boxes.now l.cache l.answer (run_in l.pool l.run) l.stats;
    }

abbrev pub decreases-loop-run : goal.decreases-loop-run
decreases-loop-run l = turns l.transactions l.run.seen l.run.at
