use Rattle.pool.specs.Lent.{Same}
use Rattle.blocks.specs.Steps.{removal}
use Rattle.blocks.specs.Runs.{run_in, Passing}
use Rattle.blocks.proofs.next.Given as goal

abbrev pub invariant-loop-i : goal.invariant-loop-i
invariant-loop-i l =
    record {
      same : Same l.initial.pool l.pool;
      passing : Passing l.transactions l.inputs l.initial.pool.entries.now l.initial.pool.boxes.now l.initial.answer (run_in l.initial.pool l.run) l.pool.entries.now l.pool.boxes.now l.answer (removal l.pool l.written) l.i l.from;
    }
