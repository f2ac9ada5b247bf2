use Prim.Native.Nat.{◌-◌}
use Rattle.words.specs.Ids.{id_of}
use Rattle.pool.specs.Lent.{Same}
use Rattle.blocks.specs.Blocks.{spent}
use Rattle.blocks.specs.Steps.{removal, inputs_in, Turned}
use Rattle.blocks.proofs.spend_inputs.Given as goal

abbrev pub invariant-loop-j : goal.invariant-loop-j
invariant-loop-j l =
    record {
      same : Same l.initial.pool l.pool;
      turned : Turned (spent (id_of l.id) (inputs_in l.inputs l.j (l.to - l.j))) (spent (id_of l.id) (inputs_in l.inputs l.from (l.to - l.from))) l.initial.pool.entries.now l.initial.pool.boxes.now l.initial.answer (removal l.initial.pool l.initial.left) l.pool.entries.now l.pool.boxes.now l.answer (removal l.pool l.left);
    }
