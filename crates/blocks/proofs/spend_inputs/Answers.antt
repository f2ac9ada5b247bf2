-- `blocks::spend_inputs` meets its contract. The loop's invariant: the inputs that are left, over where we are, give what all of them give over where we began (`Turned`). Assumes nothing.
use Rattle.std.proofs.Common.{◌∙◌, arith}
use Rattle.blocks.specs.Steps.{turn_more, turn-all, spent-more, spent_all}
use Rattle.blocks.proofs.spend_inputs.Goals as goal

pub loop-j-preserved : goal.loop-j-preserved
loop-j-preserved c =
    let k = c.loop-j.invariant in
    let d = c.drive_out-left.ensures in
    record {
      same = (d.same.0 ∙ k.same.0, d.same.1 ∙ k.same.1, d.same.2 ∙ k.same.2, d.same.3 ∙ k.same.3);
      turned = turn_more _ k.turned d.does (spent-more _ _ _ _ _ _ (omega arith) c.requires.to_bound c.id_at.ensures);
    }

pub returns-clause-does : goal.returns-clause-does
returns-clause-does c = turn-all c.loop-j.invariant.turned (spent_all _ _ _ _ _ (omega arith))
