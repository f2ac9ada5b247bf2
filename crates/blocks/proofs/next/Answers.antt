-- `blocks::next` meets its contract. The loop's invariant: none was pooled so far, and the transactions that are left, over where we are, give what all of them give over where we began (`Passing`). Assumes nothing.
use Rattle.std.proofs.Common.{refl, sym, ◌∙◌, arith}
use Rattle.blocks.specs.Steps.{inputs-four, agreed-there}
use Rattle.blocks.specs.Runs.{went-end}
use Rattle.blocks.proofs.RunsLaws.{passing-more, went-hit}
use Rattle.blocks.proofs.next.Goals as goal

-- the inputs of this transaction are there
pub overflow_add-to-in-loop-i : goal.overflow_add-to-in-loop-i
overflow_add-to-in-loop-i c =
    let n = rw (c.new-ids.ensures.0, c.new-ids.ensures.1) at c.len-n.ensures in
    omega (arith, agreed-there _ _ _ _ _ (omega (arith, n)) refl c.loop-i.invariant.passing.agreed)

pub apply_tx-written-requires-clause-to_bound : goal.apply_tx-written-requires-clause-to_bound
apply_tx-written-requires-clause-to_bound c =
    let n = rw (c.new-ids.ensures.0, c.new-ids.ensures.1) at c.len-n.ensures in
    rw (c.new-boxes.ensures.0, c.new-boxes.ensures.1) (agreed-there _ _ _ _ _ (omega (arith, n)) refl c.loop-i.invariant.passing.agreed)

pub loop-i-preserved : goal.loop-i-preserved
loop-i-preserved c =
    let k = c.loop-i.invariant in
    let t = c.apply_tx-written.ensures in
    let n = rw (c.new-ids.ensures.0, c.new-ids.ensures.1) at c.len-n.ensures in
    let id = rw (c.new-ids.ensures.0, c.new-ids.ensures.1) at c.id_at-id.ensures in
    let seen = rw (c.entries.ensures.0, c.entries.ensures.1) at c.look-seen.ensures in
    record {
      same = (t.same.0 ∙ k.same.0, t.same.1 ∙ k.same.1, t.same.2 ∙ k.same.2, t.same.3 ∙ k.same.3);
      passing = passing-more _ _ _ _ _ (omega (arith, n)) (omega arith) _ _ id (omega arith) _ seen k.passing
          (λ time. rw (inputs-four c.new-boxes.result _ _ c.new-boxes.ensures.0 c.new-boxes.ensures.1) at (t.does time))
          (sym c.is_some.ensures ∙ c.if-is_some.false);
    }

pub returns-then-is_some-clause-went : goal.returns-then-is_some-clause-went
returns-then-is_some-clause-went c =
    let k = c.loop-i.invariant in
    let t = c.apply_tx-written.ensures in
    let n = rw (c.new-ids.ensures.0, c.new-ids.ensures.1) at c.len-n.ensures in
    let id = rw (c.new-ids.ensures.0, c.new-ids.ensures.1) at c.id_at-id.ensures in
    let seen = rw (c.entries.ensures.0, c.entries.ensures.1) at c.look-seen.ensures in
    went-hit _ _ _ _ _ (omega (arith, n)) (omega arith) _ _ id (omega arith) _ seen k.passing
    (λ time. rw (inputs-four c.new-boxes.result _ _ c.new-boxes.ensures.0 c.new-boxes.ensures.1) at (t.does time))
    (sym c.is_some.ensures ∙ c.if-is_some.true)

pub returns-clause-went : goal.returns-clause-went
returns-clause-went c =
    let n = rw (c.new-ids.ensures.0, c.new-ids.ensures.1) at c.len-n.ensures in
    went-end c.loop-i.invariant.passing (omega (arith, n)) (omega (arith, n))
