-- `blocks::take_out` meets its contract: whether the id was pooled shows in the count of entries. Assumes nothing.
use borrow.Author.Tests.{ltb-false, ltb-true}
use Rattle.std.proofs.Common.{refl, sym, ◌∙◌, arith}
use Rattle.blocks.specs.Steps.{removal, does-nothing, does-leave}
use Rattle.blocks.proofs.take_out.Goals as goal

pub returns-then-not-pooled-clause-does : goal.returns-then-not-pooled-clause-does
returns-then-not-pooled-clause-does c =
    let r = c.remove-pooled.ensures in
    does-nothing _ _ _ _ _ _ (removal c.args.pool.now c.args.written) _ r.fewer r.left (omega (arith, r.fewer.entries, ltb-false _ _ (sym r.told ∙ c.if-not-pooled.true)))

pub returns-clause-does : goal.returns-clause-does
returns-clause-does c =
    let r = c.remove-pooled.ensures in
    does-leave _ _ _ _ _ _ (removal c.args.pool.now c.args.written) _ r.fewer r.left _ _ _ (λ z. omega (arith, ltb-true _ _ (sym r.told ∙ c.if-not-pooled.false))) refl (omega arith) c.write_id.ensures
