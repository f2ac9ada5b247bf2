-- `blocks::drive_out` meets its contract: nobody, itself, or another that leaves. Assumes nothing.
use Rattle.std.proofs.Common.{sym, ap, ◌∙◌}
use Rattle.words.specs.Ids.{id_of}
use Rattle.indexes.specs.Owners.{owner_ids}
use Rattle.blocks.specs.Steps.{removal, does-nobody, does-itself, does-rival}
use Rattle.blocks.proofs.drive_out.Goals as goal

pub returns-then-eq-clause-does : goal.returns-then-eq-clause-does
returns-then-eq-clause-does c =
    let found = rw (c.boxes.ensures.0, c.boxes.ensures.1) at c.spender.ensures in
    does-itself (id_of c.args.id) _ _ _ _ (removal c.args.pool.now c.args.written) _ (λ kept. sym (ap owner_ids c.in-Some.is) ∙ found kept) (record { fits = c.args.pool.now.fits; few = c.requires }) (sym c.eq.ensures ∙ c.if-eq.true)

pub returns-else-eq-clause-does : goal.returns-else-eq-clause-does
returns-else-eq-clause-does c =
    let found = rw (c.boxes.ensures.0, c.boxes.ensures.1) at c.spender.ensures in
    does-rival (id_of c.args.id) _ _ _ _ (removal c.args.pool.now c.args.written) _ (λ kept. sym (ap owner_ids c.in-Some.is) ∙ found kept) (sym c.eq.ensures ∙ c.if-eq.false) c.take_out.ensures.does

pub returns-in-None-clause-does : goal.returns-in-None-clause-does
returns-in-None-clause-does c =
    let found = rw (c.boxes.ensures.0, c.boxes.ensures.1) at c.spender.ensures in
    does-nobody _ _ _ _ _ (removal c.args.pool.now c.args.written) (λ kept. sym (ap owner_ids c.in-None.is) ∙ found kept) (record { fits = c.args.pool.now.fits; few = c.requires })
