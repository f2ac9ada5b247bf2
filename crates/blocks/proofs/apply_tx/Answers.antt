-- `blocks::apply_tx` meets its contract: the transaction, then its inputs; at each time alike. Assumes nothing.
use Rattle.blocks.specs.Steps.{does-confirm, does-both}
use Rattle.blocks.proofs.apply_tx.Goals as goal

pub returns-clause-does : goal.returns-clause-does
returns-clause-does c = λ time. does-both (does-confirm time _ c.take_out-next.ensures.does) c.spend_inputs.ensures.does
