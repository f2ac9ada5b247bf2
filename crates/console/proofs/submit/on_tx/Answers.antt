use native.Mathlib.Omega.{arith}
use Rattle.std.proofs.Common.{refl}
use Rattle.console.specs.Console.{altered}
use Rattle.console.specs.Laws.{says-processed, after-processed}
use Rattle.console.proofs.submit.on_tx.Goals as goal

pub returns-clause-after : goal.returns-clause-after
unfolding altered
returns-clause-after c =
    rw (← c.submission_of-sub.ensures)
    (after-processed _ _ _ _ _ _ _ _ _ _ _ _ _ (c.process_words-done.ensures.0 c.requires.holds.store) (says-processed _ _ _ _ _ _ _) _ _ _ _
    (record { ready = refl; mempool = refl; stats = refl; written = omega (arith, c.min-written.ensures, c.written_of.ensures); prints = c.tell_processed.ensures }))
