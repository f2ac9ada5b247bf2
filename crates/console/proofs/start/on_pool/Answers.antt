use mathlib.Core.Path.{sym, ◌∙◌}
use Rattle.console.specs.Laws.{after-ready, after-refused}
use Rattle.console.proofs.start.on_pool.Goals as goal

pub returns-in-Ok : goal.returns-in-Ok
returns-in-Ok c = after-ready _ _ _ _ _ _ _ _ _ _ c.requires.holds _ _ (sym (rw (← c.config_of.ensures) c.start-started.ensures.value) ∙ c.in-Ok.is) c.new.ensures c.text.ensures

pub returns-in-Err : goal.returns-in-Err
returns-in-Err c = rw c.unwritten.ensures (after-refused _ _ _ _ _ _ _ _ _ _ c.requires.holds _ (sym (rw (← c.config_of.ensures) c.start-started.ensures.value) ∙ c.in-Err.is) c.refused_for.ensures)
