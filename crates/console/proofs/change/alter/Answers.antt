use Rattle.console.specs.Laws.{after-cut}
use Rattle.console.proofs.change.alter.Goals as goal

pub returns-clause-after : goal.returns-clause-after
returns-clause-after c = after-cut _ _ _ _ _ _ _ _ _ _ _ _ _ _ _ _ _ _ _ _ c.words_of-words.ensures c.min-n.ensures c.min-m.ensures c.make.ensures.after
