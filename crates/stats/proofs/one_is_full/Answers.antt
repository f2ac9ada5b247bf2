-- `one_is_full` meets its contract. Assumes nothing.
use Rattle.std.proofs.Common.{rules}
use borrow.Author.Tests.{tests}
use Rattle.stats.specs.Scan.{none_of_four}
use Rattle.stats.proofs.one_is_full.Goals as goal

pub returns : goal.returns
returns c = λ e. none_of_four _ _ _ _ (search (e, rules, tests))
