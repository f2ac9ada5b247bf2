-- `layout::load_counts` meets its contract: both words are read. Assumes nothing.
use mathlib.Core.Path.{refl}
use Rattle.host.specs.State.{counts_of}
use Rattle.host.proofs.layout.load_counts.Goals as goal

pub returns : goal.returns
unfolding counts_of
returns c = refl
