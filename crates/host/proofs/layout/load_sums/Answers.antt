-- `layout::load_sums` meets its contract: both words are read. Assumes nothing.
use mathlib.Core.Path.{refl}
use Rattle.host.specs.State.{sums_of}
use Rattle.host.proofs.layout.load_sums.Goals as goal

pub returns : goal.returns
unfolding sums_of
returns c = refl
