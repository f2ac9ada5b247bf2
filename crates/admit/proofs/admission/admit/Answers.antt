-- `admission::admit` meets its contract: the fee is in bounds (`fee_same`), and the rest is `offer`. Assumes nothing.
use mathlib.Core.Path.{sym, ◌∙◌}
use Rattle.admit.specs.Admission.{fee_beyond}
use Rattle.admit.proofs.admission.admit.Goals as goal

pub returns-in-None : goal.returns-in-None
returns-in-None c = fee_beyond _ c.requires.inputs_bound.1 (sym c.extract_fee.ensures ∙ c.in-None.is)
