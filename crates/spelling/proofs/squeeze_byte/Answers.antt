-- `squeeze_byte` meets its contract: its three ways are those of `squeezed`. Assumes nothing.
use native.Mathlib.Omega.{arith}
use mathlib.Core.Path.{sym, ◌∙◌}
use Rattle.spelling.specs.Tidied.{take-space, take-lead, take_put}
use Rattle.spelling.proofs.squeeze_byte.Goals as goal

pub returns-then-c-eq32 : goal.returns-then-c-eq32
returns-then-c-eq32 c = take-space _ _ _ _ (omega (arith, c.requires.0)) _ c.if-c-eq32.true c.spaced.ensures

pub returns-then-leads : goal.returns-then-leads
returns-then-leads c = take-lead _ _ _ _ (omega arith) c.if-c-eq32.false (sym c.leads.ensures ∙ c.if-leads.true)

pub returns : goal.returns
returns c = take_put _ _ _ _ (omega arith) _ _ c.if-c-eq32.false (sym c.leads.ensures ∙ c.if-leads.false) c.put-at.ensures c.kept.ensures.0 c.kept.ensures.1
