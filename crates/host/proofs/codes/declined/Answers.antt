-- `codes::declined` meets its contract: the number is the refusal's. Assumes nothing.
use mathlib.Core.Path.{ap, ◌∙◌}
use Rattle.host.specs.Codes.{sheet, four_of}
use Rattle.host.proofs.codes.declined.Goals as goal

pub returns : goal.returns
returns c = c.plain.ensures ∙ ap (λ n. sheet n 0 (four_of 0) 0) c.into.ensures
