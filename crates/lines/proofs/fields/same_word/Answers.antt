-- `fields::same_word` meets its contract: the library's test goes byte by byte.
use Rattle.std.proofs.Common.{◌∙◌}
use Rattle.lines.specs.FieldLaws as W
use Rattle.lines.proofs.fields.same_word.Goals as goal

pub returns : goal.returns
returns c = c.eq.ensures ∙ W.same-pointwise _ _
