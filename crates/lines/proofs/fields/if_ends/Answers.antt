-- `fields::if_ends` meets its contract, from the end of the list.
use Rattle.lines.specs.FieldLaws as W
use Rattle.lines.proofs.fields.if_ends.Goals as goal

pub returns-then-ends : goal.returns-then-ends
returns-then-ends g c = W.ends-yes _ _ _ c.ends.ensures c.if-ends.true

pub returns : goal.returns
returns g c = W.ends-no _ _ _ c.ends.ensures c.if-ends.false
