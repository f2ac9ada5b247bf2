-- `codes::test_code` meets its contract, outcome by outcome. Assumes nothing.
use mathlib.Core.Path.{sym, ap, ◌∙◌, refl, ◌≡◌}
use mathlib.Core.Bool.{Bool, true, false}
use mir.Val.{bool_byte}
use Rattle.words.specs.Lists.{pick}
use Rattle.pool_types.specs.Outcomes.{tested_of}
use Rattle.host.specs.Queries.{query_of}
use Rattle.host.proofs.codes.test_code.Goals as goal

byte : (b : Bool) → bool_byte b ≡ pick b 1 0
byte true = refl
byte false = refl

pub returns-in-Ok : goal.returns-in-Ok
unfolding query_of tested_of
returns-in-Ok c = c.from.ensures ∙ byte c.in-Ok.said ∙ sym (ap (λ o. query_of (tested_of o)) c.in-Ok.is)

pub returns-in-Err : goal.returns-in-Err
unfolding query_of tested_of
returns-in-Err c = c.refusal_code.ensures ∙ sym (ap (λ o. query_of (tested_of o)) c.in-Err.is)
