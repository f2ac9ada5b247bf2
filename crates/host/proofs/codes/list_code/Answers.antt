-- `codes::list_code` meets its contract, outcome by outcome. Assumes nothing.
use mathlib.Core.Path.{sym, ap, ◌∙◌}
use Rattle.pool_types.specs.Outcomes.{listed_of}
use Rattle.host.specs.Queries.{query_of}
use Rattle.host.proofs.codes.list_code.Goals as goal

pub returns-in-Ok : goal.returns-in-Ok
unfolding query_of listed_of
returns-in-Ok c = sym (ap (λ o. query_of (listed_of o)) c.in-Ok.is)

pub returns-in-Err : goal.returns-in-Err
unfolding query_of listed_of
returns-in-Err c = c.refusal_code.ensures ∙ sym (ap (λ o. query_of (listed_of o)) c.in-Err.is)
