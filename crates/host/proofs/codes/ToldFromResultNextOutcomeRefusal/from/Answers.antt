-- `codes::Told::from` meets its contract, outcome by outcome. Assumes nothing.
use mathlib.Core.Path.{sym, ap, ◌∙◌}
use Rattle.std.specs.Prelude.{Ok}
use Rattle.pool_types.specs.Outcomes.{next_of, written_of}
use Rattle.host.specs.Codes.{code_of, about_of, sum_of, result_of}
use Rattle.host.proofs.codes.ToldFromResultNextOutcomeRefusal.from.Goals as goal

pub returns-in-Candidate : goal.returns-in-Candidate
unfolding result_of code_of written_of about_of sum_of next_of
returns-in-Candidate c = c.of_id.ensures ∙ sym (ap (λ o. result_of (next_of o)) (c.in-Ok.is ∙ ap Ok c.in-Candidate.is))

pub returns-in-Ended : goal.returns-in-Ended
unfolding result_of code_of written_of about_of sum_of next_of
returns-in-Ended c = c.plain.ensures ∙ sym (ap (λ o. result_of (next_of o)) (c.in-Ok.is ∙ ap Ok c.in-Ended.is))

pub returns-in-Err : goal.returns-in-Err
unfolding result_of code_of written_of about_of sum_of next_of
returns-in-Err c = c.declined.ensures ∙ sym (ap (λ o. result_of (next_of o)) (c.in-Err.is))
