-- `codes::Told::from` meets its contract, outcome by outcome. Assumes nothing.
use mathlib.Core.Path.{sym, ap, ◌∙◌}
use Rattle.std.specs.Prelude.{Ok}
use Rattle.pool_types.specs.Outcomes.{answered_of, written_of}
use Rattle.host.specs.Codes.{code_of, about_of, sum_of, result_of}
use Rattle.host.proofs.codes.ToldFromResultAnswerOutcomeRefusal.from.Goals as goal

pub returns-in-InputMissing : goal.returns-in-InputMissing
unfolding result_of code_of written_of about_of sum_of answered_of
returns-in-InputMissing c = c.of_id.ensures ∙ sym (ap (λ o. result_of (answered_of o)) (c.in-Ok.is ∙ ap Ok c.in-InputMissing.is))

pub returns-in-AnswerNeeded : goal.returns-in-AnswerNeeded
unfolding result_of code_of written_of about_of sum_of answered_of
returns-in-AnswerNeeded c = c.plain.ensures ∙ sym (ap (λ o. result_of (answered_of o)) (c.in-Ok.is ∙ ap Ok c.in-AnswerNeeded.is))

pub returns-in-FoundInvalid : goal.returns-in-FoundInvalid
unfolding result_of code_of written_of about_of sum_of answered_of
returns-in-FoundInvalid c = c.of_id-in-FoundInvalid.ensures ∙ sym (ap (λ o. result_of (answered_of o)) (c.in-Ok.is ∙ ap Ok c.in-FoundInvalid.is))

pub returns-in-FoundValid : goal.returns-in-FoundValid
unfolding result_of code_of written_of about_of sum_of answered_of
returns-in-FoundValid c = c.of_id-in-FoundValid.ensures ∙ sym (ap (λ o. result_of (answered_of o)) (c.in-Ok.is ∙ ap Ok c.in-FoundValid.is))

pub returns-in-Err : goal.returns-in-Err
unfolding result_of code_of written_of about_of sum_of answered_of
returns-in-Err c = c.declined.ensures ∙ sym (ap (λ o. result_of (answered_of o)) (c.in-Err.is))
