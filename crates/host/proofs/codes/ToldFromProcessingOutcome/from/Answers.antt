-- `codes::Told::from` meets its contract, outcome by outcome. Assumes nothing.
use mathlib.Core.Path.{sym, ap, ◌∙◌}
use Rattle.pool_types.specs.Outcomes.{processed_of, written_of}
use Rattle.host.specs.Codes.{code_of, about_of, sum_of, result_of}
use Rattle.host.proofs.codes.ToldFromProcessingOutcome.from.Goals as goal

pub returns-in-Accepted : goal.returns-in-Accepted
unfolding result_of code_of written_of about_of sum_of processed_of
returns-in-Accepted c = c.plain.ensures ∙ sym (ap (λ o. result_of (processed_of o)) (c.in-Accepted.is))

pub returns-in-Replaced : goal.returns-in-Replaced
unfolding result_of code_of written_of about_of sum_of processed_of
returns-in-Replaced c = c.plain-in-Replaced.ensures ∙ sym (ap (λ o. result_of (processed_of o)) (c.in-Replaced.is))

pub returns-in-DoubleSpendLoser : goal.returns-in-DoubleSpendLoser
unfolding result_of code_of written_of about_of sum_of processed_of
returns-in-DoubleSpendLoser c = c.plain-in-DoubleSpendLoser.ensures ∙ sym (ap (λ o. result_of (processed_of o)) (c.in-DoubleSpendLoser.is))

pub returns-in-VerdictNeeded : goal.returns-in-VerdictNeeded
unfolding result_of code_of written_of about_of sum_of processed_of
returns-in-VerdictNeeded c = c.plain-in-VerdictNeeded.ensures ∙ sym (ap (λ o. result_of (processed_of o)) (c.in-VerdictNeeded.is))

pub returns-in-Declined : goal.returns-in-Declined
unfolding result_of code_of written_of about_of sum_of processed_of
returns-in-Declined c = c.declined.ensures ∙ sym (ap (λ o. result_of (processed_of o)) (c.in-Declined.is))
