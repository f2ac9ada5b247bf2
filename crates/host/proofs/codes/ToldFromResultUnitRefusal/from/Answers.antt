-- `codes::Told::from` meets its contract, outcome by outcome. Assumes nothing.
use mathlib.Core.Path.{sym, ap, ◌∙◌}
use Rattle.pool_types.specs.Outcomes.{done_of, written_of}
use Rattle.host.specs.Codes.{code_of, about_of, sum_of, result_of}
use Rattle.host.proofs.codes.ToldFromResultUnitRefusal.from.Goals as goal

pub returns-in-Ok : goal.returns-in-Ok
unfolding result_of code_of written_of about_of sum_of done_of
returns-in-Ok c = c.plain.ensures ∙ sym (ap (λ o. result_of (done_of o)) (c.in-Ok.is))

pub returns-in-Err : goal.returns-in-Err
unfolding result_of code_of written_of about_of sum_of done_of
returns-in-Err c = c.declined.ensures ∙ sym (ap (λ o. result_of (done_of o)) (c.in-Err.is))
