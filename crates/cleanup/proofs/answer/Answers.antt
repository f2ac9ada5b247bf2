-- `cleanup::answer` meets its contract: what is refused is the refusal of `answered`; else an input is missing, or the verdict decides. Assumes nothing.
use mathlib.Core.Path.{ap}
use mathlib.Core.Bool.{not}
use Rattle.pool_types.specs.Refusals.{code_of}
use Rattle.cleanup.specs.Laws.{answer-stopped, answer-missing, answer-weighed}
use Rattle.cleanup.proofs.answer.Goals as goal

pub returns-in-Err-clause-answer_promise : goal.returns-in-Err-clause-answer_promise
returns-in-Err-clause-answer_promise c = answer-stopped _ _ _ _ _ _ _ c.check_answer.ensures.value _ c.in-Err.is c.check_answer.ensures.refusal_value

pub returns-then-not-answer_resolved-clause-answer_promise : goal.returns-then-not-answer_resolved-clause-answer_promise
returns-then-not-answer_resolved-clause-answer_promise c = answer-missing _ _ _ _ _ _ _ c.check_answer.ensures.value (ap code_of c.in_default.is) (rw (c.new-found.ensures.0, c.new-found.ensures.1) at c.answer_resolved.ensures) (ap not c.if-not-answer_resolved.true) _ _ _ c.answer_out-after.ensures

pub returns-clause-answer_promise : goal.returns-clause-answer_promise
returns-clause-answer_promise c = answer-weighed _ _ _ _ _ _ _ c.check_answer.ensures.value (ap code_of c.in_default.is) (rw (c.new-found.ensures.0, c.new-found.ensures.1) at c.answer_resolved.ensures) (ap not c.if-not-answer_resolved.false) _ _ _ _ _ c.weigh.ensures.pass_post
