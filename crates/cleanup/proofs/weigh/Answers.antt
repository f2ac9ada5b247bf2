-- `cleanup::weigh` meets its contract, verdict by verdict. Assumes nothing.
use Rattle.cleanup.specs.Laws.{weigh-absent, weigh-valid, weigh-invalid}
use Rattle.cleanup.proofs.weigh.Goals as goal

pub returns-in-Absent-clause-pass_post : goal.returns-in-Absent-clause-pass_post
returns-in-Absent-clause-pass_post c = weigh-absent _ _ _ _ _ c.in-Absent.is

pub returns-in-Invalid-clause-pass_post : goal.returns-in-Invalid-clause-pass_post
returns-in-Invalid-clause-pass_post c = weigh-invalid _ _ _ _ _ c.remember-known.ensures.cache_ok_2.1 _ c.in-Invalid.is _ c.remember-known.ensures.cached _ _ _ c.answer_out-after.ensures

pub returns-in-Valid-clause-pass_post : goal.returns-in-Valid-clause-pass_post
returns-in-Valid-clause-pass_post c = weigh-valid _ _ _ _ _ _ c.in-Valid.is _ _ c.stamp-after.ensures
