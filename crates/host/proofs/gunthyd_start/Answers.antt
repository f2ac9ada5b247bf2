-- `gunthyd_start` meets its contract: too few words change nothing, a ready pool is begun, and a refusal changes nothing. Assumes nothing.
use Rattle.host.specs.Starts.{scant-none, start-short, start-ready, start-refused}
use Rattle.host.specs.Results.{says-by, done-words}
use mathlib.Core.Path.{sym, ◌∙◌}
use Rattle.host.proofs.gunthyd_start.Goals as goal

pub returns-then-too_short : goal.returns-then-too_short
returns-then-too_short c = start-short _ _ _ _ _ _ _ _ _ _ c.too_short.ensures c.if-too_short.true c.refuse.ensures

pub load_config-config-requires : goal.load_config-config-requires
load_config-config-requires c = (scant-none _ _ _ _ (sym c.too_short.ensures ∙ c.if-too_short.false)).0

pub begin-requires-clause-in_bounds : goal.begin-requires-clause-in_bounds
begin-requires-clause-in_bounds c = (scant-none _ _ _ _ (sym c.too_short.ensures ∙ c.if-too_short.false)).1

pub begin-requires-clause-in_bounds_2 : goal.begin-requires-clause-in_bounds_2
begin-requires-clause-in_bounds_2 c = (scant-none _ _ _ _ (sym c.too_short.ensures ∙ c.if-too_short.false)).0

pub store_stats-requires : goal.store_stats-requires
store_stats-requires c = (scant-none _ _ _ _ (sym c.too_short.ensures ∙ c.if-too_short.false)).2

pub returns-in-Ok : goal.returns-in-Ok
returns-in-Ok c = start-ready _ _ _ _ _ _ _ _ _ _ c.too_short.ensures c.if-too_short.false c.load_config-config.ensures c.start-outcome.ensures.value _ _ _ c.in-Ok.is c.begin.ensures c.new.ensures c.store_stats.ensures (says-by c.put.ensures (done-words _ c.plain.ensures))

pub returns-in-Err : goal.returns-in-Err
returns-in-Err c = start-refused _ _ _ _ _ _ _ _ _ _ c.too_short.ensures c.if-too_short.false c.load_config-config.ensures c.start-outcome.ensures.value _ c.in-Err.is c.refuse-in-Err.ensures
