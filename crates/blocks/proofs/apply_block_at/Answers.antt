-- `blocks::apply_block_at` meets its contract: a refused block has changed nothing; else it starts as `Running` says, the loop keeps it, and where nothing
-- is left to be recorded it gives all that the call promises (`promised`). Assumes nothing.
use Rattle.std.proofs.Common.{refl, sym, ap, ◌∙◌, arith, rules}
use Rattle.pool_types.specs.Refusals.{code_of}
use Rattle.blocks.specs.Runs.{begin-cache, begin-pool, begin-ready, run-begun}
use Rattle.blocks.specs.Post.{promised-refused, promised, promise-there, spares-there}
use Rattle.blocks.proofs.apply_block_at.Goals as goal

pub returns-in-Err : goal.returns-in-Err
returns-in-Err c =
    let x = promised-refused {time = c.args.time} {s = c.args.stats.now} c.in-Err.ensures in
    record { block_promise = x.promise; outcome_value = x.ours; by_index = (x.spares, x.stats); outcome_value_2 = x.unfit; by_index_2 = x.placed }

pub prune-cached-requires : goal.prune-cached-requires
prune-cached-requires c = begin-cache _ _ _ _ _ _ _ (sym c.refusal.ensures ∙ ap code_of c.in_default.is)

pub invariant_of-pool : goal.invariant_of-pool
invariant_of-pool c = record { fits = begin-pool _ _ _ _ _ _ _ (sym c.refusal.ensures ∙ ap code_of c.in_default.is) }

pub next-run-requires : goal.next-run-requires
next-run-requires c = begin-ready _ _ _ _ _ _ _ (sym c.refusal.ensures ∙ ap code_of c.in_default.is) _ _ (c.fresh.ensures c.args.mempool) (omega arith)

pub loop-run-init : goal.loop-run-init
loop-run-init c =
    record {
      same = (refl, refl, refl, refl);
      running = run-begun _ _ _ _ _ _ _ (sym c.refusal.ensures ∙ ap code_of c.in_default.is) refl (c.fresh.ensures c.args.mempool) c.prune-cached.ensures.pruned c.next-run.ensures.went _;
    }

pub returns : goal.returns
returns c =
    let k = c.loop-run.invariant in
    let x = promised k.running c.in_default-seen.is in
    -- the pool still stands in the caller's words
    let p = sym (k.same.0 ∙ c.next-run.ensures.same.0) in
    let q = sym (k.same.1 ∙ c.next-run.ensures.same.1) in
    record {
      block_promise = promise-there k.running c.in_default-seen.is c.finish.ensures (search rules) (search rules);
      outcome_value = rw c.finish.ensures x.ours;
      by_index = spares-there k.running c.in_default-seen.is c.finish.ensures (search rules) (search rules);
      outcome_value_2 = rw c.finish.ensures x.unfit;
      by_index_2 = rw c.finish.ensures x.placed;
    }
