use native.Mathlib.Omega.{arith}
use mathlib.Core.List.{[]}
use mathlib.Core.Path.{◌∙◌}
use Rattle.console.specs.Texts.{prints-as}
use Rattle.console.specs.Laws.{sent-placed, sent-ids, sent-not, sent-cut}
use Rattle.peers.specs.Flat.{records}
use Rattle.console.proofs.query.on_rebroadcast.Goals as goal

pub with_ids-requires : goal.with_ids-requires
with_ids-requires c = let h = sent-placed _ _ _ (c.select_for_rebroadcast-sent.ensures.rebroadcast_promise [] [] c.requires.pool_fits.0 c.requires.pool_fits.1.boxes) c.in-Ok.is in (omega (arith, h, c.select_for_rebroadcast-sent.auto), omega (arith, h, c.requires.listing_len_bound))

pub returns-in-Ok : goal.returns-in-Ok
returns-in-Ok c k p = prints-as (sent-ids _ _ _ (c.select_for_rebroadcast-sent.ensures.rebroadcast_promise k (records p) c.requires.pool_fits.0 c.requires.pool_fits.1.boxes) c.in-Ok.is ∙ sent-cut _ _ _ _ _ _ c.min-m.ensures) c.with_ids.ensures

pub returns-in-Err : goal.returns-in-Err
returns-in-Err c k p = prints-as (sent-not _ _ _ (c.select_for_rebroadcast-sent.ensures.rebroadcast_promise k (records p) c.requires.pool_fits.0 c.requires.pool_fits.1.boxes) c.in-Err.is ∙ sent-cut _ _ _ _ _ _ c.min-m.ensures) c.refused_for.ensures
