-- `gunthyd_select_for_rebroadcast` meets its contract: a state that is too short writes nothing, else what select_for_rebroadcast says of the state
-- that was read. Assumes nothing.
use Rattle.host.specs.Passes.{rebroadcast-words}
use Rattle.host.proofs.passes.gunthyd_select_for_rebroadcast.Goals as goal

pub returns : goal.returns
returns c = rebroadcast-words _ _ _ _ _ _ c.select_for_rebroadcast.result c.if-state-lt-STATE_WORDS.false c.load_state-mempool.ensures c.select_for_rebroadcast.ensures.rebroadcast_promise c.select_for_rebroadcast.ensures.result_value c.select_for_rebroadcast.ensures.told c.select_for_rebroadcast.ensures.result_value_2 c.list_code.ensures
