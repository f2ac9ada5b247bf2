-- `submission::gunthyd_process` meets its contract: too few words change nothing, else what process says of the state and the submission that were read,
-- with the words that were stored. Assumes nothing.
use Rattle.host.specs.Calls.{lent, submit-few, submit-short, submit-words}
use Rattle.host.specs.Results.{says-by, lacked}
use Rattle.host.proofs.submission.gunthyd_process.Goals as goal

pub returns-then-state-lt-STATE_WORDS : goal.returns-then-state-lt-STATE_WORDS
returns-then-state-lt-STATE_WORDS c = submit-few _ _ _ _ _ _ _ c.if-state-lt-STATE_WORDS.true c.refuse.ensures

pub returns-then-lacks : goal.returns-then-lacks
returns-then-lacks c = submit-short _ _ _ _ _ _ _ c.if-state-lt-STATE_WORDS.false c.lacks.ensures c.if-lacks.true c.too_few.ensures c.refuse-then-lacks.ensures

pub load_submission-given-requires : goal.load_submission-given-requires
load_submission-given-requires c = lacked _ _ _ c.lacks.ensures c.if-lacks.false

pub returns : goal.returns
returns c =
    submit-words
    (lent c.args.entries.now c.args.boxes.now c.args.cache.now c.args.peers.now c.args.answer.now)
    (lent c.process-done.new.entries c.process-done.new.boxes c.process-done.new.cache c.process-done.new.peers c.process-done.new.answer)
    c.args.state.now _ c.args.res.now _ c.args.sub.now c.args.inputs.now c.args.outputs.now
    c.process-done.result c.if-state-lt-STATE_WORDS.false c.lacks.ensures c.if-lacks.false c.load_state-mempool.ensures c.load_submission-given.ensures
    c.process-done.ensures.0 c.process-done.ensures.1 c.process-done.ensures.2 c.process-done.ensures.3 c.process-done.ensures.4 c.store_left.ensures (says-by c.put.ensures c.into.ensures)
