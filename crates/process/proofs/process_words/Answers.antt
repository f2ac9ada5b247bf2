-- `process_words` meets its contract: too few words fit no count; else the first 256 records are all that a submission looks at. Assumes nothing.
use Rattle.process.specs.Words.{too_few, in_words}
use Rattle.process.proofs.process_words.Goals as goal

pub returns-then-peers-lt-PEER_WORDS : goal.returns-then-peers-lt-PEER_WORDS
returns-then-peers-lt-PEER_WORDS c = too_few _ _ _ _ _ _ _ _ _ c.if-peers-lt-PEER_WORDS.true c.unfit.ensures

pub returns : goal.returns
returns c = in_words _ _ _ _ _ _ _ _ _ c.if-peers-lt-PEER_WORDS.false c.load_peers-records.ensures c.store_peers.ensures.1 c.store_peers.ensures.0 c.process-processed.ensures
