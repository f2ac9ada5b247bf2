-- The tests of a submission up to its verdict (document 01, "A submission"): "Order: 20, 1, 2, 3, 4, 5, 22, 23, 24, 25, 26, 7, 27, 28, 8".
-- Each definition gives the number of the first test that fails, and 0 where none does. A submission `a` brings two lists of words beside
-- it: `ins`, 5 words an input, and `outs`, 7 words an output.
use Rattle.peers.specs.Peers.{Standing}
use Rattle.std.specs.Prelude.{ℕ, ◌+◌, Bool, true, false, not, ◌&&◌, List, eqb, leb, ltb}
use Rattle.words.specs.Lists.{pick}
use Rattle.words.specs.Sums.{cap}
use Rattle.words.specs.Ids.{id_of}
use Rattle.pool_types.specs.declared.Mempool.{Mempool}
use Rattle.pool_types.specs.declared.Submission.{Submission}
use Rattle.pool_types.specs.declared.Source.{Source}
use Rattle.pool_types.specs.declared.Source.TheVariants.{Local, Peer}
use Rattle.pool_types.specs.declared.Verdict.{Verdict}
use Rattle.pool_types.specs.declared.Verdict.TheVariants.{Valid, Invalid, Absent}
use Rattle.arguments.specs.Arguments.{whole, records, fee_of, height_key, ahead_of}
use Rattle.expiring_cache.specs.Cache.{Held, held}
use Rattle.peers.specs.Peers.{at_limit, none_free}
use Rattle.entries.specs.Entries.{Entry, pooled}
use Rattle.boxes.specs.Records.{index}
use Rattle.indexes.specs.Resolved.{all_resolved, submitted}
use Rattle.pool.specs.Pool.{Tables, no_room}

-- ---- what the call itself brings: 20, 1, 2, 3, 4, 5

-- 5: "valid verdict on a submission costs over 2^32−1"
abbrev pub dear : Verdict → Bool
dear (Valid c) = ltb 4294967295 c
dear Invalid = false
dear Absent = false

-- 20 "a pass is open"; 1 "a list is no whole number of records"; 2 "answer buffer below pooled + 1 ids", of which it holds `room`;
-- 3 "size above 98,304"; 4 "fee sum above 2^64−1"; 5
unfoldable pub call_refusal : Mempool → ℕ → Submission → List ℕ → List ℕ → ℕ
call_refusal st room a ins outs =
    pick st.pass.open 20
    (pick (not (whole 5 ins && whole 7 outs)) 1
    (pick (ltb room (st.counts.pooled + 1)) 2
    (pick (ltb 98304 a.size) 3
    (pick (ltb cap (fee_of outs)) 4
    (pick (dear a.verdict) 5 0)))))

-- ---- what the pool holds against it: 22, 23, 24, 25, 26

-- "peer or local"
abbrev pub remote : Source → Bool
remote Local = false
remote (Peer p) = true

-- 24 "block sum at or above its limit (remote)"; 25 "the peer has a record at or above its limit"; 26 "it has no record and all 256 are
-- used", where the peer stands at `at`
unfoldable pub peer_refusal : Mempool → Standing → ℕ
peer_refusal st at =
    pick (leb st.config.cost_per_block st.sums.interblock_cost) 24
    (pick (at_limit st.config.cost_per_peer_per_block at) 25
    (pick (none_free 256 st.sums.peers at) 26 0))

-- 22 "id held in the cache", of these rows; 23 "already pooled", among these entries; 24, 25, 26 of a remote one
unfoldable pub state_refusal : Mempool → List Held → List Entry → Standing → Submission → ℕ
state_refusal st rows es at a =
    pick (held st.config.invalidation_ttl a.time (id_of a.id) rows) 22
    (pick (pooled (id_of a.id) es) 23
    (pick (remote a.source) (peer_refusal st at) 0))

-- ---- its inputs and outputs: 7, 27, 28, 8

-- 7 "more than 5,000 inputs", of which `most` are allowed; 27 "no free entry, or fewer free box records than inputs plus outputs, counted
-- before removals", of E entries and R records; 28 "an input neither confirmed nor in the producer index"; 8 "an output's height above the
-- preheader"
unfoldable pub list_refusal : ℕ → ℕ → ℕ → Tables → Submission → List ℕ → List ℕ → ℕ
list_refusal most E R t a ins outs =
    pick (ltb most (records 5 ins)) 7
    (pick (no_room E R t (records 5 ins + records 7 outs)) 27
    (pick (not (all_resolved (index true t.boxes) (submitted ins))) 28
    (pick (ahead_of (height_key 7 6 outs) a.preheader) 8 0)))

-- ---- all of them, in order

-- the first number that is not 0
abbrev pub first : ℕ → ℕ → ℕ
first m n = pick (eqb m 0) n m

unfoldable pub refusal_of : ℕ → ℕ → ℕ → Mempool → ℕ → Tables → List Held → Standing → Submission → List ℕ → List ℕ → ℕ
refusal_of most E R st room t rows at a ins outs =
    first (call_refusal st room a ins outs)
    (first (state_refusal st rows t.entries at a)
    (list_refusal most E R t a ins outs))
