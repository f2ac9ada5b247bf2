-- Lists of calls (document 01, "Demand 3": "A list begins with what an accepted start left; each call gets store and state as the last left or returned
-- them; nobody else writes them; arguments and answer buffers are apart."). A step is what the ledger needs of a call and no more: outcome, decoded store
-- and pass are those of the call's own definition, and the settings stay. That each call's contract gives its step is Steps.antt.
use Rattle.pool_types.specs.Refusals.{refusal_number}
use Rattle.pool_types.specs.declared.Refusal.{Refusal}
use Rattle.std.specs.Prelude.{Err, Ok}
use Rattle.std.specs.Prelude.{ℕ, ◌≤◌, ◌≡◌, List, [], ◌∷◌, length}
use Rattle.pool_types.specs.declared.Mempool.{Mempool}
use Rattle.pool_types.specs.declared.MempoolConfig.{MempoolConfig}
use Rattle.pool_types.specs.declared.Submission.{Submission}
use Rattle.pool_types.specs.Outcomes.{Outcome, refused}
use Rattle.stats.specs.declared.FeeStats.{FeeStats}
use Rattle.expiring_cache.specs.Layout.{cache_room}
use Rattle.peers.specs.declared.PeerRecord.{PeerRecord}
use Rattle.entries.specs.Layout.{entries_room}
use Rattle.boxes.specs.Layout.{boxes_room}
use Rattle.store.specs.World.{World, world, world_of, Result}
use Rattle.store.specs.Fits.{Kept}
use Rattle.mempool.specs.Start.{Sizes, sizes, empty, started}
use Rattle.process.specs.Process.{Limits, processed}
use Rattle.process.specs.Post.{limits_of}
use Rattle.returns.specs.Returns.{returned, invalidated}
use Rattle.blocks.specs.Blocks.{applied}
use Rattle.cleanup.specs.Passes.{PassNow, pass_of, no_pass, PassResult, still, opened, nexted, answered}
use Rattle.ledger.specs.Ledger.{Call, Submit, Return, Block, Invalidate, Open, Next, Answer, Start, Ask, Heard}

-- store and state between two calls
pub record Moment : Type 0 where
  -- the words of entries, boxes and cache, and the peer records, all lent
  pub entries : List ℕ
  pub boxes : List ℕ
  pub cache : List ℕ
  pub peers : List PeerRecord
  -- the state that the last call handed back
  pub state : Mempool

abbrev pub moment : List ℕ → List ℕ → List ℕ → List PeerRecord → Mempool → Moment
moment e b k ys st = record { entries = e; boxes = b; cache = k; peers = ys; state = st }

-- what the words and records decode to, and that they are kept: the counts of the state fit them, and the indexes are right
abbrev pub world_at : Moment → World
world_at m = world_of m.entries m.boxes m.cache m.peers m.state

abbrev pub KeptAt : Moment → Type 0
KeptAt m = Kept m.entries m.boxes m.cache m.peers m.state

abbrev pub pass_at : Moment → PassNow
pass_at m = pass_of m.state.pass

-- as a start reads the lent store, and as a submission does
abbrev pub sizes_at : Moment → Sizes
sizes_at m = sizes (entries_room m.entries) (boxes_room m.boxes) (cache_room m.cache) (length m.peers)

abbrev pub limits_at : Moment → Limits
limits_at m = limits_of m.entries m.boxes

-- ---- what a call leaves

-- from the moment m, a call answered o and left the moment n, as r has it
pub record Became (m n : Moment) (o : Outcome) (r : PassResult) : Type 0 where
  pub kept : KeptAt n
  pub config : n.state.config ≡ m.state.config
  pub outcome : o ≡ r.outcome
  pub world : world_at n ≡ r.world
  pub pass : pass_at n ≡ r.pass

-- .. where the store is kept. That is never assumed of a list: the start gives it, and each step hands it on.
abbrev pub Becomes : Moment → Moment → Outcome → PassResult → Type 0
Becomes m n o r = KeptAt m → Became m n o r

-- a call that leaves the pass as it is
abbrev pub pass_kept : Moment → Result → PassResult
pass_kept m r = still r.outcome r.world (pass_at m)

-- ---- the steps of which the ledger does not hear everything

-- a submission, with an answer buffer that holds `room` ids
pub record SubmitStep (m n : Moment) (a : Submission) (ins outs : List ℕ) (o : Outcome) : Type 0 where
  pub room : ℕ
  pub left : Becomes m n o (pass_kept m (processed (limits_at m) m.state (world_at m) room a ins outs))

-- a block, with such a buffer and these statistics
pub record BlockStep (m n : Moment) (time : ℕ) (txs ins : List ℕ) (o : Outcome) : Type 0 where
  pub room : ℕ
  pub stats : FeeStats
  pub left : Becomes m n o (pass_kept m (applied m.state (world_at m) stats room time txs ins).result)

-- a start that is refused: "nothing changes"
pub record StartStep (m n : Moment) (c : MempoolConfig) (o : Outcome) : Type 0 where
  pub why : Refusal
  pub outcome : o ≡ refused (refusal_number why) 0
  pub post : Err why ≡ started (sizes_at m) c
  pub left : Becomes m n o (still o (world_at m) (pass_at m))

-- ---- a step, and a list of them, the last first. A query changes nothing; what it answers its contract says.

abbrev pub Step : Call → Outcome → Moment → Moment → Type 0
Step (Submit a ins outs) o m n = SubmitStep m n a ins outs o
Step (Return u ins outs) o m n = Becomes m n o (pass_kept m (returned (entries_room m.entries) (boxes_room m.boxes) m.state (world_at m) u ins outs))
Step (Block time txs ins) o m n = BlockStep m n time txs ins o
Step (Invalidate time k) o m n = Becomes m n o (pass_kept m (invalidated m.state (world_at m) time k))
Step (Open time limit preheader) o m n = Becomes m n o (opened (world_at m) (pass_at m) time limit preheader)
Step Next o m n = Becomes m n o (nexted m.state.config (world_at m) (pass_at m))
Step (Answer flags v) o m n = Becomes m n o (answered m.state.config (world_at m) (pass_at m) flags v)
Step (Start time c) o m n = StartStep m n c o
Step (Ask q) o m n = Becomes m n o (still o (world_at m) (pass_at m))

-- a store that holds nothing: no transaction, no id once found invalid, no charge
abbrev pub nothing : World
nothing = world (record { entries = []; boxes = [] }) [] 0 []

-- "what an accepted start left": a store of these sizes may be started with these settings; nothing is held, and no pass is open
pub record Begun (g : MempoolConfig) (m : Moment) : Type 0 where
  pub sizes : Sizes
  pub accepted : started sizes g ≡ Ok (empty g)
  pub kept : KeptAt m
  pub config : m.state.config ≡ g
  pub world : world_at m ≡ nothing
  pub pass : pass_at m ≡ no_pass

-- with a peer limit of at least 1; then call by call
pub data Run (g : MempoolConfig) : List Heard → Moment → Type 0 where
  begin : (m : Moment) → Begun g m → 1 ≤ g.cost_per_peer_per_block → Run g [] m
  call : {h : List Heard} {m : Moment} (c : Call) (o : Outcome) (n : Moment) → Run g h m → Step c o m n → Run g (record { call = c; outcome = o } ∷ h) n
