-- What poolrun was told since its last `(ready)`: the settings of the `pool` form that was accepted, and each changing form that was read since, as a
-- call of the pool, with what it was answered. Demand 3's ledger is fed these and nothing else.
use Rattle.pool_types.specs.declared.Refusal.{Refusal}
use Rattle.std.specs.Prelude.{Err, Ok}
use Rattle.std.specs.Prelude.{ℕ, ◌/◌, ◌≡◌, List, [], ◌∷◌, length, take}
use Rattle.words.specs.Ids.{id_of}
use Rattle.pool_types.specs.declared.MempoolConfig.{MempoolConfig}
use Rattle.pool_types.specs.declared.Mempool.{Mempool}
use Rattle.entries.specs.Layout.{entries_room}
use Rattle.boxes.specs.Layout.{boxes_room}
use Rattle.expiring_cache.specs.Layout.{cache_room}
use Rattle.peers.specs.Flat.{records}
use Rattle.store.specs.World.{Result, world_of}
use Rattle.mempool.specs.Start.{Sizes, sizes, started}
use Rattle.process.specs.Post.{result_of}
use Rattle.returns.specs.Returns.{returned, invalidated}
use Rattle.blocks.specs.Post.{result_of as block_result}
use Rattle.cleanup.specs.Passes.{PassResult, pass_of, still, opened, nexted, answered}
use Rattle.lines.specs.declared.read.PoolForm.{PoolForm}
use Rattle.console.specs.Console.{config_of, submission_of, unconfirmed_of}
use Rattle.console.specs.Calls.{call_of}
use Rattle.console.specs.Calls.{words_of as list_words}
use Rattle.console.specs.Kept.{Kept}
use Rattle.console.specs.declared.calls.Call.{Call}
use Rattle.console.specs.declared.calls.Call.TheVariants as call
use Rattle.console.specs.declared.calls.Query.{Query}
use Rattle.console.specs.declared.calls.Change.{Change}
use Rattle.console.specs.declared.calls.Change.TheVariants.{Submit, Return, Block, Invalidate, Open, Next, Answer}
use Rattle.ledger.specs.Ledger.{Heard}
use Rattle.ledger.specs.Ledger as ledger
use Rattle.ledger.specs.Run.{Moment, moment}
use Rattle.poolrun.specs.Input.{Words, State, Answered}

-- ---- the pool that poolrun holds

abbrev pub moment_of : State → Moment
moment_of s = moment s.words.entries s.words.boxes s.words.cache (records s.words.peers) s.kept.mempool

abbrev pub sizes_of : Words → Sizes
sizes_of w = sizes (entries_room w.entries) (boxes_room w.boxes) (cache_room w.cache) (length w.peers / 2)

-- ---- a changing form as a call of the pool; f and s are the words of its two lists

abbrev pub made_call : List ℕ → List ℕ → Change → ledger.Call
made_call f s (Submit t) = ledger.Submit (submission_of t) f s
made_call f s (Return g) = ledger.Return (unconfirmed_of g) f s
made_call f s (Block g) = ledger.Block g.time f s
made_call f s (Invalidate time x) = ledger.Invalidate time (id_of x)
made_call f s (Open time limit preheader) = ledger.Open time limit preheader
made_call f s Next = ledger.Next
made_call f s (Answer n verdict) = ledger.Answer f verdict

-- what it is to come to: its outcome is what the answer's text says
module _ (w : Words) (h : Kept) where
  abbrev quiet : Result → PassResult
  quiet r = still r.outcome r.world (pass_of h.mempool.pass)

  abbrev pub comes_to : List ℕ → List ℕ → Change → PassResult
  comes_to f s (Submit t) = quiet (result_of w.entries w.boxes w.cache (records w.peers) w.answer h.mempool (submission_of t) f s)
  comes_to f s (Return g) = quiet (returned (entries_room w.entries) (boxes_room w.boxes) h.mempool (world_of w.entries w.boxes w.cache (records w.peers) h.mempool) (unconfirmed_of g) f s)
  comes_to f s (Block g) = quiet (block_result w.entries w.boxes w.cache (records w.peers) w.answer h.mempool h.stats g.time f s).result
  comes_to f s (Invalidate time x) = quiet (invalidated h.mempool (world_of w.entries w.boxes w.cache (records w.peers) h.mempool) time (id_of x))
  comes_to f s (Open time limit preheader) = opened (world_of w.entries w.boxes w.cache (records w.peers) h.mempool) (pass_of h.mempool.pass) time limit preheader
  comes_to f s Next = nexted h.mempool.config (world_of w.entries w.boxes w.cache (records w.peers) h.mempool) (pass_of h.mempool.pass)
  comes_to f s (Answer n verdict) = answered h.mempool.config (world_of w.entries w.boxes w.cache (records w.peers) h.mempool) (pass_of h.mempool.pass) f verdict

-- a line that was answered: the words of its lists, of a changing form
module _ {s s' : State} {t : List ℕ} (x : Answered s t s') (c : Change) where
  abbrev pub list_one : List ℕ
  list_one = take (list_words c).one x.comes.first

  abbrev pub list_two : List ℕ
  list_two = take (list_words c).two x.comes.second

  -- what the ledger hears of it
  abbrev pub heard_of : Heard
  heard_of = record { call = made_call list_one list_two c; outcome = (comes_to s.words s.kept list_one list_two c).outcome }

-- ---- the forms read since the last `(ready)`, the last first

-- a line that is no changing call: a query, no form, or a `pool` form that is refused
pub data Other (w : Words) : Call → Type 0 where
  asks : (q : Query) → Other w (call.Ask q)
  unreadable : Other w call.Unreadable
  refused : (p : PoolForm) (f : Refusal) → started (sizes_of w) (config_of p) ≡ Err f → Other w (call.Start p)

pub data Since (g : MempoolConfig) : List Heard → State → Type 0 where
  -- a `pool` form with these settings was accepted
  begins : {s s' : State} {t : List ℕ} (x : Answered s t s') (p : PoolForm) (st : Mempool) → call_of x.comes.form ≡ call.Start p
      → started (sizes_of s.words) (config_of p) ≡ Ok st → config_of p ≡ g → Since g [] s'
  -- a changing form was read
  makes : {h : List Heard} {s s' : State} {t : List ℕ} → Since g h s → (x : Answered s t s') (c : Change) → call_of x.comes.form ≡ call.Alter c → Since g (heard_of x c ∷ h) s'
  -- any other line
  tells : {h : List Heard} {s s' : State} {t : List ℕ} → Since g h s → (x : Answered s t s') → Other s.words (call_of x.comes.form) → Since g h s'
  -- bytes of a line in progress, and the end of the input
  goes : {h : List Heard} {s s' : State} → Since g h s → s'.words ≡ s.words → s'.kept ≡ s.kept → Since g h s'

-- the history of what poolrun holds
pub record History (s : State) : Type 0 where
  pub settings : MempoolConfig
  pub heard : List Heard
  pub since : Since settings heard s
