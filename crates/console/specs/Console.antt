-- What poolrun does with a line that was read (document 01's paragraph on `poolrun`; docs/FORMS.md): the text that it prints and what it holds
-- afterwards, as a function of the form, of the words that it lends to the pool and of what it held.
use Rattle.std.specs.Prelude.{Err, Ok, Result}
use Rattle.pool_types.specs.declared.Refusal.{Refusal}
use Rattle.pool_types.specs.declared.Mempool.{Mempool}
use Rattle.pool_types.specs.Refusals.{refusal_number}
use Rattle.std.specs.Prelude.{ℕ, ◌/◌, ◌≡◌, refl, Bool, true, false, List, [], ◌∷◌, map, length, take, Option, Some, None}
use Rattle.words.specs.Lists.{pick}
use Rattle.words.specs.Ids.{id_of}
use Rattle.pool_types.specs.declared.FeeStrategy.TheVariants.{FeePerByte}
use Rattle.pool_types.specs.declared.MempoolConfig.{MempoolConfig}
use Rattle.pool_types.specs.declared.Source.{Source}
use Rattle.pool_types.specs.declared.Source.TheVariants.{Local, Peer}
use Rattle.pool_types.specs.declared.Submission.{Submission}
use Rattle.pool_types.specs.Outcomes.{Outcome, refused, done, wrote, needed, candidate, ended, missing, invalid, valid, number, said, entry, none}
use Rattle.entries.specs.Layout.{entries_room}
use Rattle.boxes.specs.Layout.{boxes_room}
use Rattle.boxes.specs.Flat.{count_of, ids_to}
use Rattle.expiring_cache.specs.Layout.{cache_room}
use Rattle.peers.specs.Flat.{flat_peers, records}
use Rattle.stats.specs.Stats.{fresh}
use Rattle.stats.specs.declared.FeeStats.{FeeStats}
use Rattle.store.specs.World.{World, world_of, Result as Reached}
use Rattle.process.specs.Post.{result_of}
use Rattle.returns.specs.Returns.{returned, invalidated}
use Rattle.returns.specs.declared.UnconfirmedTx.{UnconfirmedTx}
use Rattle.blocks.specs.Blocks.{BlockResult}
use Rattle.blocks.specs.Post.{result_of as block_result}
use Rattle.cleanup.specs.Passes.{PassNow, pass_of, PassResult, opened, nexted, answered}
use Rattle.cleanup.specs.Rebroadcast.{rebroadcast}
use Rattle.fees.specs.Fees as fees
use Rattle.fees.specs.Fees.{Bin, bin, recommended, expected_wait, histogram_of}
use Rattle.mempool.specs.Start.{sizes, empty, started}
use Rattle.mempool.specs.Listing.{Listing, top_of}
use Rattle.mempool.specs.Queries.{contains_of, spending_of}
use Rattle.lines.specs.declared.read.PoolForm.{PoolForm}
use Rattle.lines.specs.declared.read.TxForm.{TxForm}
use Rattle.lines.specs.declared.read.ReturnForm.{ReturnForm}
use Rattle.console.specs.declared.calls.Call.{Call}
use Rattle.console.specs.declared.calls.Call.TheVariants.{Start, Alter, Ask, Unreadable}
use Rattle.console.specs.declared.calls.Change.{Change}
use Rattle.console.specs.declared.calls.Change.TheVariants.{Submit, Return, Block, Invalidate, Open, Next, Answer}
use Rattle.console.specs.declared.calls.Query.{Query}
use Rattle.console.specs.declared.calls.Query.TheVariants.{Listing as Lists, Len, Contains, Spending, Fee, Wait, Histogram, Rebroadcast, Charges, Written}
use Rattle.forms.specs.Nums.{numeral, digit_byte}
use Rattle.replies.specs.Replies.{numbered, named, listed, replaced_text, pooled_text, row_of, spender_text, Pair, pair_text, charges_text, bins_text}
use Rattle.console.specs.Kept.{Kept}
use Rattle.console.specs.Calls.{words_of, lacks_pool}

-- ---- texts

-- `(ready)`, `(no pool)`, `(verdict needed)`, `(opened)`, `(yes)`, `(no)`, `(none)`
abbrev pub w_ready : List ℕ
w_ready = 40 ∷ 114 ∷ 101 ∷ 97 ∷ 100 ∷ 121 ∷ 41 ∷ []

abbrev pub w_no_pool : List ℕ
w_no_pool = 40 ∷ 110 ∷ 111 ∷ 32 ∷ 112 ∷ 111 ∷ 111 ∷ 108 ∷ 41 ∷ []

abbrev pub w_needed : List ℕ
w_needed = 40 ∷ 118 ∷ 101 ∷ 114 ∷ 100 ∷ 105 ∷ 99 ∷ 116 ∷ 32 ∷ 110 ∷ 101 ∷ 101 ∷ 100 ∷ 101 ∷ 100 ∷ 41 ∷ []

abbrev pub w_opened : List ℕ
w_opened = 40 ∷ 111 ∷ 112 ∷ 101 ∷ 110 ∷ 101 ∷ 100 ∷ 41 ∷ []

abbrev pub w_yes : List ℕ
w_yes = 40 ∷ 121 ∷ 101 ∷ 115 ∷ 41 ∷ []

abbrev pub w_no : List ℕ
w_no = 40 ∷ 110 ∷ 111 ∷ 41 ∷ []

abbrev pub w_none : List ℕ
w_none = 40 ∷ 110 ∷ 111 ∷ 110 ∷ 101 ∷ 41 ∷ []

-- `(refused `, `(unread `, `(len `, `(fee `, `(wait `, `(accepted `, `(returned `, `(invalidated `, `(candidate `, `(ended `, `(missing `, `(invalid `,
-- `(valid `, `(removed`, `(ids`
abbrev pub w_refused : List ℕ
w_refused = 40 ∷ 114 ∷ 101 ∷ 102 ∷ 117 ∷ 115 ∷ 101 ∷ 100 ∷ 32 ∷ []

abbrev pub w_unread : List ℕ
w_unread = 40 ∷ 117 ∷ 110 ∷ 114 ∷ 101 ∷ 97 ∷ 100 ∷ 32 ∷ []

abbrev pub w_len : List ℕ
w_len = 40 ∷ 108 ∷ 101 ∷ 110 ∷ 32 ∷ []

abbrev pub w_fee : List ℕ
w_fee = 40 ∷ 102 ∷ 101 ∷ 101 ∷ 32 ∷ []

abbrev pub w_wait : List ℕ
w_wait = 40 ∷ 119 ∷ 97 ∷ 105 ∷ 116 ∷ 32 ∷ []

abbrev pub w_accepted : List ℕ
w_accepted = 40 ∷ 97 ∷ 99 ∷ 99 ∷ 101 ∷ 112 ∷ 116 ∷ 101 ∷ 100 ∷ 32 ∷ []

abbrev pub w_returned : List ℕ
w_returned = 40 ∷ 114 ∷ 101 ∷ 116 ∷ 117 ∷ 114 ∷ 110 ∷ 101 ∷ 100 ∷ 32 ∷ []

abbrev pub w_invalidated : List ℕ
w_invalidated = 40 ∷ 105 ∷ 110 ∷ 118 ∷ 97 ∷ 108 ∷ 105 ∷ 100 ∷ 97 ∷ 116 ∷ 101 ∷ 100 ∷ 32 ∷ []

abbrev pub w_candidate : List ℕ
w_candidate = 40 ∷ 99 ∷ 97 ∷ 110 ∷ 100 ∷ 105 ∷ 100 ∷ 97 ∷ 116 ∷ 101 ∷ 32 ∷ []

abbrev pub w_ended : List ℕ
w_ended = 40 ∷ 101 ∷ 110 ∷ 100 ∷ 101 ∷ 100 ∷ 32 ∷ []

abbrev pub w_missing : List ℕ
w_missing = 40 ∷ 109 ∷ 105 ∷ 115 ∷ 115 ∷ 105 ∷ 110 ∷ 103 ∷ 32 ∷ []

abbrev pub w_invalid : List ℕ
w_invalid = 40 ∷ 105 ∷ 110 ∷ 118 ∷ 97 ∷ 108 ∷ 105 ∷ 100 ∷ 32 ∷ []

abbrev pub w_valid : List ℕ
w_valid = 40 ∷ 118 ∷ 97 ∷ 108 ∷ 105 ∷ 100 ∷ 32 ∷ []

abbrev pub w_removed : List ℕ
w_removed = 40 ∷ 114 ∷ 101 ∷ 109 ∷ 111 ∷ 118 ∷ 101 ∷ 100 ∷ []

abbrev pub w_ids : List ℕ
w_ids = 40 ∷ 105 ∷ 100 ∷ 115 ∷ []

-- "A refusal prints `(refused N)`, N its number"; "an unreadable line .. prints `(unread N)`, N its number from 1"
unfoldable pub refused_text : ℕ → List ℕ
refused_text n = numbered w_refused n

unfoldable pub unread_text : ℕ → List ℕ
unread_text n = numbered w_unread n

-- a submission of the id x, whose call wrote the ids ks; what is no outcome of one prints nothing
unfoldable pub tx_text : Outcome → ℕ → List ℕ → List ℕ
tx_text done x ks = named w_accepted x
tx_text (wrote k) x ks = replaced_text x ks
tx_text needed x ks = w_needed
tx_text (refused n k) x ks = refused_text n
tx_text (candidate k) x ks = []
tx_text (ended n) x ks = []
tx_text (missing k) x ks = []
tx_text (invalid k) x ks = []
tx_text (valid k) x ks = []
tx_text (number n) x ks = []
tx_text (said b) x ks = []
tx_text (entry k w b) x ks = []
tx_text none x ks = []

-- a call that says no more than that it was done, or how much it wrote: it prints t, and a refused one its number; what is no outcome of such a
-- call prints nothing
unfoldable pub or_refused : List ℕ → Outcome → List ℕ
or_refused t done = t
or_refused t (wrote k) = t
or_refused t (refused n k) = refused_text n
or_refused t needed = []
or_refused t (candidate k) = []
or_refused t (ended n) = []
or_refused t (missing k) = []
or_refused t (invalid k) = []
or_refused t (valid k) = []
or_refused t (number n) = []
or_refused t (said b) = []
or_refused t (entry k w b) = []
or_refused t none = []

-- a call of a pass: opened; a candidate or the end; what became of the candidate. What is no outcome of one prints nothing.
unfoldable pub pass_text : Outcome → List ℕ
pass_text done = w_opened
pass_text (candidate k) = named w_candidate k
pass_text (ended n) = numbered w_ended n
pass_text (missing k) = named w_missing k
pass_text needed = w_needed
pass_text (invalid k) = named w_invalid k
pass_text (valid k) = named w_valid k
pass_text (refused n k) = refused_text n
pass_text (wrote k) = []
pass_text (number n) = []
pass_text (said b) = []
pass_text (entry k w b) = []
pass_text none = []

-- .. a block whose call removed the ids ks
abbrev pub removed_text : Outcome → List ℕ → List ℕ
removed_text o ks = or_refused (listed w_removed ks) o

-- a query's answer
abbrev yes_no : Bool → List ℕ
yes_no true = w_yes
yes_no false = w_no

unfoldable pub query_text : Outcome → List ℕ
query_text (said b) = yes_no b
query_text (entry k w b) = spender_text (row_of k w b)
query_text none = w_none
query_text (refused n k) = refused_text n
query_text done = []
query_text (wrote k) = []
query_text needed = []
query_text (candidate k) = []
query_text (ended n) = []
query_text (missing k) = []
query_text (invalid k) = []
query_text (valid k) = []
query_text (number n) = []

-- .. a number behind its head
unfoldable pub number_text : List ℕ → Outcome → List ℕ
number_text head (number n) = numbered head n
number_text head (refused n k) = refused_text n
number_text head done = []
number_text head (wrote k) = []
number_text head needed = []
number_text head (candidate k) = []
number_text head (ended n) = []
number_text head (missing k) = []
number_text head (invalid k) = []
number_text head (valid k) = []
number_text head (said b) = []
number_text head (entry k w b) = []
number_text head none = []

-- .. rows, and pairs: "a pair is a count and a sum of bases"
unfoldable pub listing_text : Listing → List ℕ
listing_text t = or_refused (pooled_text t.rows) t.outcome

abbrev pub pair_of : Bin → Pair
pair_of b = record { one = b.count; two = b.total }

unfoldable pub histogram_text : fees.Histogram → List ℕ
histogram_text t = or_refused (bins_text (map pair_of t.bins)) t.outcome

-- .. and ids
unfoldable pub sent_text : Reached → List ℕ
sent_text s = or_refused (listed w_ids s.written) s.outcome

-- ---- what a form's fields stand for

-- "`pool` has the settings in the order of `MempoolConfig`, without the reward delay"
unfoldable pub config_of : PoolForm → MempoolConfig
config_of p =
    record {
      capacity = p.capacity;
      min_fee = p.min_fee;
      fee_strategy = p.strategy;
      cleanup_interval = p.interval;
      rebroadcast_count = p.rebroadcast;
      invalidation_ttl = p.ttl;
      invalidation_capacity = p.cache;
      cost_per_block = p.block_limit;
      cost_per_peer_per_block = p.peer_limit;
    }

unfoldable pub source_of : Option ℕ → Source
source_of (Some p) = Peer p
source_of None = Local

unfoldable pub submission_of : TxForm → Submission
submission_of t =
    record {
      time = t.time;
      id = t.id;
      size = t.size;
      preheader = t.preheader;
      source = source_of t.peer;
      verdict = t.verdict;
    }

-- "with the fields of `UnconfirmedTx`"
unfoldable pub unconfirmed_of : ReturnForm → UnconfirmedTx
unconfirmed_of g =
    record {
      id = g.id;
      fee = g.fee;
      size = g.size;
      cost = g.cost;
      validation_cost = g.measured;
      created = g.created;
      last_checked = g.checked;
      source = source_of g.peer;
    }

-- ---- what is held before the first `(ready)`

abbrev pub no_config : MempoolConfig
no_config =
    record {
      capacity = 0;
      min_fee = 0;
      fee_strategy = FeePerByte;
      cleanup_interval = 0;
      rebroadcast_count = 0;
      invalidation_ttl = 0;
      invalidation_capacity = 0;
      cost_per_block = 0;
      cost_per_peer_per_block = 0;
    }

abbrev pub nothing : Kept
nothing = record { ready = false; mempool = empty no_config; stats = fresh 0; written = 0 }

-- ---- what a line comes to

-- the text printed, and what is held then: whether there is a pool, its settings, pass, store and statistics, and the ids that the last changing
-- call wrote
pub record Line : Type 0 where
  pub text : List ℕ
  pub ready : Bool
  pub config : MempoolConfig
  pub pass : PassNow
  pub world : World
  pub stats : FeeStats
  pub written : List ℕ

-- the words that poolrun lends: entries, boxes, cache, peers, and the answer buffer of the changing calls
module _ (e b k p a : List ℕ) (h : Kept) where
  -- nothing changes
  unfoldable pub same : List ℕ → Line
  same t =
      record {
        text = t;
        ready = h.ready;
        config = h.mempool.config;
        pass = pass_of h.mempool.pass;
        world = world_of e b k (records p) h.mempool;
        stats = h.stats;
        written = ids_to 4 a h.written;
      }

  -- "a later accepted `pool` starts afresh", "its start's time is 0"; a refused one leaves the pool that was. It is a changing call that writes no ids.
  unfoldable pub started_line : Result Mempool Refusal → Line
  started_line (Ok st) =
      record {
        text = w_ready;
        ready = true;
        config = st.config;
        pass = pass_of st.pass;
        world = world_of e b k (records p) st;
        stats = fresh 0;
        written = [];
      }
  started_line (Err n) =
      record {
        text = refused_text (refusal_number n);
        ready = h.ready;
        config = h.mempool.config;
        pass = pass_of h.mempool.pass;
        world = world_of e b k (records p) h.mempool;
        stats = h.stats;
        written = [];
      }

  -- a submission of the id x: what `process` is to come to. Of the ids that it wrote, those that the answer buffer has places for are held.
  unfoldable pub processed_line : Reached → ℕ → Line
  processed_line s x =
      record {
        text = tx_text s.outcome x (take (count_of 4 a) s.written);
        ready = true;
        config = h.mempool.config;
        pass = pass_of h.mempool.pass;
        world = s.world;
        stats = h.stats;
        written = take (count_of 4 a) s.written;
      }

  -- a block: what `apply_block_at` is to come to. It changes the statistics too, and each id that it writes has its place in the answer buffer.
  unfoldable pub applied_line : BlockResult → Line
  applied_line s =
      record {
        text = removed_text s.result.outcome s.result.written;
        ready = true;
        config = h.mempool.config;
        pass = pass_of h.mempool.pass;
        world = s.result.world;
        stats = s.stats;
        written = s.result.written;
      }

  -- a call that writes no ids and leaves the statistics: where it is not refused it prints t
  unfoldable pub done_line : List ℕ → Reached → Line
  done_line t s =
      record {
        text = or_refused t s.outcome;
        ready = true;
        config = h.mempool.config;
        pass = pass_of h.mempool.pass;
        world = s.world;
        stats = h.stats;
        written = [];
      }

  -- a call of a pass: it writes no ids and leaves the statistics, and the pass is what it is to come to
  unfoldable pub pass_line : PassResult → Line
  pass_line s =
      record {
        text = pass_text s.outcome;
        ready = true;
        config = h.mempool.config;
        pass = s.pass;
        world = s.world;
        stats = h.stats;
        written = [];
      }

  -- a changing call, of a pool that is there; f and s are the words of the form's lists
  unfoldable pub altered : List ℕ → List ℕ → Change → Line
  altered f s (Submit t) = processed_line (result_of e b k (records p) a h.mempool (submission_of t) f s) (id_of t.id)
  altered f s (Return g) =
      done_line (named w_returned (id_of g.id)) (returned (entries_room e) (boxes_room b) h.mempool (world_of e b k (records p) h.mempool) (unconfirmed_of g) f s)
  altered f s (Block g) = applied_line (block_result e b k (records p) a h.mempool h.stats g.time f s)
  altered f s (Invalidate time x) = done_line (named w_invalidated (id_of x)) (invalidated h.mempool (world_of e b k (records p) h.mempool) time (id_of x))
  altered f s (Open time limit preheader) = pass_line (opened (world_of e b k (records p) h.mempool) (pass_of h.mempool.pass) time limit preheader)
  altered f s Next = pass_line (nexted h.mempool.config (world_of e b k (records p) h.mempool) (pass_of h.mempool.pass))
  altered f s (Answer n verdict) = pass_line (answered h.mempool.config (world_of e b k (records p) h.mempool) (pass_of h.mempool.pass) f verdict)

  -- a query's text; `room`: the words of the buffer that lists go to; f: the words that were read, of which a rebroadcast's list has the first
  unfoldable pub asked : ℕ → List ℕ → Query → List ℕ
  asked room f (Lists limit) = listing_text (top_of e h.mempool room limit)
  asked room f Len = numbered w_len h.mempool.counts.pooled
  asked room f (Contains time x) = query_text (contains_of e k h.mempool time (id_of x))
  asked room f (Spending x) = query_text (spending_of e b h.mempool (id_of x))
  asked room f (Fee minutes size) = number_text w_fee (recommended h.stats h.mempool minutes size)
  asked room f (Wait time fee size) = number_text w_wait (expected_wait e h.stats h.mempool time fee size)
  asked room f (Histogram time bins longest) = histogram_text (histogram_of e h.mempool room time bins longest)
  asked room f (Rebroadcast n) = sent_text (rebroadcast h.mempool (world_of e b k (records p) h.mempool) (room / 4) (take n f))
  asked room f Charges = charges_text h.mempool.sums.interblock_cost (flat_peers p h.mempool.sums.peers)
  asked room f Written = listed w_ids (ids_to 4 a h.written)

  -- a call that may be made: n is the line's number, f and s the words that were read, of which the form's lists have the first
  unfoldable pub called : ℕ → ℕ → List ℕ → List ℕ → Call → Line
  called n room f s (Start g) = started_line (started (sizes (entries_room e) (boxes_room b) (cache_room k) (length p / 2)) (config_of g))
  called n room f s (Alter g) = altered (take (words_of g).one f) (take (words_of g).two s) g
  called n room f s (Ask q) = same (asked room f q)
  called n room f s Unreadable = same (unread_text n)

  -- "Before the first `(ready)` any form but `pool` prints `(no pool)`"
  unfoldable pub line_of : ℕ → ℕ → List ℕ → List ℕ → Call → Line
  line_of n room f s c = pick (lacks_pool h.ready c) (same w_no_pool) (called n room f s c)

-- ---- on the edges of docs/FORMS.md: `(removed a4 a1)`, none removed, and a refused block; `(fee 4000)`; `(bins (0 0) (1 4096))`; `(candidate a5)`, `(ended 600)`, an
-- unanswered candidate's `(verdict needed)`

text-edges : (removed_text (wrote 2) (164 ∷ 161 ∷ []) ≡ 40 ∷ 114 ∷ 101 ∷ 109 ∷ 111 ∷ 118 ∷ 101 ∷ 100 ∷ 32 ∷ 97 ∷ 52 ∷ 32 ∷ 97 ∷ 49 ∷ 41 ∷ [])
    × (removed_text (wrote 0) [] ≡ 40 ∷ 114 ∷ 101 ∷ 109 ∷ 111 ∷ 118 ∷ 101 ∷ 100 ∷ 41 ∷ [])
    × (removed_text (refused 20 0) [] ≡ 40 ∷ 114 ∷ 101 ∷ 102 ∷ 117 ∷ 115 ∷ 101 ∷ 100 ∷ 32 ∷ 50 ∷ 48 ∷ 41 ∷ [])
    × (number_text w_fee (number 4000) ≡ 40 ∷ 102 ∷ 101 ∷ 101 ∷ 32 ∷ 52 ∷ 48 ∷ 48 ∷ 48 ∷ 41 ∷ [])
    × (histogram_text (fees.histogram (wrote 2) (bin 0 0 ∷ bin 1 4096 ∷ [])) ≡ 40 ∷ 98 ∷ 105 ∷ 110 ∷ 115 ∷ 32 ∷ 40 ∷ 48 ∷ 32 ∷ 48 ∷ 41 ∷ 32 ∷ 40 ∷ 49 ∷ 32 ∷ 52 ∷ 48 ∷ 57 ∷ 54 ∷ 41 ∷ 41 ∷ [])
    × (pass_text (candidate 165) ≡ 40 ∷ 99 ∷ 97 ∷ 110 ∷ 100 ∷ 105 ∷ 100 ∷ 97 ∷ 116 ∷ 101 ∷ 32 ∷ 97 ∷ 53 ∷ 41 ∷ [])
    × (pass_text (ended 600) ≡ 40 ∷ 101 ∷ 110 ∷ 100 ∷ 101 ∷ 100 ∷ 32 ∷ 54 ∷ 48 ∷ 48 ∷ 41 ∷ [])
    × (pass_text needed ≡ 40 ∷ 118 ∷ 101 ∷ 114 ∷ 100 ∷ 105 ∷ 99 ∷ 116 ∷ 32 ∷ 110 ∷ 101 ∷ 101 ∷ 100 ∷ 101 ∷ 100 ∷ 41 ∷ [])
unfolding or_refused number_text pass_text histogram_text refused_text listed named numbered bins_text pair_text numeral digit_byte
text-edges = (refl, refl, refl, refl, refl, refl, refl, refl)

-- "more than 511 bins are refused with 2", with a buffer of 1,024 words
bins-edges : ((histogram_of [] (empty no_config) 1024 0 511 600).outcome ≡ wrote 512) × ((histogram_of [] (empty no_config) 1024 0 512 600).outcome ≡ refused 2 0)
unfolding histogram_of entries_room empty
bins-edges = (refl, refl)
