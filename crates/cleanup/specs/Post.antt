-- What the calls of a pass and a rebroadcast leave, as their contracts say it: one record, of the words and the state at exit, against a result of
-- the definitions.
use Rattle.std.specs.Prelude.{ℕ, ◌/◌, ◌≤◌, ◌≡◌, Bool, not, ◌&&◌, List, eqb, length}
use Rattle.words.specs.Lists.{pick}
use Rattle.pool_types.specs.declared.Mempool.{Mempool}
use Rattle.pool_types.specs.declared.Pass.{Pass}
use Rattle.pool_types.specs.Outcomes.{Outcome, refused, wrote}
use Rattle.peers.specs.declared.PeerRecord.{PeerRecord}
use Rattle.answers.specs.Answers.{Wrote}
use Rattle.pool.specs.Pool.{Tables, Left}
use Rattle.store.specs.World.{World, world_of, Result}
use Rattle.store.specs.Fits.{Kept}
use Rattle.returns.specs.Post.{recounted}
use Rattle.cleanup.specs.Passes.{PassNow, pass_of, PassResult}

-- from the state st, r was handed back with the outcome o; the words of entries, boxes and cache are now e, b and k, the peer records ys: all as s has it
pub record PassPost (st r : Mempool) (o : Outcome) (e b k : List ℕ) (ys : List PeerRecord) (s : PassResult) : Type 0 where
  pub kept : Kept e b k ys r
  pub config : r.config ≡ st.config
  pub outcome : o ≡ s.outcome
  pub world : world_of e b k ys r ≡ s.world
  pub pass : pass_of r.pass ≡ s.pass

-- ---- on any words

-- the state with another pass
abbrev pub repassed : Mempool → Pass → Mempool
repassed st q = record { config = st.config; counts = st.counts; cached = st.cached; sums = st.sums; pass = q }

-- of the state the pass alone is new, and it and the outcome are as s has them
pub record PassOnly (st r : Mempool) (o : Outcome) (s : PassResult) : Type 0 where
  pub state : r ≡ repassed st r.pass
  pub outcome : o ≡ s.outcome
  pub pass : pass_of r.pass ≡ s.pass

-- "or for answer no candidate is out"
abbrev pub none_out : Pass → Bool
none_out p = not (p.open && p.out)

-- the refusals of an answer, of m flags for l inputs
unfoldable pub answer_code : Bool → ℕ → ℕ → ℕ
answer_code closed m l = pick closed 21 (pick (not (eqb m l)) 1 0)

-- ---- a step of an answer: the state st was handed in and r handed back

-- the words of entries and boxes are now e and b, and hold the tables t; of the state counts and pass are new, and the pass is q
pub record Stepped (e b : List ℕ) (st r : Mempool) (t : Tables) (q : PassNow) : Type 0 where
  pub state : r ≡ repassed (recounted st r.counts) r.pass
  pub left : Left e b r.counts t
  pub pass : pass_of r.pass ≡ q

-- ---- a rebroadcast: the words of the answer buffer were l and are m, and the store, which is not written, is w

pub record Sent (l m : List ℕ) (o : Outcome) (w : World) (s : Result) : Type 0 where
  pub outcome : o ≡ s.outcome
  pub world : w ≡ s.world
  pub wrote : Wrote l m 0 s.written
  -- each id that is written has its place
  pub placed : length s.written ≤ length l / 4

-- .. on any words: a refusal writes nothing, and no more ids are told than there are places
pub record Told (l m : List ℕ) (o : Outcome) : Type 0 where
  pub refusal : (j i : ℕ) → o ≡ refused j i → m ≡ l
  pub few : (n : ℕ) → o ≡ wrote n → n ≤ length l / 4
