-- What the calls of a pass promise of a store that start and calls left, by name: the calls' `ensures` cite it, and the lists of calls of crate ledger take
-- it for their steps. The state was st and is r.
use Rattle.std.specs.Prelude.{ℕ, ◌/◌, List, length}
use Rattle.pool_types.specs.declared.Mempool.{Mempool}
use Rattle.pool_types.specs.declared.Verdict.{Verdict}
use Rattle.pool_types.specs.Outcomes.{Outcome}
use Rattle.peers.specs.declared.PeerRecord.{PeerRecord}
use Rattle.boxes.specs.Index.{BoxesKept}
use Rattle.pool.specs.Pool.{PoolFits}
use Rattle.store.specs.World.{world_of}
use Rattle.store.specs.Fits.{Kept}
use Rattle.cleanup.specs.Passes.{pass_of, opened, nexted, answered}
use Rattle.cleanup.specs.Rebroadcast.{rebroadcast}
use Rattle.cleanup.specs.Post.{PassPost, Sent}

-- whatever words and records the store has
abbrev pub OpenPromise : Mempool → ℕ → ℕ → ℕ → Mempool → Outcome → Type 0
OpenPromise st time limit preheader r o =
    (e b k : List ℕ) (ys : List PeerRecord) → Kept e b k ys st → PassPost st r o e b k ys (opened (world_of e b k ys st) (pass_of st.pass) time limit preheader)

-- the words of entries are e
abbrev pub NextPromise : List ℕ → Mempool → Mempool → Outcome → Type 0
NextPromise e st r o =
    (b k : List ℕ) (ys : List PeerRecord) → Kept e b k ys st → PassPost st r o e b k ys (nexted st.config (world_of e b k ys st) (pass_of st.pass))

-- the words of entries, boxes and cache were e, b and k and are e', b' and k'
abbrev pub AnswerPromise : List ℕ → List ℕ → List ℕ → Mempool → List ℕ → Verdict → List ℕ → List ℕ → List ℕ → Mempool → Outcome → Type 0
AnswerPromise e b k st flags v e' b' k' r o =
    (ys : List PeerRecord) → Kept e b k ys st → PassPost st r o e' b' k' ys (answered st.config (world_of e b k ys st) (pass_of st.pass) flags v)

-- the words of the answer buffer were a and are a'; of the indexes that of the boxes alone is read
abbrev pub RebroadcastPromise : List ℕ → List ℕ → Mempool → List ℕ → List ℕ → List ℕ → Outcome → Type 0
RebroadcastPromise e b st confirmed a a' o =
    (k : List ℕ) (ys : List PeerRecord) → PoolFits e b st.counts → BoxesKept b st.counts.records → Sent a a' o (world_of e b k ys st) (rebroadcast st (world_of e b k ys st) (length a / 4) confirmed)
