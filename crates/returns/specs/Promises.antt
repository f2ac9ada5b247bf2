-- What a return and an invalidation promise of words whose indexes are right, by name: the calls' `ensures` cite it, and the lists of calls of crate ledger
-- take it for their steps.
use Rattle.std.specs.Prelude.{ℕ, List}
use Rattle.pool_types.specs.declared.Mempool.{Mempool}
use Rattle.pool_types.specs.Outcomes.{Outcome}
use Rattle.entries.specs.Layout.{entries_room}
use Rattle.boxes.specs.Layout.{boxes_room}
use Rattle.peers.specs.declared.PeerRecord.{PeerRecord}
use Rattle.store.specs.World.{world_of}
use Rattle.store.specs.Fits.{Kept}
use Rattle.returns.specs.Returns.{returned, invalidated}
use Rattle.returns.specs.Post.{Meets}
use Rattle.returns.specs.declared.UnconfirmedTx.{UnconfirmedTx}

-- the words of entries and boxes were e and b and are e' and b'; the state was st and is r; whatever the words of the cache and the peer records are
abbrev pub ReturnPromise : List ℕ → List ℕ → Mempool → UnconfirmedTx → List ℕ → List ℕ → List ℕ → List ℕ → Mempool → Outcome → Type 0
ReturnPromise e b st u ins outs e' b' r o =
    (k : List ℕ) (ys : List PeerRecord) → Kept e b k ys st → Meets st r o e' b' k ys (returned (entries_room e) (boxes_room b) st (world_of e b k ys st) u ins outs)

-- .. and those of the cache were k and are k'
abbrev pub InvalidatePromise : List ℕ → List ℕ → List ℕ → Mempool → ℕ → ℕ → List ℕ → List ℕ → List ℕ → Mempool → Outcome → Type 0
InvalidatePromise e b k st time x e' b' k' r o = (ys : List PeerRecord) → Kept e b k ys st → Meets st r o e' b' k' ys (invalidated st (world_of e b k ys st) time x)
