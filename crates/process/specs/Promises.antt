-- What a submission promises of a store that is kept, by name: the call's `ensures` cite it, and the lists of calls of crate ledger take it for
-- their step.
use Rattle.std.specs.Prelude.{ℕ, ◌/◌, ◌≤◌, ◌≡◌, true, false, List, length}
use Rattle.words.specs.Lists.{pick}
use Rattle.pool_types.specs.declared.Done.{Done}
use Rattle.pool_types.specs.declared.ProcessingOutcome.{ProcessingOutcome}
use Rattle.pool_types.specs.declared.Mempool.{Mempool}
use Rattle.pool_types.specs.declared.Submission.{Submission}
use Rattle.pool_types.specs.Outcomes.{processed_of, refused}
use Rattle.peers.specs.declared.PeerRecord.{PeerRecord}
use Rattle.store.specs.Fits.{Kept, all_fit}
use Rattle.store.specs.Spares.{lent, Spares}
use Rattle.pool_types.specs.Outcomes.{written_of}
use Rattle.process.specs.Post.{Post, result_of}
use Rattle.process.specs.Numbers.{of_submission}

-- the words of entries, boxes and cache were e, b and k and are e', b' and k', the peer records were ys and are ys', the answer buffer's words were a
-- and are a'; the state was st, and r is handed back
abbrev pub ProcessPromise : List ℕ → List ℕ → List ℕ → List PeerRecord → Mempool → Submission → List ℕ → List ℕ → List ℕ → List ℕ → List ℕ → List PeerRecord → List ℕ → List ℕ → Done ProcessingOutcome → Type 0
ProcessPromise e b k ys st sub ins outs e' b' k' ys' a a' r = Kept e b k ys st → Post st r e' b' k' ys' a a' (result_of e b k ys a st sub ins outs)

-- all that it promises: the above, and what holds on any words
abbrev pub Submits : List ℕ → List ℕ → List ℕ → List PeerRecord → Mempool → Submission → List ℕ → List ℕ → List ℕ → List ℕ → List ℕ → List PeerRecord → List ℕ → List ℕ → Done ProcessingOutcome → Type 0
Submits e b k ys st sub ins outs e' b' k' ys' a a' r =
    ProcessPromise e b k ys st sub ins outs e' b' k' ys' a a' r
    × (of_submission (processed_of r.outcome) ≡ true)
    × (all_fit e b k (length ys) st ≡ false → processed_of r.outcome ≡ refused (pick st.pass.open 20 1) 0)
    × Spares (processed_of r.outcome) (lent e b k ys a st) (lent e' b' k' ys' a' r.mempool)
    × (written_of (processed_of r.outcome) ≤ length a / 4)
