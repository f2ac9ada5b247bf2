-- What is due from a submission that passed its tests (specs/Claims.antt).
use Rattle.peers.specs.Peers.{Standing}
use Rattle.std.specs.Prelude.{ℕ, ◌≡◌, List}
use Rattle.pool_types.specs.declared.Mempool.{Mempool}
use Rattle.pool_types.specs.declared.Submission.{Submission}
use Rattle.peers.specs.Peers.{peers_of}
use Rattle.peers.specs.declared.PeerRecord.{PeerRecord}
use Rattle.store.specs.Fits.{Fits}
use Rattle.checks.specs.Passed.{Passed}
use Rattle.process.specs.Process.{standing_of}
use Rattle.process.specs.Bills.{bill_of, Billed, billed}
use Rattle.process.specs.declared.submission.Bill.{Bill}

-- the bill of a submission that passed its tests
pub bills : {e b k : List ℕ} (ys : List PeerRecord) {st : Mempool} {room most : ℕ} {at : Standing} {sub : Submission} {ins outs : List ℕ} (cost : ℕ) {g : Bill} → Fits e b k ys st
    → at ≡ standing_of sub.source (peers_of ys st.sums.peers) → Passed most e b st room at sub ins outs → g ≡ bill_of st.sums sub.source at cost → Billed ys st.sums sub.source cost g
bills ys {st} {sub = sub} cost f q h z = rw z (billed sub.source ys st.sums cost f.records f.used q (λ r. (h.welcome r).place))
