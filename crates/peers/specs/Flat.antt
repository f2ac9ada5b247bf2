-- Peer records in flat words, two each: the peer and its sum.
use Rattle.std.specs.Prelude.{ℕ, ◌+◌, ◌*◌, ◌/◌, ◌≡◌, List, length, get_or}
use Rattle.std.proofs.Common.{add-zero}
use Rattle.words.specs.Rows.{blk-lit, rec_at, recs, length-recs, get_or-recs, take-recs}
use Rattle.words.specs.Tables.{Table}
use Rattle.peers.specs.Peers.{peer_of}
use Rattle.peers.specs.declared.PeerRecord.{PeerRecord}

unfoldable pub peer_dec : List ℕ → PeerRecord
peer_dec b = peer_of (get_or b 0 0) (get_or b 1 0)

unfoldable pub flat_at : List ℕ → ℕ → PeerRecord
flat_at l i = rec_at 2 peer_dec l i

-- the first n records
unfoldable pub flat_peers : List ℕ → ℕ → List PeerRecord
flat_peers l n = recs 2 peer_dec l n

-- all that the words hold
abbrev pub records : List ℕ → List PeerRecord
records p = flat_peers p (length p / 2)

pub flats : Table flat_peers flat_at
unfolding flat_peers flat_at
flats = record { len = length-recs 2 peer_dec; get = get_or-recs 2 peer_dec; first = take-recs 2 peer_dec }

pub flat-at : (l : List ℕ) (i : ℕ) → flat_at l i ≡ peer_of (get_or l (i * 2) 0) (get_or l (i * 2 + 1) 0)
unfolding flat_at rec_at peer_dec
flat-at l i = simp (blk-lit 2 l i, tt {0}, add-zero)
