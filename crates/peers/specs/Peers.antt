-- What each peer was charged since the last block (document 01, "A submission": "A charge adds the cost to the block sum and to the
-- peer's record, taking a free one if it has none; a block not refused sets the sum to 0 and frees every record").
-- The records of a pool are a slice of which the first `used` are in use; a block frees them all by making that count 0.
use Rattle.std.specs.Prelude.{ℕ, ◌+◌, ◌≡◌, refl, Bool, true, false, List, [], ◌∷◌, map, take, eqb, leb, Option, Some, None}
use Rattle.words.specs.Lists.{pick}
use Rattle.words.specs.Sums.{cap, capped}
use Rattle.peers.specs.declared.PeerRecord.{PeerRecord}
use Rattle.peers.specs.declared.Account.{Account}

-- a record of the peer p with the sum c
abbrev pub peer_of : ℕ → ℕ → PeerRecord
peer_of p c = record { peer = p; cost = c }

-- what stands past the end of a list of records
abbrev pub no_peer : PeerRecord
no_peer = peer_of 0 0

-- the records in use
abbrev pub peers_of : List PeerRecord → ℕ → List PeerRecord
peers_of l used = take used l

-- the peers that have a record
abbrev pub holders : List PeerRecord → List ℕ
holders l = map (λ (q : PeerRecord). q.peer) l

-- the record at index i, whose sum is c
abbrev pub account : ℕ → ℕ → Account
account i c = record { at = i; sum = c }

-- where a peer stands: at its record, or nowhere
abbrev pub Standing : Type 0
Standing = Option Account

-- where the peer p stands in a list whose first record has index i: the index and the sum of its record, or that it has none
abbrev pub standing_from : ℕ → List PeerRecord → ℕ → Standing
standing_from i [] p = None
standing_from i (q ∷ qs) p = pick (eqb q.peer p) (Some (account i q.cost)) (standing_from (i + 1) qs p)

abbrev pub standing : List PeerRecord → ℕ → Standing
standing l p = standing_from 0 l p

-- "A charge adds the cost .. to the peer's record, taking a free one if it has none"; the sum stops at 2^64−1
abbrev pub charge_peer : ℕ → ℕ → List PeerRecord → List PeerRecord
charge_peer p c [] = peer_of p c ∷ []
charge_peer p c (q ∷ qs) = pick (eqb q.peer p) (peer_of q.peer (capped (q.cost + c)) ∷ qs) (q ∷ charge_peer p c qs)

-- ---- what is read of a standing

abbrev pub holds : Standing → Bool
holds (Some a) = true
holds None = false

abbrev pub sum_in : Standing → ℕ
sum_in (Some a) = a.sum
sum_in None = 0

-- refusal 25: "the peer has a record at or above its limit"
abbrev pub at_limit : ℕ → Standing → Bool
at_limit limit (Some a) = leb limit a.sum
at_limit limit None = false

-- refusal 26: "it has no record and all 256 are used", where there are `room` records
abbrev pub none_free : ℕ → ℕ → Standing → Bool
none_free room used (Some a) = false
none_free room used None = leb room used

-- whether the peer has a record, and its sum: 0 where it has none
abbrev pub has_record : List PeerRecord → ℕ → Bool
has_record l p = holds (standing l p)

abbrev pub sum_of : List PeerRecord → ℕ → ℕ
sum_of l p = sum_in (standing l p)

-- ---- a charge through a standing

-- the index of the record that is charged: the peer's own, or the first that is free
abbrev pub place_of : ℕ → Standing → ℕ
place_of used (Some a) = a.at
place_of used None = used

-- how many records are in use after the charge
abbrev pub used_after : ℕ → Standing → ℕ
used_after used (Some a) = used
used_after used None = used + 1

-- the record that is charged, after the charge
abbrev pub charged_record : ℕ → ℕ → Standing → PeerRecord
charged_record p c (Some a) = peer_of p (capped (a.sum + c))
charged_record p c None = peer_of p c

-- on the edges: a second charge, one that stops, a free record, and a peer limit of 0
charge-edges : (charge_peer 7 5 [] ≡ peer_of 7 5 ∷ [])
    × (charge_peer 7 5 (peer_of 3 1 ∷ peer_of 7 2 ∷ []) ≡ peer_of 3 1 ∷ peer_of 7 7 ∷ [])
    × (charge_peer 7 5 (peer_of 7 cap ∷ []) ≡ peer_of 7 cap ∷ [])
    × (charge_peer 7 0 (peer_of 3 1 ∷ []) ≡ peer_of 3 1 ∷ peer_of 7 0 ∷ [])
charge-edges = (refl, refl, refl, refl)

standing-edges : (standing (peer_of 3 1 ∷ peer_of 7 2 ∷ peer_of 7 9 ∷ []) 7 ≡ Some (account 1 2))
    × (standing (peer_of 3 7 ∷ []) 7 ≡ None)
    × (at_limit 0 (standing [] 7) ≡ false)
    × (at_limit 0 (standing (peer_of 7 0 ∷ []) 7) ≡ true)
    × (none_free 256 256 (standing (peer_of 3 1 ∷ []) 7) ≡ true)
standing-edges = (refl, refl, refl, refl, refl)
