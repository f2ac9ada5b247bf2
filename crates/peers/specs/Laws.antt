-- Laws of charges. The first group is what the code rests on: a search that goes on by one record, and a charge that is one store at the
-- place that a standing names. The others say what a charge does to the sums, and that a peer keeps at most one record.
use Rattle.std.specs.Prelude.{None, Some}
use Rattle.std.specs.List.{range_with_len}
use Rattle.peers.specs.Peers.{account, Standing}
use Rattle.std.specs.Prelude.{ℕ, zero, suc, Option, find, cond, ◌+◌, ◌^◌, ◌≤◌, ◌<◌, ◌≡◌, refl, Bool, true, false, List, [], ◌∷◌, ◌++◌, length, get_or, take, drop, set, eqb}
use Rattle.std.proofs.Common.{sym, ap, ◌∙◌, add-one, arith, length-append, length-set, drop-cons, length-take-le, take-suc-set, drop-set-lt, eqb-true, eq-eqb, ne_eqb, leb-false}
use Rattle.std.proofs.Math.Seq.{take-set-lt}
use Rattle.words.specs.Lists.{pick, count, Once}
use Rattle.words.specs.Sums.{cap, capped}
use Rattle.peers.specs.declared.PeerRecord.{PeerRecord}
use Rattle.peers.specs.Peers.{peer_of, no_peer, peers_of, standing_from, standing, charge_peer, holders, holds, sum_in, at_limit, none_free, has_record, sum_of, place_of, used_after, charged_record}

-- ---- what the code rests on

-- a search goes on by one record
pub standing-step : (l : List PeerRecord) (i t p : ℕ) → i < length l
    → standing_from i (take (suc t) (drop i l)) p ≡ pick (eqb (get_or l i no_peer).peer p) (Some (account i (get_or l i no_peer).cost)) (standing_from (i + 1) (take t (drop (i + 1) l)) p)
standing-step l i t p h = rw (drop-cons l i no_peer h, add-one)

-- the search
module _ (l : List PeerRecord) (p : ℕ) where
  abbrev pub is_of : ℕ → Bool
  is_of i = eqb (get_or l i no_peer).peer p

  -- what stands at the place that was found
  abbrev pub account_at : Option ℕ → Standing
  account_at None = None
  account_at (Some i) = Some (account i (get_or l i no_peer).cost)

  searched : (n i : ℕ) → i + n ≤ length l → account_at (find is_of (range_with_len i n)) ≡ standing_from i (take n (drop i l)) p
  searched zero i h = refl
  searched (suc n) i h = go (is_of i) (searched n (i + 1) (omega arith)) ∙ sym (standing-step l i n p (omega arith))
    where
      go : (t : Bool) → account_at (find is_of (range_with_len (i + 1) n)) ≡ standing_from (i + 1) (take n (drop (i + 1) l)) p
          → account_at (cond t (Some i) (find is_of (range_with_len (i + 1) n))) ≡ pick t (account_at (Some i)) (standing_from (i + 1) (take n (drop (i + 1) l)) p)
      go true e = refl
      go false e = e

  pub stands : (used : ℕ) → used ≤ length l → (r : Option ℕ) → r ≡ find is_of (range_with_len 0 used) → account_at r ≡ standing (peers_of l used) p
  stands used h r e = ap account_at e ∙ searched used 0 (omega arith)

-- what a standing in a list, whose first record has index i, says of a charge
abbrev Stores : ℕ → List PeerRecord → ℕ → ℕ → Standing → Type 0
Stores i l p c (Some here) = (k : ℕ) × (here.at ≡ i + k) × (k < length l) × (charge_peer p c l ≡ set l k (peer_of p (capped (here.sum + c))))
Stores i l p c None = charge_peer p c l ≡ l ++ (peer_of p c ∷ [])

stores : (i : ℕ) (l : List PeerRecord) (p c : ℕ) (st : Standing) → st ≡ standing_from i l p → Stores i l p c st
stores i [] p c st is = rw is
stores i (q ∷ qs) p c st is = rw is (go (eqb q.peer p) refl (standing_from (i + 1) qs p) (stores (i + 1) qs p c _ refl))
  where
    further : (st : Standing) → Stores (i + 1) qs p c st → eqb q.peer p ≡ false → Stores i (q ∷ qs) p c st
    further (Some here) h e = (suc h.0, omega (arith, h.1), omega (arith, h.2), rw e (ap (λ (r : List PeerRecord). q ∷ r) h.3))
    further None h e = rw e (ap (λ (r : List PeerRecord). q ∷ r) h)

    go : (t : Bool) → eqb q.peer p ≡ t → (st : Standing) → Stores (i + 1) qs p c st → Stores i (q ∷ qs) p c (pick t (Some (account i q.cost)) st)
    go true e st h = (0, omega arith, omega arith, rw (e, eqb-true q.peer p e))
    go false e st h = further st h e

-- a charge of a peer that has a record, and of one that has none
module _ (l : List PeerRecord) (p : ℕ) where
  pub has_within : (j s : ℕ) → Some (account j s) ≡ standing l p → j < length l
  has_within j s is = let h = stores 0 l p 0 (Some (account j s)) is in omega (arith, h.1, h.2)

  pub charge-has : (c j s : ℕ) → Some (account j s) ≡ standing l p → charge_peer p c l ≡ set l j (peer_of p (capped (s + c)))
  charge-has c j s is = let h = stores 0 l p c (Some (account j s)) is in let e : h.0 ≡ j = omega (arith, h.1) in h.3 ∙ rw e

  pub charge-free : (c : ℕ) → None ≡ standing l p → charge_peer p c l ≡ l ++ (peer_of p c ∷ [])
  charge-free c is = stores 0 l p c None is

-- a peer that passes refusal 26 finds room
pub room_after : (room used n : ℕ) (st : Standing) → none_free room used st ≡ false → used ≤ n → room ≤ n → used_after used st ≤ n
room_after room used n (Some here) e h k = h
room_after room used n None e h k = omega (arith, leb-false room used e)

-- the records after a charge through a standing: one store
abbrev pub charged : List PeerRecord → ℕ → Standing → ℕ → ℕ → List PeerRecord
charged l used st p c = set l (place_of used st) (charged_record p c st)

module _ (l : List PeerRecord) (used p : ℕ) where
  pub place-used : (st : Standing) → st ≡ standing (peers_of l used) p → used_after used st ≤ length l → place_of used st < used_after used st
  place-used (Some here) is room = omega (arith, has_within (peers_of l used) p here.at here.sum is, length-take-le used l room)
  place-used None is room = omega arith

  -- the records in use after the store are those of the charge
  pub charged-peers : (c : ℕ) (st : Standing) → st ≡ standing (peers_of l used) p → used_after used st ≤ length l → peers_of (charged l used st p c) (used_after used st) ≡ charge_peer p c (peers_of l used)
  charged-peers c (Some here) is room = take-set-lt used l here.at _ (place-used (Some (account here.at here.sum)) is room) ∙ sym (charge-has (peers_of l used) p c here.at here.sum is)
  charged-peers c None is room = rw add-one (take-suc-set l used (peer_of p c) (omega arith)) ∙ sym (charge-free (peers_of l used) p c is)

  -- and those behind them stay
  pub charged-rest : (c : ℕ) (st : Standing) → st ≡ standing (peers_of l used) p → used_after used st ≤ length l → drop (used_after used st) (charged l used st p c) ≡ drop (used_after used st) l
  charged-rest c st is room = drop-set-lt (used_after used st) l (place_of used st) (charged_record p c st) (place-used st is room)

-- ---- how many records there are, and how many a peer has

pub length-charge : (l : List PeerRecord) (p c : ℕ) → length (charge_peer p c l) ≡ used_after (length l) (standing l p)
length-charge l p c = go (standing l p) refl
  where
    go : (st : Standing) → st ≡ standing l p → length (charge_peer p c l) ≡ used_after (length l) st
    go (Some here) is = ap length (charge-has l p c here.at here.sum is) ∙ length-set l here.at _
    go None is = ap length (charge-free l p c is) ∙ length-append l _

count-own : (l : List PeerRecord) (p c : ℕ) → count p (holders l) ≤ 1 → count p (holders (charge_peer p c l)) ≤ 1
count-own [] p c h = rw (eq-eqb p p refl) (omega arith)
count-own (q ∷ qs) p c h = go (eqb q.peer p) refl (count-own qs p c)
  where
    go : (t : Bool) → eqb q.peer p ≡ t → (count p (holders qs) ≤ 1 → count p (holders (charge_peer p c qs)) ≤ 1) → count p (holders (charge_peer p c (q ∷ qs))) ≤ 1
    go true e r = rw e h
    go false e r = rw (e, e) (omega (arith, r (omega (arith, h))))

count-others : (l : List PeerRecord) (p c k : ℕ) → eqb p k ≡ false → count k (holders (charge_peer p c l)) ≡ count k (holders l)
count-others [] p c k n = rw n
count-others (q ∷ qs) p c k n = go (eqb q.peer p) refl (count-others qs p c k n)
  where
    go : (t : Bool) → eqb q.peer p ≡ t → count k (holders (charge_peer p c qs)) ≡ count k (holders qs) → count k (holders (charge_peer p c (q ∷ qs))) ≡ count k (holders (q ∷ qs))
    go true e r = rw e
    go false e r = rw e (ap (λ (m : ℕ). pick (eqb q.peer k) 1 0 + m) r)

-- a peer keeps at most one record
pub once-charge : (l : List PeerRecord) (p c : ℕ) → Once (holders l) → Once (holders (charge_peer p c l))
once-charge l p c h k = go (eqb p k) refl
  where
    go : (t : Bool) → eqb p k ≡ t → count k (holders (charge_peer p c l)) ≤ 1
    go true e = rw (← eqb-true p k e) (count-own l p c (h p))
    go false e = rw (count-others l p c k e) (h k)

-- ---- the sums

module _ (p c : ℕ) where
  -- a peer that is charged has a record; its sum grows by the cost, and stops at 2^64−1
  abbrev Grown : Standing → Standing → Type 0
  Grown before after = (holds after ≡ true) × (sum_in after ≡ capped (sum_in before + c))

  own : (i : ℕ) (l : List PeerRecord) → c ≤ cap → Grown (standing_from i l p) (standing_from i (charge_peer p c l) p)
  own i [] h = rw (eq-eqb p p refl) (refl, omega arith)
  own i (q ∷ qs) h = go (eqb q.peer p) refl (own (i + 1) qs h)
    where
      go : (t : Bool) → eqb q.peer p ≡ t → Grown (standing_from (i + 1) qs p) (standing_from (i + 1) (charge_peer p c qs) p) → Grown (standing_from i (q ∷ qs) p) (standing_from i (charge_peer p c (q ∷ qs)) p)
      go true e r = rw (e, e) (refl, refl)
      go false e r = rw (e, e) r

  pub has-own : (l : List PeerRecord) → c ≤ cap → has_record (charge_peer p c l) p ≡ true
  has-own l h = (own 0 l h).0

  pub sum-own : (l : List PeerRecord) → c ≤ cap → sum_of (charge_peer p c l) p ≡ capped (sum_of l p + c)
  sum-own l h = (own 0 l h).1

  -- the others stand where they stood
  others : (i : ℕ) (l : List PeerRecord) (k : ℕ) → eqb p k ≡ false → standing_from i (charge_peer p c l) k ≡ standing_from i l k
  others i [] k n = rw n
  others i (q ∷ qs) k n = go (eqb q.peer p) refl (others (i + 1) qs k n)
    where
      go : (t : Bool) → eqb q.peer p ≡ t → standing_from (i + 1) (charge_peer p c qs) k ≡ standing_from (i + 1) qs k → standing_from i (charge_peer p c (q ∷ qs)) k ≡ standing_from i (q ∷ qs) k
      go true e r = let z : eqb q.peer k ≡ false = rw (eqb-true q.peer p e) n in rw (e, z)
      go false e r = rw e (ap (pick (eqb q.peer k) (Some (account i q.cost))) r)

  pub standing-other : (l : List PeerRecord) (k : ℕ) → (p ≡ k → ⊥) → standing (charge_peer p c l) k ≡ standing l k
  standing-other l k n = others 0 l k (ne_eqb p k n)

  pub sum-other : (l : List PeerRecord) (k : ℕ) → (p ≡ k → ⊥) → sum_of (charge_peer p c l) k ≡ sum_of l k
  sum-other l k n = ap sum_in (standing-other l k n)

-- below a limit of at most 2^63 a cost of 32 bits meets no cap
pub no-cap : (s c limit : ℕ) → s < limit → limit ≤ 2 ^ 63 → c < 2 ^ 32 → capped (s + c) ≡ s + c
no-cap s c limit h m k = omega arith

-- so the sum of a peer that passes refusal 25 grows by the whole cost
pub sum-exact : (l : List PeerRecord) (p c limit : ℕ) → at_limit limit (standing l p) ≡ false → limit ≤ 2 ^ 63 → c < 2 ^ 32 → sum_of (charge_peer p c l) p ≡ sum_of l p + c
sum-exact l p c limit h m k = sum-own p c l (omega arith) ∙ go (standing l p) h
  where
    go : (st : Standing) → at_limit limit st ≡ false → capped (sum_in st + c) ≡ sum_in st + c
    go (Some here) e = no-cap here.sum c limit (leb-false limit here.sum e) m k
    go None e = omega arith
