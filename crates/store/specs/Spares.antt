-- What a refusal leaves, word by word ("Unless said, nothing changes and no answer byte is written."), of every changing call alike and on any words:
-- "9 .. the id enters the cache", "10 .. the charge stands", 29 "their ids are written, the charge stands", 30 "charge and removal of losers stand".
use Rattle.std.specs.Prelude.{ℕ, ◌≡◌, refl, Bool, false, ◌||◌, List, eqb}
use Rattle.std.proofs.Common.{subst, arith}
use Rattle.pool_types.specs.declared.Mempool.{Mempool}
use Rattle.pool_types.specs.Outcomes.{Outcome, refused, done, wrote, needed, missing, invalid, valid}
use Rattle.peers.specs.declared.PeerRecord.{PeerRecord}

-- what is lent to calls and handed in, but for the statistics: the words of entries, boxes and cache, the peer records, the words of the answer buffer,
-- and the state
pub record Lent : Type 0 where
  pub entries : List ℕ
  pub boxes : List ℕ
  pub cache : List ℕ
  pub peers : List PeerRecord
  pub answer : List ℕ
  pub state : Mempool

abbrev pub lent : List ℕ → List ℕ → List ℕ → List PeerRecord → List ℕ → Mempool → Lent
lent e b k ys a st = record { entries = e; boxes = b; cache = k; peers = ys; answer = a; state = st }

-- the refusals that charge
abbrev pub charging : ℕ → Bool
charging j = eqb j 10 || (eqb j 29 || eqb j 30)

-- it was m and is n, after the refusal j
pub record Spared (j : ℕ) (m n : Lent) : Type 0 where
  pub tables : eqb j 30 ≡ false → (n.entries ≡ m.entries) × (n.boxes ≡ m.boxes) × (n.state.counts ≡ m.state.counts)
  pub cache : eqb j 9 ≡ false → (n.cache ≡ m.cache) × (n.state.cached ≡ m.state.cached)
  pub peers : charging j ≡ false → (n.peers ≡ m.peers) × (n.state.sums ≡ m.state.sums)
  pub answer : eqb j 29 ≡ false → n.answer ≡ m.answer
  pub rest : (n.state.config ≡ m.state.config) × (n.state.pass ≡ m.state.pass)

-- .. after the outcome o; 'verdict needed' changes nothing either
pub record Spares (o : Outcome) (m n : Lent) : Type 0 where
  pub asked : o ≡ needed → n ≡ m
  pub refusal : (j i : ℕ) → o ≡ refused j i → Spared j m n

-- ---- nothing changed

pub spared-same : (j : ℕ) (m : Lent) → Spared j m m
spared-same j m = record { tables = λ _. (refl, refl, refl); cache = λ _. (refl, refl); peers = λ _. (refl, refl); answer = λ _. refl; rest = (refl, refl) }

pub spares-same : (o : Outcome) (m : Lent) → Spares o m m
spares-same o m = record { asked = λ _. refl; refusal = λ j i _. spared-same j m }

-- ---- by outcome

never : {A : Type 0} → ◌≡◌ {A = ℕ} 0 1 → A
never z = absurd (omega arith)

module _ {o : Outcome} (m n : Lent) where
  -- a refusal
  pub spares-refused : {j i : ℕ} → o ≡ refused j i → Spared j m n → Spares o m n
  spares-refused {j} {i} e h =
      record { asked = λ q. never cc; refusal = λ x y q. let z : j ≡ x = cc in subst (λ (v : ℕ). Spared v m n) z h }

  -- done: nothing is said here
  pub spares-done : o ≡ done → Spares o m n
  spares-done e = record { asked = λ q. never cc; refusal = λ j i q. never cc }

  pub spares-wrote : {k : ℕ} → o ≡ wrote k → Spares o m n
  spares-wrote e = record { asked = λ q. never cc; refusal = λ j i q. never cc }

  pub spares-missing : {k : ℕ} → o ≡ missing k → Spares o m n
  spares-missing e = record { asked = λ q. never cc; refusal = λ j i q. never cc }

  pub spares-invalid : {k : ℕ} → o ≡ invalid k → Spares o m n
  spares-invalid e = record { asked = λ q. never cc; refusal = λ j i q. never cc }

  pub spares-valid : {k : ℕ} → o ≡ valid k → Spares o m n
  spares-valid e = record { asked = λ q. never cc; refusal = λ j i q. never cc }

-- ---- of a call that has no refusal of 9, 10, 29 and 30

-- nothing changed at all
pub spared-all : {j : ℕ} {m n : Lent} → eqb j 9 ≡ false → eqb j 30 ≡ false → eqb j 29 ≡ false → charging j ≡ false → Spared j m n → n ≡ m
spared-all {j} {m} {n} p q r s h =
    λ i. record {
      entries = (h.tables q).0 i;
      boxes = (h.tables q).1 i;
      cache = (h.cache p).0 i;
      peers = (h.peers s).0 i;
      answer = h.answer r i;
      state = record { config = h.rest.0 i; counts = (h.tables q).2 i; cached = (h.cache p).1 i; sums = (h.peers s).1 i; pass = h.rest.1 i };
    }
