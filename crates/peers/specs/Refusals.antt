-- Refusals 25 and 26 in document 01's words. The contracts ask where the search ends (`standing`); here that is shown to say what the words say
-- of the records in use.
use Rattle.std.specs.Prelude.{None, Some}
use Rattle.peers.specs.Peers.{account, Standing}
use Rattle.std.specs.Prelude.{ℕ, ◌+◌, ◌≤◌, ◌≡◌, refl, Bool, true, false, ◌⊎◌, eqb}
use Rattle.std.proofs.Common.{sym, ap, ◌∙◌, inl, inr, arith, eqb-true, le-leb, leb-true}
use mathlib.Core.List.Memᴰ
use mathlib.Core.List.{List, [], ◌∷◌, Memᴰ}
use Rattle.std.proofs.lemmas.Bool.{eqb-false}
use Rattle.words.specs.Lists.{pick, count, Once, once-head, once-tail, absent-head, absent-tail}
use Rattle.peers.specs.Peers.{standing_from, standing, holders, at_limit, none_free}
use Rattle.peers.specs.declared.PeerRecord.{PeerRecord}

-- 25: "the peer has a record at or above its limit", among these records
pub record AtLimit (l : List PeerRecord) (p limit : ℕ) : Type 0 where
  pub record_of : PeerRecord
  pub in_use : Memᴰ record_of l
  pub own : record_of.peer ≡ p
  pub reached : limit ≤ record_of.cost

-- "it has no record"
abbrev pub NoRecord : List PeerRecord → ℕ → Type 0
NoRecord l p = (q : PeerRecord) → Memᴰ q l → q.peer ≡ p → ⊥

-- 26: "it has no record and all 256 are used", of which `used` are in use
pub record NoneFree (l : List PeerRecord) (used p : ℕ) : Type 0 where
  pub none : NoRecord l p
  pub all-used : 256 ≤ used

-- ---- where a search ends

-- what a standing says of the records that were searched
abbrev Says : List PeerRecord → ℕ → Standing → Type 0
Says l p (Some here) = (q : PeerRecord) × Memᴰ q l × (q.peer ≡ p) × (q.cost ≡ here.sum)
Says l p None = NoRecord l p

says : (i : ℕ) (l : List PeerRecord) (p : ℕ) → Says l p (standing_from i l p)
says i [] p = λ q m e. Memᴰ.not-nil m
says i (r ∷ rs) p = go (eqb r.peer p) refl (standing_from (i + 1) rs p) (says (i + 1) rs p)
  where
    further : (st : Standing) → Says rs p st → eqb r.peer p ≡ false → Says (r ∷ rs) p st
    further (Some here) h e = (h.0, Memᴰ.tail h.1, h.2, h.3)
    further None h e = λ q m k. elim (Memᴰ.cases_cons m) [ inl a ↦ eqb-false r.peer p e (sym (ap (λ (x : PeerRecord). x.peer) a) ∙ k) | inr a ↦ h q a k ]

    go : (t : Bool) → eqb r.peer p ≡ t → (st : Standing) → Says rs p st → Says (r ∷ rs) p (pick t (Some (account i r.cost)) st)
    go true e st h = (r, Memᴰ.head refl, eqb-true r.peer p e, refl)
    go false e st h = further st h e

-- a peer's records are one where it has at most one
absent : (l : List PeerRecord) (p : ℕ) → count p (holders l) ≡ 0 → NoRecord l p
absent [] p z = λ q m e. Memᴰ.not-nil m
absent (r ∷ rs) p z =
    λ q m e.
    elim (Memᴰ.cases_cons m) [
      | inl a ↦ eqb-false r.peer p (absent-head p r.peer (holders rs) z) (sym (ap (λ (x : PeerRecord). x.peer) a) ∙ e)
      | inr a ↦ absent rs p (absent-tail p r.peer (holders rs) z) q a e
    ]

one-cost : (l : List PeerRecord) → Once (holders l) → (q r : PeerRecord) → Memᴰ q l → Memᴰ r l → q.peer ≡ r.peer → q.cost ≡ r.cost
one-cost [] h q r m n e = absurd (Memᴰ.not-nil m)
one-cost (x ∷ xs) h q r m n e = go (Memᴰ.cases_cons m) (Memᴰ.cases_cons n) (one-cost xs (once-tail x.peer (holders xs) h) q r)
  where
    alone : (y z : PeerRecord) → y ≡ x → Memᴰ z xs → y.peer ≡ z.peer → ⊥
    alone y z a b k = absent xs x.peer (once-head x.peer (holders xs) h) z b (sym k ∙ ap (λ (v : PeerRecord). v.peer) a)

    go : (q ≡ x) ⊎ Memᴰ q xs → (r ≡ x) ⊎ Memᴰ r xs → (Memᴰ q xs → Memᴰ r xs → q.peer ≡ r.peer → q.cost ≡ r.cost) → q.cost ≡ r.cost
    go (inl a) (inl b) s = ap (λ (v : PeerRecord). v.cost) (a ∙ sym b)
    go (inl a) (inr b) s = absurd (alone q r a b e)
    go (inr a) (inl b) s = absurd (alone r q b a (sym e))
    go (inr a) (inr b) s = s a b e

-- ---- 25, each way

module _ (l : List PeerRecord) (p limit : ℕ) where
  pub limit-met : at_limit limit (standing l p) ≡ true → AtLimit l p limit
  limit-met = go (standing l p) (says 0 l p)
    where
      go : (st : Standing) → Says l p st → at_limit limit st ≡ true → AtLimit l p limit
      go (Some here) h e = record { record_of = h.0; in_use = h.1; own = h.2; reached = rw h.3 (leb-true limit here.sum e) }
      go None h e = let z : ◌≡◌ {A = ℕ} 0 1 = cc in absurd (omega arith)

  -- where each peer has at most one record, as charges keep it (`once-charge`)
  pub met-limit : Once (holders l) → AtLimit l p limit → at_limit limit (standing l p) ≡ true
  met-limit o a = go (standing l p) (says 0 l p)
    where
      go : (st : Standing) → Says l p st → at_limit limit st ≡ true
      go (Some here) h = le-leb limit here.sum (rw (← h.3, one-cost l o h.0 a.record_of h.1 a.in_use (h.2 ∙ sym a.own)) a.reached)
      go None h = absurd (h a.record_of a.in_use a.own)

-- ---- 26, each way

module _ (l : List PeerRecord) (used p : ℕ) where
  pub none_left : none_free 256 used (standing l p) ≡ true → NoneFree l used p
  none_left = go (standing l p) (says 0 l p)
    where
      go : (st : Standing) → Says l p st → none_free 256 used st ≡ true → NoneFree l used p
      go (Some here) h e = let z : ◌≡◌ {A = ℕ} 0 1 = cc in absurd (omega arith)
      go None h e = record { none = h; all-used = leb-true 256 used e }

  pub left-none : NoneFree l used p → none_free 256 used (standing l p) ≡ true
  left-none a = go (standing l p) (says 0 l p)
    where
      go : (st : Standing) → Says l p st → none_free 256 used st ≡ true
      go (Some here) h = absurd (a.none h.0 h.1 h.2)
      go None h = le-leb 256 used a.all-used
