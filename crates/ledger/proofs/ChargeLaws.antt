-- Laws of the ledger's charges: which peers have had one, and what `Fair` says of each.
use Rattle.std.specs.Prelude.{ℕ, ◌+◌, ◌≤◌, ◌<◌, ◌≡◌, refl, Bool, true, false, not, ◌||◌, List, [], ◌∷◌, ◌++◌, eqb}
use Rattle.std.proofs.Common.{sym, ap, ◌∙◌, arith, eqb-true, eq-eqb, ne_eqb}
use Rattle.std.proofs.lemmas.Bool.{eqb-false, not-true, not-false}
use Rattle.words.specs.Lists.{pick, count, Once, count-append}
use Rattle.boxes.specs.Among.{among}
use Rattle.ledger.specs.Charges.{Charge, total_charged, charged_to, payers, Fair}

-- ---- a number stands in a list, or does not

module _ (k : ℕ) (l : List ℕ) where
  pub among_in : among k l ≡ true → 1 ≤ count k l
  among_in e = omega (arith, eqb-false (count k l) 0 (not-true _ e))

  pub among-out : among k l ≡ false → count k l ≡ 0
  among-out e = eqb-true (count k l) 0 (not-false _ e)

  pub in-among : 1 ≤ count k l → among k l ≡ true
  in-among h = ap not (ne_eqb (count k l) 0 (λ e. omega arith))

  pub out-among : count k l ≡ 0 → among k l ≡ false
  out-among e = ap not (eq-eqb (count k l) 0 e)

-- ---- who has had a charge

-- whether some charge has the peer p
abbrev pub paid : ℕ → List Charge → Bool
paid p [] = false
paid p (c ∷ cs) = eqb c.peer p || paid p cs

-- each peer that has had a charge stands once among the payers, and no other does
pub payers-count : (cs : List Charge) (p : ℕ) → count p (payers cs) ≡ pick (paid p cs) 1 0
payers-count [] p = refl
payers-count (c ∷ cs) p = go (among c.peer (payers cs)) refl (eqb c.peer p) refl (paid p cs) refl (payers-count cs p)
  where
    go : (t : Bool) → among c.peer (payers cs) ≡ t → (u : Bool) → eqb c.peer p ≡ u → (v : Bool) → paid p cs ≡ v → count p (payers cs) ≡ pick v 1 0
        → count p (pick t (payers cs) (payers cs ++ (c.peer ∷ []))) ≡ pick (u || v) 1 0
    go true a true e true d h = h
    go true a true e false d h = let i : 1 ≤ count p (payers cs) = rw (← eqb-true c.peer p e) (among_in c.peer (payers cs) a) in absurd (omega arith)
    go true a false e v d h = h
    go false a true e v d h = let z : count p (payers cs) ≡ 0 = rw (← eqb-true c.peer p e) (among-out c.peer (payers cs) a) in rw (count-append p (payers cs) (c.peer ∷ []), e) (omega arith)
    go false a false e v d h = rw (count-append p (payers cs) (c.peer ∷ []), e) (omega arith)

at_most_one : (b : Bool) → pick b 1 0 ≤ 1
at_most_one true = omega arith
at_most_one false = omega arith

pub payers-once : (cs : List Charge) → Once (payers cs)
payers-once cs p = rw (payers-count cs p) (at_most_one (paid p cs))

pub payers-are : (cs : List Charge) (p : ℕ) → among p (payers cs) ≡ paid p cs
payers-are cs p = rw (payers-count cs p) (go (paid p cs))
  where
    go : (b : Bool) → not (eqb (pick b 1 0) 0) ≡ b
    go true = refl
    go false = refl

-- a charge of the peer p is among these
abbrev pub Paid : ℕ → List Charge → Type 0
Paid p cs = (newer : List Charge) × (c : Charge) × (older : List Charge) × (cs ≡ newer ++ (c ∷ older)) × (c.peer ≡ p)

paid-some : (cs : List Charge) (p : ℕ) → paid p cs ≡ true → Paid p cs
paid-some [] p e = let z : ◌≡◌ {A = ℕ} 0 1 = cc in absurd (omega arith)
paid-some (c ∷ cs) p e = go (eqb c.peer p) refl e (paid-some cs p)
  where
    go : (t : Bool) → eqb c.peer p ≡ t → (t || paid p cs) ≡ true → (paid p cs ≡ true → Paid p cs) → Paid p (c ∷ cs)
    go true q e r = ([], c, cs, refl, eqb-true c.peer p q)
    go false q e r = let h = r e in (c ∷ h.0, h.1, h.2, ap (λ (l : List Charge). c ∷ l) h.3, h.4)

some-paid : (newer : List Charge) (c : Charge) (older : List Charge) → paid c.peer (newer ++ (c ∷ older)) ≡ true
some-paid [] c older = rw (eq-eqb c.peer c.peer refl)
some-paid (d ∷ newer) c older = go (eqb d.peer c.peer) (some-paid newer c older)
  where
    go : (t : Bool) → paid c.peer (newer ++ (c ∷ older)) ≡ true → (t || paid c.peer (newer ++ (c ∷ older))) ≡ true
    go true h = refl
    go false h = h

-- a peer is among the payers exactly if a charge is its own
pub payer-paid : (cs : List Charge) (p : ℕ) → among p (payers cs) ≡ true → Paid p cs
payer-paid cs p e = paid-some cs p (sym (payers-are cs p) ∙ e)

pub paid-payer : (cs : List Charge) (p : ℕ) → Paid p cs → among p (payers cs) ≡ true
paid-payer cs p h = payers-are cs p ∙ rw (h.3, ← h.4) (some-paid h.0 h.1 h.2)

-- so where p has had no charge, the payers are other peers, each once, each with a charge
pub record Others (p : ℕ) (cs : List Charge) : Type 0 where
  pub once : Once (payers cs)
  pub none-own : Paid p cs → ⊥
  pub each : (k : ℕ) → among k (payers cs) ≡ true → (k ≡ p → ⊥) × Paid k cs

pub others : (cs : List Charge) (p : ℕ) → among p (payers cs) ≡ false → Others p cs
others cs p e =
    record {
      once = payers-once cs;
      none-own = λ h. differ (among p (payers cs)) (paid-payer cs p h) e;
      each = λ k a. (λ q. differ (among p (payers cs)) (rw q at a) e, payer-paid cs k a);
    }
  where
    differ : (b : Bool) → b ≡ true → b ≡ false → ⊥
    differ b x y = let z : ◌≡◌ {A = ℕ} 0 1 = cc in omega arith

-- a peer that has had no charge has the sum 0
pub unpaid-none : (cs : List Charge) (p : ℕ) → paid p cs ≡ false → charged_to p cs ≡ 0
unpaid-none [] p e = refl
unpaid-none (c ∷ cs) p e = go (eqb c.peer p) e (unpaid-none cs p)
  where
    go : (t : Bool) → (t || paid p cs) ≡ false → (paid p cs ≡ false → charged_to p cs ≡ 0) → pick t c.cost 0 + charged_to p cs ≡ 0
    go true e r = let z : ◌≡◌ {A = ℕ} 0 1 = cc in absurd (omega arith)
    go false e r = omega (arith, r e)

-- ---- what `Fair` says: of every charge, whatever came after it

module _ (block peer : ℕ) where
  pub fair-limits : (newer : List Charge) (c : Charge) (older : List Charge) → Fair block peer (newer ++ (c ∷ older)) → (total_charged older < block) × (charged_to c.peer older < peer)
  fair-limits [] c older h = (h.0, h.1)
  fair-limits (d ∷ newer) c older h = fair-limits newer c older h.2

  -- and no more
  pub limits-fair : (cs : List Charge) → ((newer : List Charge) (c : Charge) (older : List Charge) → cs ≡ newer ++ (c ∷ older) → (total_charged older < block) × (charged_to c.peer older < peer)) → Fair block peer cs
  limits-fair [] h = tt
  limits-fair (c ∷ cs) h =
      let now = h [] c cs refl in
      (now.0, now.1, limits-fair cs (λ newer d older e. h (c ∷ newer) d older (ap (λ (l : List Charge). c ∷ l) e)))
