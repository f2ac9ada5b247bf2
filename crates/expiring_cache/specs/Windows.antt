-- Chains through slots of which the first k are dropped, by functions alone (`Chains` of words): a link or a head that names one of these names none.
use Prim.Native.Nat.{ℕ, zero, suc, ◌+◌, ◌-◌, ◌≤◌}
use Rattle.std.specs.Prelude.{◌≡◌, refl, Bool, eqb, ltb}
use Rattle.std.proofs.Common.{sym, ap, ◌∙◌, add-zero, add-suc}
use Rattle.std.proofs.Math.Bool.{true, false}
use Rattle.std.proofs.Math.Decide.{dec_le}
use native.Mathlib.Omega.{arith}
use Rattle.words.specs.Lists.{pick}
use Rattle.words.specs.Ids.{same-ltb}
use Rattle.words.specs.Chains.{prev, prev-le, checked, bounded, Chained}

module _ (h : ℕ → ℕ) (k : ℕ) where
  prev-from : (n b : ℕ) → prev (λ i. h (k + i)) n b ≡ prev h (k + n) b - k
  unfolding prev
  prev-from zero b = rw (add-zero k) (omega (arith, prev-le h k b))
  prev-from (suc n) b = rw (add-suc k n) (go (eqb (h (k + n)) b) (prev-from n b))
    where
      go : (t : Bool) → prev (λ i. h (k + i)) n b ≡ prev h (k + n) b - k → pick t (suc n) (prev (λ i. h (k + i)) n b) ≡ pick t (suc (k + n)) (prev h (k + n) b) - k
      go true e = omega arith
      go false e = e

  checked-low : (n b w : ℕ) → checked h n b w ≤ w
  unfolding checked
  checked-low n b zero = omega arith
  checked-low n b (suc j) = go (ltb j n) (eqb (h j) b)
    where
      go : (t u : Bool) → pick t (pick u (suc j) 0) 0 ≤ suc j
      go true true = omega arith
      go true false = omega arith
      go false u = omega arith

  checked-in : (n b j : ℕ) → checked (λ i. h (k + i)) n b (suc j) ≡ checked h (k + n) b (suc (k + j)) - k
  unfolding checked
  checked-in n b j = rw (same-ltb j n (k + j) (k + n) (λ x. omega arith) (λ x. omega arith)) (go (ltb (k + j) (k + n)) (eqb (h (k + j)) b))
    where
      go : (t u : Bool) → pick t (pick u (suc j) 0) 0 ≡ pick t (pick u (suc (k + j)) 0) 0 - k
      go true true = omega arith
      go true false = omega arith
      go false u = omega arith

  checked-none : (n b x : ℕ) → x ≡ 0 → checked (λ i. h (k + i)) n b x ≡ 0
  unfolding checked
  checked-none n b x e = rw e

  checked-from : (n b w : ℕ) → checked (λ i. h (k + i)) n b (w - k) ≡ checked h (k + n) b w - k
  checked-from n b w = go (dec_le w k)
    where
      go : Dec (w ≤ k) → checked (λ i. h (k + i)) n b (w - k) ≡ checked h (k + n) b w - k
      go (yes q) = checked-none n b (w - k) (omega arith) ∙ omega (arith, checked-low (k + n) b w)
      go (no q) =
          let e : w - k ≡ suc (w - k - 1) = omega (arith, q) in
          let f : w ≡ suc (k + (w - k - 1)) = omega (arith, q) in
          ap (checked (λ i. h (k + i)) n b) e ∙ checked-in n b (w - k - 1) ∙ ap (λ (x : ℕ). checked h (k + n) b x - k) (sym f)

bounded-from : (k i w : ℕ) → bounded i (w - k) ≡ bounded (k + i) w - k
unfolding bounded
bounded-from k i w = rw (same-ltb i (w - k) (k + i) w (λ x. omega arith) (λ x. omega arith)) (go (ltb (k + i) w))
  where
    go : (t : Bool) → pick t 0 (w - k) ≡ pick t 0 w - k
    go true = omega arith
    go false = refl

-- the index of k + n slots is one of the last n
pub chained-from : (h lk hd : ℕ → ℕ) (B k n : ℕ) → Chained h lk hd B (k + n) → Chained (λ i. h (k + i)) (λ i. lk (k + i) - k) (λ b. hd b - k) B n
chained-from h lk hd B k n c =
    record {
      heads = λ b q. checked-from h k n b (hd b) ∙ ap (λ (x : ℕ). x - k) (c.heads b q) ∙ sym (prev-from h k n b);
      links = λ i q. bounded-from k i (lk (k + i)) ∙ ap (λ (x : ℕ). x - k) (c.links (k + i) (omega arith)) ∙ sym (prev-from h k i (h (k + i)));
    }
