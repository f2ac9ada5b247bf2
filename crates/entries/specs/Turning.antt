-- The words of the ranks from `at` to `last` are a slice that turns by one place, and what that makes of the ranks. One law serves both turns
-- (`part_turned`).
use Rattle.std.specs.Prelude.{ℕ, suc, ◌+◌, ◌-◌, ◌*◌, ◌≤◌, ◌<◌, ◌≡◌, refl, List, ◌++◌, length, take, drop}
use Rattle.std.specs.List.{RotatedLeft, RotatedRight}
use Rattle.std.proofs.Common.{sym, ap, ◌∙◌, arith, get_or-append-add, get_or-take, get_or-drop, length-take}
use Rattle.std.proofs.Math.Decide.{dec_lt}
use Rattle.std.proofs.Math.ListN.{get_or, get_or-append}
use borrow.Rule.Slice.PartMut.{same_len_mid, mid_len, take_put, drop_put}
use Rattle.entries.specs.Cells.{slot_count, slot_words, cell, raw_at}
use Rattle.entries.specs.Turns.{inward, outward, in-low, in-at, in-mid, in-high, out-low, out-last, out-mid, out-high, In, Out, in_view, out_view}
use Rattle.entries.specs.Turns as T
use Rattle.entries.specs.Held.{Turned}

module _ (l t m : List ℕ) (a e at last : ℕ) (le : at ≤ last) (room : last < slot_count l) (from : a ≡ slot_count l * slot_words + at) (to : e ≡ slot_count l * slot_words + last + 1) (q : m ≡ take a l ++ (t ++ drop (e - a) (drop a l)))
    (len : length t ≡ length (take (e - a) (drop a l))) where
  abbrev was : List ℕ
  was = take (e - a) (drop a l)

  len-part : length was ≡ e - a
  len-part = mid_len a e l (omega arith)

  len-m : length m ≡ length l
  len-m = rw q (same_len_mid a (e - a) l t len)

  low : (j : ℕ) → j < a → get_or m j 0 ≡ get_or l j 0
  low j h = sym (get_or-take a m j 0 h) ∙ ap (λ (x : List ℕ). get_or x j 0) (ap (take a) q ∙ take_put a (e - a) l t (omega arith)) ∙ get_or-take a l j 0 h

  high : (j : ℕ) → e ≤ j → get_or m j 0 ≡ get_or l j 0
  high j h =
      let k : j ≡ e + (j - e) = omega arith in
      rw k (sym (get_or-drop e m (j - e) 0) ∙ ap (λ (x : List ℕ). get_or x (j - e) 0) (ap (drop e) q ∙ drop_put a e l t (omega arith) (omega arith) (len ∙ len-part)) ∙ get_or-drop e l (j - e) 0)

  mid : (r p : ℕ) → r < e - a → p < e - a → get_or t r 0 ≡ get_or was p 0 → get_or m (a + r) 0 ≡ get_or l (a + p) 0
  mid r p h g w =
      let n : a ≡ length (take a l) = omega (arith, length-take a l) in
      ap (λ (x : List ℕ). get_or x (a + r) 0) q
      ∙ ap (λ (x : ℕ). get_or (take a l ++ (t ++ drop (e - a) (drop a l))) (x + r) 0) n
      ∙ get_or-append-add (take a l) (t ++ drop (e - a) (drop a l)) r 0
      ∙ get_or-append t (drop (e - a) (drop a l)) 0 r (omega (arith, len, len-part))
      ∙ w
      ∙ get_or-take (e - a) (drop a l) p 0 g
      ∙ get_or-drop a l p 0

  -- the word of rank r comes from rank σ r
  abbrev From : (ℕ → ℕ) → ℕ → Type 0
  From σ r = (at ≤ σ r) × (σ r ≤ last) × (get_or t (r - at) 0 ≡ get_or was (σ r - at) 0)

  part_turned : (σ : ℕ → ℕ) → ((r : ℕ) → at ≤ r → r ≤ last → From σ r) → ((r : ℕ) → r < at → σ r ≡ r) → ((r : ℕ) → last < r → σ r ≡ r) → Turned l m σ
  unfolding cell raw_at
  part_turned σ here before behind =
      record {
        len = len-m;
        cells = λ i c h b. low (i * slot_words + c) (omega arith);
        raws = λ r. rw len-m (go r (dec_lt r at) (dec_lt last r));
      }
    where
      word : (x y : ℕ) → x ≡ y → get_or l x 0 ≡ get_or l y 0
      word x y z = ap (λ (w : ℕ). get_or l w 0) z

      go : (r : ℕ) → Dec (r < at) → Dec (last < r) → get_or m (slot_count l * slot_words + r) 0 ≡ get_or l (slot_count l * slot_words + σ r) 0
      go r (yes x) y = low (slot_count l * slot_words + r) (omega arith) ∙ word _ _ (ap (λ (w : ℕ). slot_count l * slot_words + w) (sym (before r x)))
      go r (no x) (yes y) = high (slot_count l * slot_words + r) (omega arith) ∙ word _ _ (ap (λ (w : ℕ). slot_count l * slot_words + w) (sym (behind r y)))
      go r (no x) (no y) =
          let f = here r (omega (arith, x)) (omega (arith, y)) in
          let k : slot_count l * slot_words + r ≡ a + (r - at) = omega (arith, x) in
          ap (λ (w : ℕ). get_or m w 0) k ∙ mid (r - at) (σ r - at) (omega (arith, x, y)) (omega (arith, f.0, f.1)) f.2 ∙ word _ _ (omega (arith, f.0))

  at-word : (r p i j : ℕ) → r ≡ i → j ≡ p → get_or t i 0 ≡ get_or was j 0 → get_or t r 0 ≡ get_or was p 0
  at-word r p i j x y w = ap (λ (z : ℕ). get_or t z 0) x ∙ w ∙ ap (λ (z : ℕ). get_or was z 0) y

  pub turned-in : RotatedRight was t (length was) 1 → Turned l m (inward at last)
  turned-in w = part_turned (inward at last) (λ r x y. go (in_view at last le r) x y) (in-low at last le) (in-high at last le)
    where
      go : {r : ℕ} → In at last le r → at ≤ r → r ≤ last → From (inward at last) r
      go (T.low r b) x y = absurd (omega arith)
      go T.here x y = rw (in-at at last le) (le, omega arith, at-word _ _ _ _ (omega arith) (omega (arith, len-part)) (w.0 0 0 (omega arith)))
      go (T.mid r b c) x y = rw (in-mid at last le r b c) (b, omega arith, at-word _ _ _ _ refl (omega arith) (w.1 (suc r - at) 0 (omega arith) (omega (arith, len-part))))
      go (T.high r b) x y = absurd (omega arith)

  pub turned-out : RotatedLeft was t (length was) 1 → Turned l m (outward at last)
  turned-out w = part_turned (outward at last) (λ r x y. go (out_view at last le r) x y) (out-low at last le) (out-high at last le)
    where
      go : {r : ℕ} → Out at last le r → at ≤ r → r ≤ last → From (outward at last) r
      go (T.low r b) x y = absurd (omega arith)
      go T.here x y = rw (out-last at last le) (omega arith, le, at-word _ _ _ _ refl (omega (arith, len-part)) (w.1 (last - at) 0 (omega (arith, len-part)) (omega (arith, len-part))))
      go (T.mid r b c) x y = rw (out-mid at last le r b c) (omega arith, omega arith, at-word _ _ _ _ refl (omega arith) (w.0 (r - at) 0 (omega (arith, len-part))))
      go (T.high r b) x y = absurd (omega arith)
