-- An output ahead in height, in document 01's words: refusal 8, "an output's height above the preheader", and "Heights of 32 bits are read as
-- signed". The contracts compare sums with 2^31 (`biased`, `ahead_of`); here they are shown to say that.
use Rattle.std.specs.Prelude.{ℕ, zero, suc, ◌+◌, ◌-◌, ◌%◌, ◌^◌, ◌≤◌, ◌<◌, max, ◌≡◌, refl, Bool, true, false, List, T, ltb, ℤ, pos, negsuc, ◌<ℤ◌}
use Rattle.std.proofs.Common.{sym, ◌∙◌, arith}
use Rattle.std.proofs.Math.Decide.{dec_le}
use Rattle.std.specs.Int.Signed.{lt_z, lt_z_yes}
use borrow.Author.Tests.{ltb-true, ltb-false, lt-ltb, le-ltb}
use Rattle.words.specs.Lists.{pick}
use Rattle.arguments.specs.Arguments.{records, field, biased, high_from, height_key, ahead_of}

-- the low 32 bits of a word as a signed number: h below 2^31 is h, and any other is h − 2^32 (`negsuc n` is −(n + 1))
abbrev pub signed : ℕ → ℤ
signed w = pick (ltb (w % 2 ^ 32) (2 ^ 31)) (pos (w % 2 ^ 32)) (negsuc (2 ^ 32 - suc (w % 2 ^ 32)))

signed-edges : (signed 0 ≡ pos 0) × (signed 2147483647 ≡ pos 2147483647) × (signed 2147483648 ≡ negsuc 2147483647) × (signed 4294967295 ≡ negsuc 0) × (signed 4294967296 ≡ pos 0)
signed-edges = (refl, refl, refl, refl, refl)

-- some record of a list has a height above the preheader, both read as signed; heights stand at word j of records of W words
pub record SomeAbove (W j : ℕ) (l : List ℕ) (preheader : ℕ) : Type 0 where
  pub at : ℕ
  pub inside : at < records W l
  pub above : signed preheader <ℤ signed (field W j l at)

-- ---- one height: signed numbers are in the order of their sums with 2^31

same-order : (a b c d : ℕ) → (a < b → c < d) → (b ≤ a → d ≤ c) → ltb a b ≡ ltb c d
same-order a b c d f g = go (dec_le b a)
  where
    go : Dec (b ≤ a) → ltb a b ≡ ltb c d
    go (yes h) = le-ltb a b h ∙ sym (le-ltb c d (g h))
    go (no h) = let k : a < b = omega (arith, h) in lt-ltb a b k ∙ sym (lt-ltb c d (f k))

-- h and p with their low 32 bits
module _ (h p : ℕ) where
  pos-pos : p % 2 ^ 32 < 2 ^ 31 → h % 2 ^ 32 < 2 ^ 31 → ltb (biased p) (biased h) ≡ ltb (p % 2 ^ 32) (h % 2 ^ 32)
  pos-pos s t = same-order (biased p) (biased h) (p % 2 ^ 32) (h % 2 ^ 32) (λ k. omega arith) (λ k. omega arith)

  neg-neg : 2 ^ 31 ≤ p % 2 ^ 32 → 2 ^ 31 ≤ h % 2 ^ 32 → ltb (biased p) (biased h) ≡ ltb (2 ^ 32 - suc (h % 2 ^ 32)) (2 ^ 32 - suc (p % 2 ^ 32))
  neg-neg s t = same-order (biased p) (biased h) (2 ^ 32 - suc (h % 2 ^ 32)) (2 ^ 32 - suc (p % 2 ^ 32)) (λ k. omega arith) (λ k. omega arith)

  pos-neg : p % 2 ^ 32 < 2 ^ 31 → 2 ^ 31 ≤ h % 2 ^ 32 → ltb (biased p) (biased h) ≡ false
  pos-neg s t = le-ltb (biased p) (biased h) (omega arith)

  neg-pos : 2 ^ 31 ≤ p % 2 ^ 32 → h % 2 ^ 32 < 2 ^ 31 → ltb (biased p) (biased h) ≡ true
  neg-pos s t = lt-ltb (biased p) (biased h) (omega arith)

  pub height-order : ahead_of (biased h) p ≡ lt_z (signed p) (signed h)
  height-order = go (ltb (p % 2 ^ 32) (2 ^ 31)) refl (ltb (h % 2 ^ 32) (2 ^ 31)) refl
    where
      go : (s : Bool) → ltb (p % 2 ^ 32) (2 ^ 31) ≡ s → (t : Bool) → ltb (h % 2 ^ 32) (2 ^ 31) ≡ t
          → ltb (biased p) (biased h) ≡ lt_z (pick s (pos (p % 2 ^ 32)) (negsuc (2 ^ 32 - suc (p % 2 ^ 32)))) (pick t (pos (h % 2 ^ 32)) (negsuc (2 ^ 32 - suc (h % 2 ^ 32))))
      go true a true b = pos-pos (ltb-true (p % 2 ^ 32) (2 ^ 31) a) (ltb-true (h % 2 ^ 32) (2 ^ 31) b)
      go true a false b = pos-neg (ltb-true (p % 2 ^ 32) (2 ^ 31) a) (ltb-false (h % 2 ^ 32) (2 ^ 31) b)
      go false a true b = neg-pos (ltb-false (p % 2 ^ 32) (2 ^ 31) a) (ltb-true (h % 2 ^ 32) (2 ^ 31) b)
      go false a false b = neg-neg (ltb-false (p % 2 ^ 32) (2 ^ 31) a) (ltb-false (h % 2 ^ 32) (2 ^ 31) b)

  pub above-signed : biased p < biased h → signed p <ℤ signed h
  above-signed k = lt_z_yes (told (lt_z (signed p) (signed h)) (sym height-order ∙ lt-ltb (biased p) (biased h) k))
    where
      told : (b : Bool) → b ≡ true → T b
      told b e = rw e tt

  pub signed_above : signed p <ℤ signed h → biased p < biased h
  signed_above k = ltb-true (biased p) (biased h) (height-order ∙ asked (lt_z (signed p) (signed h)) k.lt)
    where
      asked : (b : Bool) → T b → b ≡ true
      asked true t = refl
      asked false t = absurd t

-- ---- the greatest of a list's heights is above exactly if one of them is

module _ (W j : ℕ) (l : List ℕ) (p : ℕ) where
  -- among n records from record i on
  record From (i n : ℕ) : Type 0 where
    at : ℕ
    least : i ≤ at
    most : at < i + n
    above : biased p < biased (field W j l at)

  some-from : (i n : ℕ) → biased p < high_from W j l i n → From i n
  some-from i zero h = absurd (omega arith)
  some-from i (suc n) h = go (dec_le (biased (field W j l i)) (biased p)) (some-from (suc i) n)
    where
      go : Dec (biased (field W j l i) ≤ biased p) → (biased p < high_from W j l (suc i) n → From (suc i) n) → From i (suc n)
      go (yes k) r = let f = r (omega (arith, h, k)) in record { at = f.at; least = omega (arith, f.least); most = omega (arith, f.most); above = f.above }
      go (no k) r = record { at = i; least = omega arith; most = omega arith; above = omega (arith, k) }

  from_some : (i n k : ℕ) → i ≤ k → k < i + n → biased (field W j l k) ≤ high_from W j l i n
  from_some i zero k a b = absurd (omega arith)
  from_some i (suc n) k a b = go (dec_le k i) (from_some (suc i) n k)
    where
      go : Dec (k ≤ i) → (suc i ≤ k → k < suc i + n → biased (field W j l k) ≤ high_from W j l (suc i) n) → biased (field W j l k) ≤ max (biased (field W j l i)) (high_from W j l (suc i) n)
      go (yes q) r = let e : k ≡ i = omega (arith, q) in rw e (omega arith)
      go (no q) r = omega (arith, r (omega (arith, q)) (omega arith))

  -- "an output's height above the preheader", each way
  pub ahead-some : ahead_of (height_key W j l) p ≡ true → SomeAbove W j l p
  unfolding height_key
  ahead-some h =
      let f = some-from 0 (records W l) (ltb-true (biased p) (high_from W j l 0 (records W l)) h) in
      record { at = f.at; inside = omega (arith, f.most); above = above-signed (field W j l f.at) p f.above }

  pub some-ahead : SomeAbove W j l p → ahead_of (height_key W j l) p ≡ true
  unfolding height_key
  some-ahead s =
      lt-ltb (biased p) (high_from W j l 0 (records W l))
      (omega (arith, signed_above (field W j l s.at) p s.above, from_some 0 (records W l) s.at (omega arith) (omega (arith, s.inside))))
