-- An id as one number: four words of 64 bits, the first bytes first, so that the order of ids as bytes is the order of numbers.
-- The number is built by `join`, a word at a time: `omega` stops at numerals of more than 38 digits, as 2 ^ 192, and takes 2 ^ 64.
use Rattle.std.specs.Prelude.{◌≡◌, ℕ, ◌+◌, ◌*◌, ◌^◌, ◌<◌, ◌≤◌, Bool, true, false, List, [], ◌∷◌, ◌≢◌, nat_lt, slice_index, refl, ◌==◌}
use mathlib.Core.Bool.{cond}
use Rattle.std.proofs.Common.{sym, ap₂, arith, ltb-true, ltb-false, lt-ltb, le-ltb}
use Rattle.std.proofs.Math.Nat.{le_of_lt}
use Rattle.std.specs.Ordering.{nat_cmp, MatchOrdering, is_lt}
use Rattle.std.specs.declared.cmp.Ordering.{Ordering}
use Rattle.std.specs.declared.cmp.Ordering.TheVariants.{Less, Equal, Greater}
use Rattle.std.specs.Cmp.{nat_cmp_is}
use Rattle.std.proofs.lemmas.Cmp.{ranked}
use Rattle.words.specs.declared.ids.Id.{Id}

-- the number p with one word more behind it
pub join : ℕ → ℕ → ℕ
join p w = p * 2 ^ 64 + w

pub join_is : (p w : ℕ) → join p w ≡ p * 2 ^ 64 + w
unfolding join
join_is p w = refl

-- the number of four words: a * 2 ^ 192 + b * 2 ^ 128 + c * 2 ^ 64 + d
abbrev pub num : ℕ → ℕ → ℕ → ℕ → ℕ
num a b c d = join (join (join a b) c) d

-- the number of an id of the code
unfoldable pub id_of : Id → ℕ
id_of x = num x.a x.b x.c x.d

-- the id in the four words of l from index at
unfoldable pub id_at : List ℕ → ℕ → ℕ
id_at l at = num (slice_index l at) (slice_index l (at + 1)) (slice_index l (at + 2)) (slice_index l (at + 3))

-- an id that is read from index p, and the words of one: what the code reads and writes
abbrev pub words_at : List ℕ → ℕ → Id
words_at l p = record { a = slice_index l p; b = slice_index l (p + 1); c = slice_index l (p + 2); d = slice_index l (p + 3) }

abbrev pub id_words : Id → List ℕ
id_words x = x.a ∷ x.b ∷ x.c ∷ x.d ∷ []

-- the four words from index p are among n
abbrev pub Four : ℕ → ℕ → Type 0
Four p n = (p < n) × (p + 1 < n) × (p + 2 < n) × (p + 3 < n)

-- ---- what the code's tests on words say of the numbers

-- the test for less, of two numbers that were compared
pub less-is : (m n : ℕ) → is_lt (nat_cmp m n) ≡ nat_lt m n
less-is m n = go (nat_lt m n) (m == n)
  where
    go : (t u : Bool) → is_lt (cond t Less (cond u Equal Greater)) ≡ t
    go true u = refl
    go false true = refl
    go false false = refl

-- two tests agree where what each says follows from what the other says
pub same-ltb : (a b m n : ℕ) → (a < b → m < n) → (b ≤ a → n ≤ m) → nat_lt a b ≡ nat_lt m n
same-ltb a b m n f g = go (nat_lt a b) refl
  where
    go : (t : Bool) → nat_lt a b ≡ t → t ≡ nat_lt m n
    go true e = sym (lt-ltb m n (f (ltb-true a b e)))
    go false e = sym (le-ltb m n (g (ltb-false a b e)))

-- two comparisons agree where each answer of the one is that of the other
pub same-cmp : (a b m n : ℕ) → (a < b → m < n) → (a ≡ b → m ≡ n) → (b < a → n < m) → nat_cmp a b ≡ nat_cmp m n
same-cmp a b m n below equal above = nat_cmp_is m n (nat_cmp a b) (turned (nat_cmp a b) (ranked a b (nat_cmp a b) refl))
  where
    turned : (r : Ordering) → MatchOrdering r (a < b) (a ≡ b) (b < a) → MatchOrdering r (m < n) (m ≡ n) (n < m)
    turned Less h = below h
    turned Equal h = equal h
    turned Greater h = above h

join-lt : {p q r : ℕ} (s : ℕ) → p < q → r < 2 ^ 64 → join p r < join q s
unfolding join
join-lt s h k = omega arith

join_step : {p q r s : ℕ} → p ≡ q → r < s → join p r < join q s
unfolding join
join_step e h = omega arith

join-inj : (p q r s : ℕ) → r < 2 ^ 64 → s < 2 ^ 64 → join p r ≡ join q s → (p ≡ q) × (r ≡ s)
unfolding join
join-inj p q r s h k e = omega arith

-- each word of an id is a word
abbrev pub Words : Id → Type 0
Words x = (x.a < 2 ^ 64) × (x.b < 2 ^ 64) × (x.c < 2 ^ 64) × (x.d < 2 ^ 64)

module _ (x y : Id) (wx : Words x) (wy : Words y) where
  pub id-inj : id_of x ≡ id_of y → (x.a ≡ y.a) × (x.b ≡ y.b) × (x.c ≡ y.c) × (x.d ≡ y.d)
  unfolding id_of
  id-inj e =
      let d = join-inj _ _ _ _ wx.3 wy.3 e in
      let c = join-inj _ _ _ _ wx.2 wy.2 d.0 in
      let b = join-inj _ _ _ _ wx.1 wy.1 c.0 in
      (b.0, b.1, c.1, d.1)

  pub cmp-a : (x.a ≢ y.a) → nat_cmp x.a y.a ≡ nat_cmp (id_of x) (id_of y)
  unfolding id_of
  cmp-a n =
      same-cmp _ _ _ _
      (λ h. join-lt _ (join-lt _ (join-lt _ h wx.1) wx.2) wx.3)
      (λ h. absurd (n h))
      (λ h. join-lt _ (join-lt _ (join-lt _ h wy.1) wy.2) wy.3)

  pub cmp-b : x.a ≡ y.a → (x.b ≢ y.b) → nat_cmp x.b y.b ≡ nat_cmp (id_of x) (id_of y)
  unfolding id_of
  cmp-b e n =
      same-cmp _ _ _ _
      (λ h. join-lt _ (join-lt _ (join_step e h) wx.2) wx.3)
      (λ h. absurd (n h))
      (λ h. join-lt _ (join-lt _ (join_step (sym e) h) wy.2) wy.3)

  pub cmp-c : x.a ≡ y.a → x.b ≡ y.b → (x.c ≢ y.c) → nat_cmp x.c y.c ≡ nat_cmp (id_of x) (id_of y)
  unfolding id_of
  cmp-c e f n =
      same-cmp _ _ _ _
      (λ h. join-lt _ (join_step (ap₂ join e f) h) wx.3)
      (λ h. absurd (n h))
      (λ h. join-lt _ (join_step (sym (ap₂ join e f)) h) wy.3)

  pub cmp-d : x.a ≡ y.a → x.b ≡ y.b → x.c ≡ y.c → nat_cmp x.d y.d ≡ nat_cmp (id_of x) (id_of y)
  unfolding id_of
  cmp-d e f g =
      let p = ap₂ join (ap₂ join e f) g in
      same-cmp _ _ _ _ (join_step p) (ap₂ join p) (join_step (sym p))
