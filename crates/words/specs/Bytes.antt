-- Document 01: "An id is 32 bytes, ordered byte by byte from the first." The order of ids as numbers, which the code and every contract use,
-- is that order.
use Rattle.std.specs.Prelude.{◌≡◌, ℕ, zero, suc, ◌+◌, ◌*◌, ◌/◌, ◌%◌, ◌^◌, ◌<◌, Bool, true, false, ltb, List, [], ◌∷◌, ◌++◌, length, ◌==◌, nat_lt, refl}
use Rattle.std.proofs.Common.{sym, ap, ap₂, ◌∙◌, le_refl, le_of_lt, mod-lt, mod-eq_of_lt, add-mul, add_assoc, mul_assoc, mul-one, add-zero, arith, lit<, eqb-true, le-ltb}
use Rattle.std.proofs.Math.Nat.{mod-one, pow-succ', one-le-pow}
use Rattle.std.proofs.Math.Arith.{mod-mul}
use Rattle.std.proofs.lemmas.Bool.{eqb-false}
use Rattle.words.specs.Lists.{pick}
use Rattle.words.specs.Ids.{join, join_is, id_of, Words, id-inj, same-ltb}
use Rattle.words.specs.declared.ids.Id.{Id}

-- the lowest k bytes of a word, the most significant first: byte j of 8 is w / 256 ^ (7 - j) % 256
abbrev pub bytes : ℕ → ℕ → List ℕ
bytes zero w = []
bytes (suc k) w = w / 256 ^ k % 256 ∷ bytes k w

-- the 32 bytes of an id
abbrev pub bytes_of : Id → List ℕ
bytes_of x = bytes 8 x.a ++ (bytes 8 x.b ++ (bytes 8 x.c ++ bytes 8 x.d))

-- byte by byte from the first: the first that differs decides
abbrev pub before : List ℕ → List ℕ → Bool
before [] [] = false
before [] (y ∷ ys) = true
before (x ∷ xs) [] = false
before (x ∷ xs) (y ∷ ys) = pick (x == y) (before xs ys) (nat_lt x y)

-- on the edges
word-edge : bytes 8 0x0102030405060708 ≡ 1 ∷ 2 ∷ 3 ∷ 4 ∷ 5 ∷ 6 ∷ 7 ∷ 8 ∷ []
word-edge = refl

before-edge : (before (1 ∷ 0 ∷ []) (0 ∷ 255 ∷ []) ≡ false) × (before (0 ∷ 255 ∷ []) (1 ∷ 0 ∷ []) ≡ true) × (before (7 ∷ 7 ∷ []) (7 ∷ 7 ∷ []) ≡ false)
before-edge = (refl, refl, refl)

pub length-bytes : (x : Id) → length (bytes_of x) ≡ 32
length-bytes x = refl

-- ---- the number of bytes that follow p, by Horner's rule

number : ℕ → List ℕ → ℕ
number p [] = p
number p (x ∷ xs) = number (p * 256 + x) xs

number_append : (p : ℕ) (a b : List ℕ) → number p (a ++ b) ≡ number (number p a) b
unfolding number
number_append p [] b = refl
number_append p (x ∷ a) b = number_append (p * 256 + x) a b

pow_pos : (k : ℕ) → 0 < 256 ^ k
pow_pos k = one-le-pow k 256 (lit< tt)

-- the bytes of a word give the word back
number-bytes : (k p w : ℕ) → number p (bytes k w) ≡ p * 256 ^ k + w % 256 ^ k
unfolding number
number-bytes zero p w = sym (ap₂ ◌+◌ (mul-one p) (mod-one w) ∙ add-zero p)
number-bytes (suc k) p w =
    number-bytes k (p * 256 + w / 256 ^ k % 256) w
    ∙ ap (λ (x : ℕ). x + w % 256 ^ k) (add-mul (p * 256) (w / 256 ^ k % 256) (256 ^ k))
    ∙ add_assoc (p * 256 * 256 ^ k) (w / 256 ^ k % 256 * 256 ^ k) (w % 256 ^ k)
    ∙ ap₂ ◌+◌ (mul_assoc p 256 (256 ^ k)) (sym (mod-mul w (lit< tt) (pow_pos k)))
    ∙ ap (λ (x : ℕ). p * x + w % x) (sym (pow-succ' 256 k))

number_word : (p w : ℕ) → w < 2 ^ 64 → number p (bytes 8 w) ≡ join p w
number_word p w h = number-bytes 8 p w ∙ ap (λ (x : ℕ). p * 2 ^ 64 + x) (mod-eq_of_lt h) ∙ sym (join_is p w)

-- ---- two lists of bytes, as long as each other

data Both : List ℕ → List ℕ → Type 0 where
  none : Both [] []
  more : {x y : ℕ} {a b : List ℕ} → x < 256 → y < 256 → Both a b → Both (x ∷ a) (y ∷ b)

both_bytes : (k w v : ℕ) → Both (bytes k w) (bytes k v)
both_bytes zero w v = none
both_bytes (suc k) w v = more (mod-lt (w / 256 ^ k) (lit< tt)) (mod-lt (v / 256 ^ k) (lit< tt)) (both_bytes k w v)

both-append : {a b c d : List ℕ} → Both a b → Both c d → Both (a ++ c) (b ++ d)
both-append none k = k
both-append (more h l r) k = more h l (both-append r k)

both-swap : {a b : List ℕ} → Both a b → Both b a
both-swap none = none
both-swap (more h l r) = more l h (both-swap r)

-- what stands in front decides
front : {a b : List ℕ} → Both a b → (p q : ℕ) → p < q → number p a < number q b
unfolding number
front none p q l = l
front (more {x = x} {y = y} h k r) p q l = front r (p * 256 + x) (q * 256 + y) (omega arith)

-- the first byte that differs decides the order of the numbers
order : {a b : List ℕ} → Both a b → (p : ℕ) → before a b ≡ nat_lt (number p a) (number p b)
unfolding number
order none p = sym (le-ltb p p (le_refl p))
order (more {x = x} {y = y} {a = a} {b = b} h k r) p = go (x == y) refl (order r (p * 256 + x))
  where
    go : (t : Bool) → (x == y) ≡ t → before a b ≡ nat_lt (number (p * 256 + x) a) (number (p * 256 + x) b)
        → pick t (before a b) (nat_lt x y) ≡ nat_lt (number (p * 256 + x) a) (number (p * 256 + y) b)
    go true e i = i ∙ ap (λ (z : ℕ). ltb (number (p * 256 + x) a) (number (p * 256 + z) b)) (eqb-true x y e)
    go false e i =
        same-ltb x y _ _
        (λ l. front r (p * 256 + x) (p * 256 + y) (omega arith))
        (λ l. le_of_lt (front (both-swap r) (p * 256 + y) (p * 256 + x) (omega (arith, eqb-false x y e))))

-- ---- ids

number-id : (x : Id) → Words x → number 0 (bytes_of x) ≡ id_of x
unfolding id_of
number-id x w =
    let a = bytes 8 x.a in let b = bytes 8 x.b in let c = bytes 8 x.c in let d = bytes 8 x.d in
    number_append 0 a (b ++ (c ++ d)) ∙ number_append (number 0 a) b (c ++ d) ∙ number_append (number (number 0 a) b) c d
    ∙ ap (λ (p : ℕ). number (number (number p b) c) d) (number_word 0 x.a w.0 ∙ join_is 0 x.a ∙ omega arith)
    ∙ ap (λ (p : ℕ). number (number p c) d) (number_word x.a x.b w.1)
    ∙ ap (λ (p : ℕ). number p d) (number_word (join x.a x.b) x.c w.2)
    ∙ number_word (join (join x.a x.b) x.c) x.d w.3

both-ids : (x y : Id) → Both (bytes_of x) (bytes_of y)
both-ids x y = both-append (both_bytes 8 x.a y.a) (both-append (both_bytes 8 x.b y.b) (both-append (both_bytes 8 x.c y.c) (both_bytes 8 x.d y.d)))

module _ (x y : Id) (wx : Words x) (wy : Words y) where
  -- the order of ids is the order of their bytes
  pub order-of-bytes : before (bytes_of x) (bytes_of y) ≡ nat_lt (id_of x) (id_of y)
  order-of-bytes = order (both-ids x y) 0 ∙ ap₂ ltb (number-id x wx) (number-id y wy)

  -- ids are equal exactly if their bytes are
  pub bytes-of-equal : id_of x ≡ id_of y → bytes_of x ≡ bytes_of y
  bytes-of-equal e = let k = id-inj x y wx wy e in λ i. bytes_of (record { a = k.0 i; b = k.1 i; c = k.2 i; d = k.3 i })

  pub equal-of-bytes : bytes_of x ≡ bytes_of y → id_of x ≡ id_of y
  equal-of-bytes e = sym (number-id x wx) ∙ ap (number 0) e ∙ number-id y wy
