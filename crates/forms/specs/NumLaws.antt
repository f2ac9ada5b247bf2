-- Laws of numbers in text: what the readers and printers do, and that reading what was printed gives it back (`number-back`, `id-back`).
use Rattle.std.specs.Prelude.{ℕ, zero, suc, ◌⊎◌, ◌+◌, ◌-◌, ◌*◌, ◌/◌, ◌%◌, ◌^◌, ◌<◌, ◌≤◌, ◌≡◌, Bool, length, get_or, take, drop, set, ltb, Option, Some, None}
use Rattle.std.proofs.Math.Path.{refl, sym, ap, ap₂, subst}
use Rattle.std.proofs.Common.{◌∙◌, inl, inr, add-one, mod-eq_of_lt, mul-le-mul_right, mul-le-mul_left, le-div_iff_mul-le, div-lt_iff_lt-mul, div-add-mod', mod-lt, pow-suc, mul_assoc, add-mul, one-mul, length-drop, length-append, take-append-drop, drop-cons, drop_of_length-le, drop-drop, length-take-le, drop_at, take_at, leb-true, le-leb, lt-ltb, le-ltb, ltb-true, ltb-false}
use Rattle.std.proofs.Math.Bool.{true, false}
use mathlib.Core.List.{List, [], ◌∷◌, ◌++◌, append_assoc}
use native.Mathlib.Omega.{arith}
use Rattle.std.proofs.Math.Nat.{mul-add-div_right, mul-add-mod_self_right, div-eq_of_lt, pow-zero, pow-succ', pow-le-pow_right}
use Rattle.std.proofs.lemmas.List.{set_at, set_split}
use Rattle.std.proofs.Math.Dec.{leb}
use Rattle.std.proofs.lemmas.Bool.{lt-leb}
use Rattle.std.proofs.lemmas.Bool.Decides.{nat_tests}
use Rattle.std.specs.Char.{digit_value}
use Rattle.words.specs.Lists.{pick}
use Rattle.words.specs.Ids.{Words}
use Rattle.words.specs.declared.ids.Id.{Id}
use Rattle.forms.specs.Text.{within, part}
use Rattle.forms.specs.TextLaws.{true-false, by_bool}
use Rattle.forms.specs.Nums.{digit_of, is_digits, more, number, decimal, is_hex, front, last16, joined, id_number, id_of_digits, id_read, digit_byte, numeral, decimal_text, id_text, over, Prints, Digits, Numeral, Stepped, Lower, Shows, Printed, upto, Pads, Padded, Sofar, Words16, Walked}

-- ---- the numbers

pub more-le : (b n : ℕ) (s : List ℕ) → 0 < b → n ≤ more b n s
unfolding more
more-le b n [] h = omega arith
more-le b n (c ∷ s) h =
    let r = more-le b (n * b + digit_of c) s h in
    let m : n * 1 ≤ n * b = mul-le-mul_left n (omega arith) in
    omega arith

pub more-append : (b n : ℕ) (s t : List ℕ) → more b n (s ++ t) ≡ more b (more b n s) t
unfolding more
more-append b n [] t = refl
more-append b n (c ∷ s) t = more-append b (n * b + digit_of c) s t

pub more-pow : (b n : ℕ) (s : List ℕ) → more b n s ≡ n * b ^ length s + number b s
unfolding more
more-pow b n [] = let p = pow-zero b in rw p (omega arith)
more-pow b n (c ∷ s) =
    let z : 0 * b + digit_of c ≡ digit_of c = omega arith in
    let y : more b (0 * b + digit_of c) s ≡ digit_of c * b ^ length s + number b s = more-pow b (0 * b + digit_of c) s ∙ ap (λ (k : ℕ). k * b ^ length s + number b s) z in
    let p : n * b ^ suc (length s) ≡ n * b * b ^ length s = ap (λ (k : ℕ). n * k) (pow-succ' b (length s)) ∙ sym (mul_assoc n b (b ^ length s)) in
    more-pow b (n * b + digit_of c) s ∙ ap (λ (z : ℕ). z + number b s) (add-mul (n * b) (digit_of c) (b ^ length s)) ∙ omega arith

pub digits_append : (b : ℕ) (s t : List ℕ) → Digits b s → Digits b t → Digits b (s ++ t)
unfolding Digits
digits_append b [] t x y = y
digits_append b (c ∷ s) t x y = (x.0, digits_append b s t x.1 y)

pub digits-front : (b : ℕ) (s t : List ℕ) → Digits b (s ++ t) → Digits b s × Digits b t
unfolding Digits
digits-front b [] t x = (tt, x)
digits-front b (c ∷ s) t x = let r = digits-front b s t x.1 in ((x.0, r.0), r.1)

-- ---- reading

-- what is left to read, over what was read, is the whole
pub record Goes (b limit : ℕ) (s r : List ℕ) (v : ℕ) : Type 0 where
  pub small : v ≤ limit
  pub ahead : Digits b r → Digits b s
  pub back : Digits b s → Digits b r
  pub same : more b v r ≡ number b s

pub goes-start : (b limit : ℕ) (s : List ℕ) → Goes b limit s s 0
goes-start b limit s = record { small = omega arith; ahead = λ x. x; back = λ x. x; same = refl }

module _ (b limit : ℕ) (s : List ℕ) (c : ℕ) (r r' : List ℕ) (v : ℕ) (cut : r ≡ c ∷ r') (o : Goes b limit s r v) where
  pub goes_on : (w : ℕ) → digit_of c < b → Stepped limit (v * b + digit_of c) (Some w) → Goes b limit s r' w
  unfolding Digits more Stepped
  goes_on w h st =
      record {
        small = omega arith;
        ahead = λ x. o.ahead (subst (λ (z : List ℕ). Digits b z) (sym cut) (h, x));
        back = λ x. (subst (λ (z : List ℕ). Digits b z) cut (o.back x)).1;
        same = ap (λ (n : ℕ). more b n r') st.0 ∙ ap (λ (z : List ℕ). more b v z) (sym cut) ∙ o.same;
      }

  pub ends-digit : b ≤ digit_of c → Numeral b limit s None
  unfolding Digits Numeral
  ends-digit h d n = absurd (let x = subst (λ (z : List ℕ). Digits b z) cut (o.back d) in omega (arith, x.0))

  pub ends-over : 0 < b → Stepped limit (v * b + digit_of c) None → Numeral b limit s None
  unfolding more Stepped Numeral
  ends-over p st d n =
      let e : more b (v * b + digit_of c) r' ≡ number b s = ap (λ (z : List ℕ). more b v z) (sym cut) ∙ o.same in
      let m = more-le b (v * b + digit_of c) r' p in
      absurd (omega arith)

pub ends-value : (b limit : ℕ) (s : List ℕ) (v : ℕ) → Goes b limit s [] v → Numeral b limit s (Some v)
unfolding Digits more Numeral
ends-value b limit s v o = (o.ahead tt, o.same, o.small)

-- what is left of the digits from index i on
pub left-cons : (s : List ℕ) (i : ℕ) → i < length s → drop i s ≡ get_or s i 0 ∷ drop (i + 1) s
left-cons s i h = drop-cons s i 0 h ∙ ap (λ (k : ℕ). get_or s i 0 ∷ drop k s) (sym (add-one i))

pub left-none : (s : List ℕ) (i : ℕ) → length s ≤ i → drop i s ≡ []
left-none s i h = drop_of_length-le s {i = i} h

pub at-digit : (limit v b c d : ℕ) (r : Option ℕ) → d ≡ digit_of c → Stepped limit (v * b + d) r → Stepped limit (v * b + digit_of c) r
at-digit limit v b c d r e x = subst (λ (z : ℕ). Stepped limit (v * b + z) r) e x

-- ---- one step, and one digit

module _ (limit v b d : ℕ) where
  pub step-over : limit < v * b + d → Stepped limit (v * b + d) None
  unfolding Stepped
  step-over h = h

  pub step_in : v * b + d ≤ limit → Stepped limit (v * b + d) (Some (v * b + d))
  unfolding Stepped
  step_in h = (refl, h)

within-yes : (a z c : ℕ) → a ≤ c → c ≤ z → within a z c ≡ true
within-yes a z c h k = ap₂ (λ (x y : Bool). pick x y false) (le-leb a c h) (le-leb c z k)

within-no : (a z c : ℕ) → z < c → within a z c ≡ false
within-no a z c h = ap (λ (y : Bool). pick (leb a c) y false) (lt-leb c z h) ∙ any (leb a c)
  where
    any : (b : Bool) → pick b false false ≡ false
    any true = refl
    any false = refl

within-out : (a z c : ℕ) → (a ≤ c → c ≤ z → ⊥) → within a z c ≡ false
within-out a z c n =
    by_bool (leb a c)
    (λ p. ap (λ (b : Bool). pick b (leb c z) false) p ∙ by_bool (leb c z) (λ q. absurd (n (leb-true a c p) (leb-true c z q))) (λ q. q))
    (λ p. ap (λ (b : Bool). pick b (leb c z) false) p)

within-not : (a z c : ℕ) → within a z c ≡ false → a ≤ c → c ≤ z → ⊥
within-not a z c e h k = true-false (within-yes a z c h k) e

within-below : (a z c : ℕ) → c < a → within a z c ≡ false
within-below a z c h = within-out a z c (λ p q. omega arith)

pub within_low : (a z c : ℕ) → within a z c ≡ true → (a ≤ c) × (c ≤ z)
within_low a z c e =
    by_bool (leb a c)
    (λ h. (leb-true a c h, leb-true c z (sym (ap (λ (b : Bool). pick b (leb c z) false) h) ∙ e)))
    (λ h. true-false e (ap (λ (b : Bool). pick b (leb c z) false) h))

module _ (c : ℕ) where
  pub digit-1 : within 48 57 c ≡ true → digit_of c ≡ c - 48
  unfolding digit_of
  digit-1 e = ap (λ (b : Bool). pick b (c - 48) (pick (within 97 102 c) (c - 87) (pick (within 65 70 c) (c - 55) 99))) e

  pub digit-2 : within 48 57 c ≡ false → within 97 102 c ≡ true → digit_of c ≡ c - 87
  unfolding digit_of
  digit-2 e f = ap₂ (λ (a b : Bool). pick a (c - 48) (pick b (c - 87) (pick (within 65 70 c) (c - 55) 99))) e f

  pub digit-3 : within 48 57 c ≡ false → within 97 102 c ≡ false → within 65 70 c ≡ true → digit_of c ≡ c - 55
  unfolding digit_of
  digit-3 e f g = ap₂ (λ (a b : Bool). pick a (c - 48) (pick b (c - 87) (pick (within 65 70 c) (c - 55) 99))) e f ∙ ap (λ (b : Bool). pick b (c - 55) 99) g

  pub digit-4 : within 48 57 c ≡ false → within 97 102 c ≡ false → within 65 70 c ≡ false → digit_of c ≡ 99
  unfolding digit_of
  digit-4 e f g = ap₂ (λ (a b : Bool). pick a (c - 48) (pick b (c - 87) (pick (within 65 70 c) (c - 55) 99))) e f ∙ ap (λ (b : Bool). pick b (c - 55) 99) g

module _ (c : ℕ) where
  -- the library's digit of a byte is that of base 16, where either is one
  pub value_of : ((16 ≤ digit_value c) × (16 ≤ digit_of c)) ⊎ (digit_value c ≡ digit_of c)
  value_of =
      by_bool (within 48 57 c) (λ e. let h = within_low 48 57 c e in let v : digit_value c ≡ c - 48 = grind (arith, nat_tests) in inr (v ∙ sym (digit-1 c e)))
      (λ e. by_bool (within 97 102 c) (λ f. let h = within_low 97 102 c f in let v : digit_value c ≡ c - 87 = grind (arith, nat_tests) in inr (v ∙ sym (digit-2 c e f)))
      (λ f. by_bool (within 65 70 c) (λ g. let h = within_low 65 70 c g in let v : digit_value c ≡ c - 55 = grind (arith, nat_tests) in inr (v ∙ sym (digit-3 c e f g)))
      (λ g. inl (far (within-not 48 57 c e) (within-not 97 102 c f) (within-not 65 70 c g), omega (arith, digit-4 c e f g)))))
    where
      far : (48 ≤ c → c ≤ 57 → ⊥) → (97 ≤ c → c ≤ 102 → ⊥) → (65 ≤ c → c ≤ 70 → ⊥) → 16 ≤ digit_value c
      far n m k = grind (arith, nat_tests)

-- of the character x of a byte c, in a base of at most 16
pub is_digit : (b c d x : ℕ) → b ≤ 16 → x ≡ c → digit_value x < b → d ≡ digit_value x → (digit_of c < b) × (d ≡ digit_of c)
is_digit b c d x h e l q = subst (λ (y : ℕ). digit_value y < b → d ≡ digit_value y → (digit_of c < b) × (d ≡ digit_of c)) (sym e) here l q
  where
    here : digit_value c < b → d ≡ digit_value c → (digit_of c < b) × (d ≡ digit_of c)
    here l q = elim (value_of c) [ inl n ↦ absurd (omega arith) | inr v ↦ (omega arith, omega arith) ]

pub no_digit : (b c x : ℕ) → b ≤ 16 → x ≡ c → (digit_value x < b → ⊥) → b ≤ digit_of c
no_digit b c x h e n = subst (λ (y : ℕ). (digit_value y < b → ⊥) → b ≤ digit_of c) (sym e) here n
  where
    here : (digit_value c < b → ⊥) → b ≤ digit_of c
    here n = elim (value_of c) [ inl m ↦ omega arith | inr v ↦ omega (arith, n) ]

nil-of : (t : List ℕ) → length t ≡ 0 → t ≡ []
nil-of [] e = refl
nil-of (c ∷ t) e = absurd (omega arith)

-- ---- digits as a test

pub digits-yes : (b : ℕ) (s : List ℕ) → Digits b s → is_digits b s ≡ true
unfolding Digits is_digits
digits-yes b [] d = refl
digits-yes b (c ∷ s) d = ap (λ (t : Bool). pick t (is_digits b s) false) (lt-ltb (digit_of c) b d.0) ∙ digits-yes b s d.1

pub digits_of : (b : ℕ) (s : List ℕ) → is_digits b s ≡ true → Digits b s
unfolding Digits is_digits
digits_of b [] e = tt
digits_of b (c ∷ s) e =
    by_bool (ltb (digit_of c) b)
    (λ t. (ltb-true (digit_of c) b t, digits_of b s (sym (ap (λ (z : Bool). pick z (is_digits b s) false) t) ∙ e)))
    (λ t. true-false e (ap (λ (z : Bool). pick z (is_digits b s) false) t))

-- ---- the decimal reader

-- what its three tests make of a decimal number
module _ (limit : ℕ) (s : List ℕ) where
  pub decimal-yes : 0 < length s → Digits 10 s → number 10 s ≤ limit → decimal limit s ≡ Some (number 10 s)
  unfolding decimal
  decimal-yes h d n =
      ap (λ (t : Bool). pick t (pick (is_digits 10 s) (pick (leb (number 10 s) limit) (Some (number 10 s)) None) None) None) (lt-ltb 0 (length s) h)
      ∙ ap₂ (λ (t u : Bool). pick t (pick u (Some (number 10 s)) None) None) (digits-yes 10 s d) (le-leb (number 10 s) limit n)

  pub decimal-none : length s ≡ 0 → decimal limit s ≡ None
  unfolding decimal
  decimal-none h = ap (λ (t : Bool). pick t (pick (is_digits 10 s) (pick (leb (number 10 s) limit) (Some (number 10 s)) None) None) None) (le-ltb 0 (length s) (omega arith))

  pub decimal-no : (Digits 10 s → number 10 s ≤ limit → ⊥) → decimal limit s ≡ None
  unfolding decimal
  decimal-no n = go (ltb 0 (length s)) (is_digits 10 s) refl (leb (number 10 s) limit) refl
    where
      go : (t u : Bool) → is_digits 10 s ≡ u → (v : Bool) → leb (number 10 s) limit ≡ v → pick t (pick u (pick v (Some (number 10 s)) None) None) None ≡ None
      go false u e v f = refl
      go true false e v f = refl
      go true true e false f = refl
      go true true e true f = absurd (n (digits_of 10 s e) (leb-true (number 10 s) limit f))

  pub decimal-is : (r : Option ℕ) → 0 < length s → Numeral 10 limit s r → r ≡ decimal limit s
  unfolding Numeral
  decimal-is (Some v) h n = ap Some n.1 ∙ sym (decimal-yes h n.0 (omega (arith, n.1)))
  decimal-is None h n = sym (decimal-no n)

-- what is read is at most the limit
pub decimal-le : (limit : ℕ) (s : List ℕ) (v : ℕ) → decimal limit s ≡ Some v → v ≤ limit
unfolding decimal
decimal-le limit s v e = go (ltb 0 (length s)) (is_digits 10 s) (leb (number 10 s) limit) refl e
  where
    value-is : {m n : ℕ} → Some m ≡ Some n → m ≡ n
    value-is q = cc

    none_is : {A : Type 0} {n : ℕ} → None ≡ Some n → A
    none_is q = absurd (let z : ◌≡◌ {A = ℕ} 0 1 = ap kind q in omega arith)
      where
        kind : Option ℕ → ℕ
        kind (Some v) = 1
        kind None = 0

    go : (t u w : Bool) → leb (number 10 s) limit ≡ w → pick t (pick u (pick w (Some (number 10 s)) None) None) None ≡ Some v → v ≤ limit
    go true true true f q = subst (λ (z : ℕ). z ≤ limit) (value-is q) (leb-true (number 10 s) limit f)
    go true true false f q = none_is q
    go true false w f q = none_is q
    go false u w f q = none_is q

-- ---- ids

pub number_lt : (b : ℕ) (s : List ℕ) → Digits b s → 0 < b → number b s < b ^ length s
unfolding Digits more
number_lt b [] d p = omega (arith, pow-zero b)
number_lt b (c ∷ s) d p =
    let r = number_lt b s d.1 p in
    let m = more-pow b (0 * b + digit_of c) s in
    let q : (0 * b + digit_of c) * b ^ length s + b ^ length s ≤ b * b ^ length s =
    subst (λ (k : ℕ). k ≤ b * b ^ length s) (add-mul (0 * b + digit_of c) 1 (b ^ length s) ∙ ap (λ (k : ℕ). (0 * b + digit_of c) * b ^ length s + k) (one-mul (b ^ length s)))
    (mul-le-mul_right (b ^ length s) (omega (arith, d.0))) in
    omega (arith, pow-succ' b (length s))

-- at most 16 digits fit a word
pub sixteen-lt : (s : List ℕ) → Digits 16 s → length s ≤ 16 → number 16 s < 2 ^ 64
sixteen-lt s d h =
    let lt = number_lt 16 s d (omega arith) in
    let le : 16 ^ length s ≤ 16 ^ 16 = pow-le-pow_right (omega arith) {i = length s} {j = 16} h in
    omega arith

front-last : (s : List ℕ) → front s ++ last16 s ≡ s
front-last s = take-append-drop (length s - 16) s

pub front-digits : (s : List ℕ) → Digits 16 s → Digits 16 (front s) × Digits 16 (last16 s)
front-digits s d = digits-front 16 (front s) (last16 s) (subst (λ (z : List ℕ). Digits 16 z) (sym (front-last s)) d)

front_length : (s : List ℕ) → length (front s) ≡ length s - 16
front_length s = length-take-le (length s - 16) s (omega arith)

last-length : (s : List ℕ) → length (last16 s) ≡ length s - (length s - 16)
last-length s = length-drop (length s - 16) s

-- a word's digits behind those before them: their numbers are joined
number-join : (s : List ℕ) → number 16 s ≡ joined (number 16 (front s)) (number 16 (last16 s))
unfolding joined more
number-join s =
    ap (λ (z : List ℕ). number 16 z) (sym (front-last s))
    ∙ more-append 16 0 (front s) (last16 s)
    ∙ more-pow 16 (number 16 (front s)) (last16 s)
    ∙ by_bool (ltb 16 (length s))
    (λ t. let n : length (last16 s) ≡ 16 = last-length s ∙ omega (arith, ltb-true 16 (length s) t) in ap (λ (z : ℕ). number 16 (front s) * 16 ^ z + number 16 (last16 s)) n)
    (λ t. let n : length (front s) ≡ 0 = front_length s ∙ omega (arith, ltb-false 16 (length s) t) in
    let z : number 16 (front s) ≡ 0 = ap (λ (z : List ℕ). number 16 z) (nil-of (front s) n) in
    ap (λ (z : ℕ). z * 16 ^ length (last16 s) + number 16 (last16 s)) z ∙ omega (arith, z))

-- the id that is read is the number of its digits, whatever stands before the last 64
pub id-number : (s : List ℕ) → id_number (id_of_digits s) ≡ number 16 s
unfolding id_number id_of_digits
id-number s =
    let n = number-join s in
    let m = number-join (front s) in
    let k = number-join (front (front s)) in
    sym (n ∙ ap (λ (z : ℕ). joined z (number 16 (last16 s))) (m ∙ ap (λ (z : ℕ). joined z (number 16 (last16 (front s)))) k))

-- each of its words is a word
pub id-words : (s : List ℕ) → length s ≤ 64 → Digits 16 s → Words (id_of_digits s)
unfolding id_of_digits
id-words s h d =
    let x = front-digits s d in
    let y = front-digits (front s) x.0 in
    let z = front-digits (front (front s)) y.0 in
    let n = front_length s in
    let m = front_length (front s) in
    let k = front_length (front (front s)) in
    (sixteen-lt _ z.0 (omega arith), sixteen-lt _ z.1 (omega (arith, last-length (front (front s)))), sixteen-lt _ y.1 (omega (arith, last-length (front s))), sixteen-lt _ x.1 (omega (arith, last-length s)))

-- what the three tests of the reader make of an id
module _ (s : List ℕ) where
  pub id-yes : 0 < length s → length s ≤ 64 → is_digits 16 s ≡ true → id_read s ≡ Some (id_of_digits s)
  unfolding id_read is_hex
  id-yes h k d =
      ap₂ (λ (t u : Bool). pick (pick t (pick u (is_digits 16 s) false) false) (Some (id_of_digits s)) None) (lt-ltb 0 (length s) h) (le-leb (length s) 64 k)
      ∙ ap (λ (t : Bool). pick t (Some (id_of_digits s)) None) d

  pub id-none : length s ≡ 0 → id_read s ≡ None
  unfolding id_read is_hex
  id-none h = ap (λ (t : Bool). pick (pick t (pick (leb (length s) 64) (is_digits 16 s) false) false) (Some (id_of_digits s)) None) (le-ltb 0 (length s) (omega arith))

  pub id-long : 64 < length s → id_read s ≡ None
  unfolding id_read is_hex
  id-long h = ap₂ (λ (t u : Bool). pick (pick t (pick u (is_digits 16 s) false) false) (Some (id_of_digits s)) None) (lt-ltb 0 (length s) (omega arith)) (lt-leb (length s) 64 h)

  pub id_other : 0 < length s → length s ≤ 64 → is_digits 16 s ≡ false → id_read s ≡ None
  unfolding id_read is_hex
  id_other h k d =
      ap₂ (λ (t u : Bool). pick (pick t (pick u (is_digits 16 s) false) false) (Some (id_of_digits s)) None) (lt-ltb 0 (length s) h) (le-leb (length s) 64 k)
      ∙ ap (λ (t : Bool). pick t (Some (id_of_digits s)) None) d

-- what the test says, and the same with a zero in front
pub hex-in : (s : List ℕ) → is_hex s ≡ true → (0 < length s) × (length s ≤ 64) × (is_digits 16 s ≡ true)
unfolding is_hex
hex-in s e = go (ltb 0 (length s)) refl (leb (length s) 64) refl e
  where
    go : (t : Bool) → ltb 0 (length s) ≡ t → (u : Bool) → leb (length s) 64 ≡ u → pick t (pick u (is_digits 16 s) false) false ≡ true → (0 < length s) × (length s ≤ 64) × (is_digits 16 s ≡ true)
    go true p true q e = (ltb-true 0 (length s) p, leb-true (length s) 64 q, e)
    go true p false q e = true-false e refl
    go false p u q e = true-false e refl

pub zero-hex : (s : List ℕ) → is_hex s ≡ true → length s < 64 → is_hex (48 ∷ s) ≡ true
unfolding is_hex is_digits digit_of
zero-hex s h l = ap₂ (λ (t u : Bool). pick t (pick u (is_digits 16 s) false) false) (lt-ltb 0 (suc (length s)) (omega arith)) (le-leb (suc (length s)) 64 (omega arith)) ∙ (hex-in s h).2

-- the reader of at most 16 digits finds their number, if they are digits
sixteen-no : (s : List ℕ) → length s ≤ 16 → Numeral 16 18446744073709551615 s None → is_digits 16 s ≡ false
unfolding Numeral
sixteen-no s h n = by_bool (is_digits 16 s) (λ e. let d = digits_of 16 s e in absurd (n d (omega (arith, sixteen-lt s d h)))) (λ e. e)

-- the digits of an id as the code cuts them: f is what stands before d, g before c, and a before b
module _ (s d f c g a b : List ℕ) (some : 0 < length s) (few : length s ≤ 64) (f-is : f ≡ front s) (d-is : d ≡ last16 s) (g-is : g ≡ front f) (c-is : c ≡ last16 f) (a-is : a ≡ front g) (b-is : b ≡ last16 g) where
  all-of : is_digits 16 s ≡ true → Digits 16 a × Digits 16 b × Digits 16 c × Digits 16 d
  all-of e =
      let x = front-digits s (digits_of 16 s e) in
      let y = front-digits f (subst (λ (z : List ℕ). Digits 16 z) (sym f-is) x.0) in
      let z = front-digits g (subst (λ (z : List ℕ). Digits 16 z) (sym g-is) y.0) in
      (subst (λ (u : List ℕ). Digits 16 u) (sym a-is) z.0, subst (λ (u : List ℕ). Digits 16 u) (sym b-is) z.1, subst (λ (u : List ℕ). Digits 16 u) (sym c-is) y.1, subst (λ (u : List ℕ). Digits 16 u) (sym d-is) x.1)

  long-a : length a ≤ 16
  long-a = omega (arith, ap length a-is, front_length g, ap length g-is, front_length f, ap length f-is, front_length s)

  long-b : length b ≤ 16
  long-b = omega (arith, ap length b-is, last-length g)

  long-c : length c ≤ 16
  long-c = omega (arith, ap length c-is, last-length f)

  long-d : length d ≤ 16
  long-d = omega (arith, ap length d-is, last-length s)

  -- a part that is no number is none of digits, and then there is no id
  no-id : (t : List ℕ) → length t ≤ 16 → (is_digits 16 s ≡ true → Digits 16 t) → Numeral 16 18446744073709551615 t None → None ≡ id_read s
  no-id t h digits n =
      sym (id_other s some few (by_bool (is_digits 16 s) (λ e. true-false (digits-yes 16 t (digits e)) (sixteen-no t h n)) (λ e. e)))

  pub cut-no-a : Numeral 16 18446744073709551615 a None → None ≡ id_read s
  cut-no-a n = no-id a long-a (λ e. (all-of e).0) n

  pub cut-no-b : Numeral 16 18446744073709551615 b None → None ≡ id_read s
  cut-no-b n = no-id b long-b (λ e. (all-of e).1) n

  pub cut-no-c : Numeral 16 18446744073709551615 c None → None ≡ id_read s
  cut-no-c n = no-id c long-c (λ e. (all-of e).2) n

  pub cut-no-d : Numeral 16 18446744073709551615 d None → None ≡ id_read s
  cut-no-d n = no-id d long-d (λ e. (all-of e).3) n

  pub cut-id : (n m k l : ℕ) → Numeral 16 18446744073709551615 a (Some n) → Numeral 16 18446744073709551615 b (Some m) → Numeral 16 18446744073709551615 c (Some k)
      → Numeral 16 18446744073709551615 d (Some l) → Some (record { a = n; b = m; c = k; d = l }) ≡ id_read s
  unfolding Numeral id_of_digits
  cut-id n m k l p q r t =
      let fg : front f ≡ front (front s) = ap front f-is in
      let a-of : n ≡ number 16 (front (front (front s))) = p.1 ∙ ap (number 16) (a-is ∙ ap front (g-is ∙ fg)) in
      let b-of : m ≡ number 16 (last16 (front (front s))) = q.1 ∙ ap (number 16) (b-is ∙ ap last16 (g-is ∙ fg)) in
      let c-of : k ≡ number 16 (last16 (front s)) = r.1 ∙ ap (number 16) (c-is ∙ ap last16 f-is) in
      let d-of : l ≡ number 16 (last16 s) = t.1 ∙ ap (number 16) d-is in
      let all : Digits 16 s =
      join s (subst (λ (z : List ℕ). Digits 16 z) f-is (join f (subst (λ (z : List ℕ). Digits 16 z) g-is (join g (subst (λ (z : List ℕ). Digits 16 z) a-is p.0) (subst (λ (z : List ℕ). Digits 16 z) b-is q.0))) (subst (λ (z : List ℕ). Digits 16 z) c-is r.0))) (subst (λ (z : List ℕ). Digits 16 z) d-is t.0) in
      ap Some (λ i. record { a = a-of i; b = b-of i; c = c-of i; d = d-of i }) ∙ sym (id-yes s some few (digits-yes 16 s all))
    where
      join : (u : List ℕ) → Digits 16 (front u) → Digits 16 (last16 u) → Digits 16 u
      join u x y = subst (λ (z : List ℕ). Digits 16 z) (front-last u) (digits_append 16 (front u) (last16 u) x y)

-- ---- printing

pub byte_low : (d : ℕ) → d < 10 → digit_byte d ≡ 48 + d
unfolding digit_byte
byte_low d h = ap (λ (b : Bool). pick b (48 + d) (87 + d)) (lt-ltb d 10 h)

pub byte_high : (d : ℕ) → 10 ≤ d → digit_byte d ≡ 87 + d
unfolding digit_byte
byte_high d h = ap (λ (b : Bool). pick b (48 + d) (87 + d)) (le-ltb d 10 h)

pub byte-digit : (d : ℕ) → d < 16 → digit_of (digit_byte d) ≡ d
byte-digit d h =
    by_bool (ltb d 10)
    (λ t. let lt = ltb-true d 10 t in
    ap digit_of (byte_low d lt) ∙ digit-1 (48 + d) (within-yes 48 57 (48 + d) (omega arith) (omega arith)) ∙ omega arith)
    (λ t. let le = ltb-false d 10 t in
    ap digit_of (byte_high d le) ∙ digit-2 (87 + d) (within-no 48 57 (87 + d) (omega arith)) (within-yes 97 102 (87 + d) (omega arith) (omega arith)) ∙ omega arith)

-- one digit
pub shows-one : (b v : ℕ) → b ≤ 16 → v < b → Shows b v (digit_byte v ∷ [])
unfolding Digits Lower more
shows-one b v h lt =
    let e = byte-digit v (omega arith) in
    record { digits = (omega arith, tt); lower = (ap digit_byte (sym e), tt); value = omega arith; some = omega arith; lead = λ x y. absurd (omega arith) }

lower-append : (s t : List ℕ) → Lower s → Lower t → Lower (s ++ t)
unfolding Lower
lower-append [] t x y = y
lower-append (c ∷ s) t x y = (x.0, lower-append s t x.1 y)

get_d_front : (s t : List ℕ) → 0 < length s → get_or (s ++ t) 0 0 ≡ get_or s 0 0
get_d_front [] t h = absurd (omega arith)
get_d_front (c ∷ s) t h = refl

-- the first digit of a number that is not 0
lead-pos : (b q : ℕ) (t : List ℕ) → Shows b q t → 0 < q → digit_of (get_or t 0 0) ≡ 0 → ⊥
unfolding more
lead-pos b q [] x h e = absurd (omega (arith, x.some))
lead-pos b q (c ∷ []) x h e = absurd (omega (arith, x.value))
lead-pos b q (c ∷ (a ∷ t)) x h e = x.lead (omega arith) e

-- one digit more
pub shows_more : (b v : ℕ) (t : List ℕ) → 1 < b → b ≤ 16 → b ≤ v → Shows b (v / b) t → Shows b v (t ++ (digit_byte (v % b) ∷ []))
unfolding Digits Lower more
shows_more b v t h k big x =
    let lt : v % b < b = mod-lt v (omega arith) in
    let e = byte-digit (v % b) (omega arith) in
    let q : 1 ≤ v / b = (le-div_iff_mul-le {k = b} {x = 1} {y = v} (omega arith)).1 (omega (arith, one-mul b)) in
    record {
      digits = digits_append b t (digit_byte (v % b) ∷ []) x.digits (omega arith, tt);
      lower = lower-append t (digit_byte (v % b) ∷ []) x.lower (ap digit_byte (sym e), tt);
      value = more-append b 0 t (digit_byte (v % b) ∷ []) ∙ ap₂ (λ (m n : ℕ). m * b + n) x.value e ∙ div-add-mod' v b;
      some = omega (arith, x.some, length-append t (digit_byte (v % b) ∷ []));
      lead = λ z y. lead-pos b (v / b) t x (omega arith) (ap digit_of (sym (get_d_front t (digit_byte (v % b) ∷ []) x.some)) ∙ y);
    }

pub wrote_one : (at : ℕ) (x : List ℕ) (c : ℕ) → at < length x → (set x at c) ≡ over at (c ∷ []) x
wrote_one at x c h = set_split x at c h ∙ ap (λ (n : ℕ). take at x ++ (c ∷ drop n x)) (sym (add-one at))

pub wrote-more : (at : ℕ) (x t y : List ℕ) (c : ℕ) → at + length t < length x → y ≡ over at t x → (set y (at + length t) c) ≡ over at (t ++ (c ∷ [])) x
wrote-more at x t y c h w =
    let n : length (take at x ++ t) ≡ at + length t = length-append (take at x) t ∙ ap (λ (k : ℕ). k + length t) (length-take-le at x (omega arith)) in
    let m : length (t ++ (c ∷ [])) ≡ length t + 1 = length-append t (c ∷ []) in
    let k : suc (at + length t) ≡ at + length (t ++ (c ∷ [])) = omega arith in
    ap (λ (z : List ℕ). set z (at + length t) c) (w ∙ sym (append_assoc (take at x) t (drop (at + length t) x)) ∙ ap (λ (z : List ℕ). (take at x ++ t) ++ z) (drop-cons x (at + length t) 0 h))
    ∙ set_at (take at x ++ t) (get_or x (at + length t) 0) (drop (suc (at + length t)) x) c (at + length t) n
    ∙ append_assoc (take at x) t (c ∷ drop (suc (at + length t)) x)
    ∙ ap (λ (z : List ℕ). take at x ++ z) (sym (append_assoc t (c ∷ []) (drop (suc (at + length t)) x)))
    ∙ ap (λ (z : ℕ). take at x ++ ((t ++ (c ∷ [])) ++ drop z x)) k

pub printed-one : (b v width at : ℕ) (x : List ℕ) → b ≤ 16 → 0 < width → at + width ≤ length x → v < b → Printed b v width at x (set x at (digit_byte v)) (at + 1)
printed-one b v width at x h p room lt =
    record { text = digit_byte v ∷ []; shows = shows-one b v h lt; fits = omega arith; ends = refl; wrote = wrote_one at x (digit_byte v) (omega arith) }

pub printed-more : (b v width at : ℕ) (x y : List ℕ) (k : ℕ) → 1 < b → b ≤ 16 → at + width ≤ length x → b ≤ v → 1 < width → Printed b (v / b) (width - 1) at x y k
    → Printed b v width at x (set y k (digit_byte (v % b))) (k + 1)
printed-more b v width at x y k h1 h2 room big wide p =
    let c = digit_byte (v % b) in
    let m : length (p.text ++ (digit_byte (v % b) ∷ [])) ≡ length p.text + 1 = length-append p.text (digit_byte (v % b) ∷ []) in
    record {
      text = p.text ++ (digit_byte (v % b) ∷ []);
      shows = shows_more b v p.text h1 h2 big p.shows;
      fits = omega (arith, p.fits);
      ends = omega (arith, p.ends);
      wrote = subst (λ (z : ℕ). set y z (digit_byte (v % b)) ≡ over at (p.text ++ (digit_byte (v % b) ∷ [])) x) (sym p.ends) (wrote-more at x p.text y (digit_byte (v % b)) (omega (arith, p.fits)) p.wrote);
    }

-- room for one digit less
pub pow-down : (b v width : ℕ) → 1 < b → b ≤ v → v < b ^ width → (1 < width) × (v / b < b ^ (width - 1))
pow-down b v zero h big lt = absurd (omega (arith, pow-zero b))
pow-down b v (suc zero) h big lt = absurd (let e : b ^ 1 ≡ b = pow-suc b 0 ∙ ap (λ (z : ℕ). z * b) (pow-zero b) ∙ one-mul b in omega arith)
pow-down b v (suc (suc n)) h big lt =
    let e : suc (suc n) - 1 ≡ suc n = omega arith in
    (omega arith, subst (λ (z : ℕ). v / b < b ^ z) (sym e) ((div-lt_iff_lt-mul {k = b} (omega arith)).1 (subst (λ (z : ℕ). v < z) (pow-suc b (suc n)) lt)))

-- reading what was printed gives the number back
pub back : (b v limit : ℕ) (t : List ℕ) (r : Option ℕ) → Shows b v t → v ≤ limit → Numeral b limit t r → r ≡ Some v
unfolding Numeral
back b v limit t (Some w) s h n = ap Some (n.1 ∙ s.value)
back b v limit t None s h n = absurd (n s.digits (omega (arith, s.value)))

-- what stands where it was printed
pub printed-part : (b v width at : ℕ) (x y : List ℕ) (r : ℕ) → at + width ≤ length x → (p : Printed b v width at x y r) → part at r y ≡ p.text
printed-part b v width at x y r room p =
    let n : r - at ≡ length p.text = omega (arith, p.ends) in
    let m : length (take at x) ≡ at = length-take-le at x (omega arith) in
    ap₂ (λ (k : ℕ) (z : List ℕ). take k (drop at z)) n p.wrote
    ∙ ap (λ (z : List ℕ). take (length p.text) z) (drop_at (take at x) (p.text ++ drop (at + length p.text) x) at m)
    ∙ take_at p.text (drop (at + length p.text) x) (length p.text) refl

-- ---- ids printed

wrote_none : (at : ℕ) (x : List ℕ) → x ≡ over at [] x
wrote_none at x = let k : at + 0 ≡ at = omega arith in sym (take-append-drop at x) ∙ ap (λ (z : ℕ). take at x ++ drop z x) (sym k)

-- a text after a text
pub wrote_then : (at : ℕ) (x t y u z : List ℕ) → at + length t ≤ length x → y ≡ over at t x → z ≡ over (at + length t) u y → z ≡ over at (t ++ u) x
wrote_then at x t y u z h p q =
    let n : length (take at x ++ t) ≡ at + length t = length-append (take at x) t ∙ ap (λ (k : ℕ). k + length t) (length-take-le at x (omega arith)) in
    let e : y ≡ (take at x ++ t) ++ drop (at + length t) x = p ∙ sym (append_assoc (take at x) t (drop (at + length t) x)) in
    let front : take (at + length t) y ≡ take at x ++ t = ap (λ (k : List ℕ). take (at + length t) k) e ∙ take_at (take at x ++ t) (drop (at + length t) x) (at + length t) n in
    let back : drop (at + length t + length u) y ≡ drop (at + length (t ++ u)) x =
    sym (drop-drop (length u) (at + length t) y)
    ∙ ap (λ (k : List ℕ). drop (length u) k) (ap (λ (k : List ℕ). drop (at + length t) k) e ∙ drop_at (take at x ++ t) (drop (at + length t) x) (at + length t) n)
    ∙ drop-drop (length u) (at + length t) x
    ∙ ap (λ (k : ℕ). drop k x) (let m : at + length t + length u ≡ at + length (t ++ u) = omega (arith, length-append t u) in m) in
    q ∙ ap₂ (λ (a b : List ℕ). a ++ (u ++ b)) front back
    ∙ append_assoc (take at x) t (u ++ drop (at + length (t ++ u)) x)
    ∙ ap (λ (k : List ℕ). take at x ++ k) (sym (append_assoc t u (drop (at + length (t ++ u)) x)))

pub padded-none : (b v width at : ℕ) (x : List ℕ) → width ≡ 0 → v < b ^ width → Padded b v width at x x at
unfolding Digits Lower more
padded-none b v width at x h lt =
    let p : b ^ width ≡ 1 = ap (λ (k : ℕ). b ^ k) h ∙ pow-zero b in
    record { text = []; pads = record { digits = tt; lower = tt; value = omega arith; long = omega arith }; ends = omega arith; wrote = wrote_none at x }

pub pow-less : (b v width : ℕ) → 0 < b → (width ≡ 0 → ⊥) → v < b ^ width → v / b < b ^ (width - 1)
pow-less b v zero p h lt = absurd (h refl)
pow-less b v (suc n) p h lt =
    let e : suc n - 1 ≡ n = omega arith in
    subst (λ (z : ℕ). v / b < b ^ z) (sym e) ((div-lt_iff_lt-mul {k = b} p).1 (subst (λ (z : ℕ). v < z) (pow-suc b n) lt))

pub padded-more : (b v width at : ℕ) (x y : List ℕ) (k : ℕ) → 1 < b → b ≤ 16 → at + width ≤ length x → (width ≡ 0 → ⊥) → Padded b (v / b) (width - 1) at x y k
    → Padded b v width at x (set y k (digit_byte (v % b))) (k + 1)
unfolding Digits Lower more
padded-more b v width at x y k h1 h2 room nz p =
    let lt : v % b < b = mod-lt v (omega arith) in
    let e = byte-digit (v % b) (omega arith) in
    let q = p.pads in
    let m : length (p.text ++ (digit_byte (v % b) ∷ [])) ≡ length p.text + 1 = length-append p.text (digit_byte (v % b) ∷ []) in
    record {
      text = p.text ++ (digit_byte (v % b) ∷ []);
      pads = record {
        digits = digits_append b p.text (digit_byte (v % b) ∷ []) q.digits (omega arith, tt);
        lower = lower-append p.text (digit_byte (v % b) ∷ []) q.lower (ap digit_byte (sym e), tt);
        value = more-append b 0 p.text (digit_byte (v % b) ∷ []) ∙ ap₂ (λ (m n : ℕ). m * b + n) q.value e ∙ div-add-mod' v b;
        long = omega (arith, q.long, nz);
      };
      ends = omega (arith, p.ends);
      wrote = subst (λ (z : ℕ). set y z (digit_byte (v % b)) ≡ over at (p.text ++ (digit_byte (v % b) ∷ [])) x) (sym p.ends) (wrote-more at x p.text y (digit_byte (v % b)) (omega (arith, q.long, nz)) p.wrote);
    }

-- ---- one word more

pub word-padded : (w at : ℕ) (x y : List ℕ) (r : ℕ) (g : Bool) → g ≡ true → Padded 16 w 16 at x y r → Words16 g w at x y r
word-padded w at x y r g e p =
    record { text = p.text; fits = omega (arith, p.pads.long); ends = p.ends; wrote = p.wrote; padded = λ f. p.pads; fresh = λ f. true-false e f }

pub word-zero : (w at : ℕ) (x : List ℕ) (g : Bool) → g ≡ false → w ≡ 0 → Words16 g w at x x at
unfolding Digits Lower more
word-zero w at x g e z =
    record { text = []; fits = omega arith; ends = omega arith; wrote = wrote_none at x; padded = λ f. true-false f e; fresh = λ f. record { digits = tt; lower = tt; value = sym z; lead = λ h. absurd (omega arith) } }

pub word-shown : (w at : ℕ) (x y : List ℕ) (r : ℕ) (g : Bool) → g ≡ false → (w ≡ 0 → ⊥) → Printed 16 w 16 at x y r → Words16 g w at x y r
word-shown w at x y r g e z p =
    record {
      text = p.text;
      fits = p.fits;
      ends = p.ends;
      wrote = p.wrote;
      padded = λ f. true-false f e;
      fresh = λ f. record { digits = p.shows.digits; lower = p.shows.lower; value = p.shows.value; lead = λ h. lead-pos 16 w p.text p.shows (omega (arith, z)) };
    }

-- ---- all words

pub walked_none : (w : List ℕ) (at : ℕ) (x : List ℕ) → Walked w 0 at x x at
unfolding Digits Lower more upto
walked_none w at x =
    record { text = []; sofar = record { digits = tt; lower = tt; value = refl; lead = λ h. absurd (omega arith) }; fits = omega arith; ends = omega arith; wrote = wrote_none at x }

sofar-nil : (p : ℕ) (t : List ℕ) → Sofar p t → length t ≡ 0 → p ≡ 0
unfolding more
sofar-nil p [] s e = sym s.value
sofar-nil p (c ∷ t) s e = absurd (omega arith)

sofar-more : (p w : ℕ) (t u : List ℕ) → 0 < length t → Sofar p t → Pads 16 w 16 u → Sofar (joined p w) (t ++ u)
unfolding joined
sofar-more p w t u h s q =
    record {
      digits = digits_append 16 t u s.digits q.digits;
      lower = lower-append t u s.lower q.lower;
      value = more-append 16 0 t u ∙ more-pow 16 (number 16 t) u ∙ ap₂ (λ (a b : ℕ). number 16 t * 16 ^ a + b) q.long q.value ∙ ap (λ (z : ℕ). z * 2 ^ 64 + w) s.value;
      lead = λ l e. s.lead h (ap digit_of (sym (get_d_front t u h)) ∙ e);
    }

sofar-first : (p w : ℕ) (t u : List ℕ) → length t ≡ 0 → Sofar p t → Sofar w u → Sofar (joined p w) (t ++ u)
unfolding joined
sofar-first p w t u h s q =
    let z = sofar-nil p t s h in
    let e : w ≡ p * 2 ^ 64 + w = omega arith in
    subst (λ (k : ℕ). Sofar k (t ++ u)) e (subst (λ (k : List ℕ). Sofar w (k ++ u)) (sym (nil-of t h)) q)

pub walked_more : (w : List ℕ) (i at : ℕ) (x y z : List ℕ) (k r : ℕ) → at + 16 * i ≤ length x → Walked w i at x y k → Words16 (ltb at k) (get_or w i 0) k y z r → Walked w (i + 1) at x z r
unfolding upto
walked_more w i at x y z k r room p q =
    let m = length-append p.text q.text in
    record {
      text = p.text ++ q.text;
      sofar = subst (λ (n : ℕ). Sofar (upto w n) (p.text ++ q.text)) (sym (add-one i)) (by_bool (ltb at k)
          (λ t. sofar-more (upto w i) (get_or w i 0) p.text q.text (omega (arith, ltb-true at k t, p.ends)) p.sofar (q.padded t))
          (λ t. sofar-first (upto w i) (get_or w i 0) p.text q.text (omega (arith, ltb-false at k t, p.ends)) p.sofar (q.fresh t)));
      fits = omega (arith, p.fits, q.fits);
      ends = omega (arith, p.ends, q.ends);
      wrote = wrote_then at x p.text y q.text z (omega (arith, p.fits)) p.wrote (subst (λ (n : ℕ). z ≡ over n q.text y) p.ends q.wrote);
    }

-- ---- there is one numeral

snoc : (t : List ℕ) → 0 < length t → (s : List ℕ) × (c : ℕ) × (t ≡ s ++ (c ∷ []))
snoc [] h = absurd (omega arith)
snoc (c ∷ []) h = ([], c, refl)
snoc (c ∷ (a ∷ t)) h = let r = snoc (a ∷ t) (omega arith) in (c ∷ r.0, r.1, ap (λ (z : List ℕ). c ∷ z) r.2)

lower-front : (s t : List ℕ) → Lower (s ++ t) → Lower s × Lower t
unfolding Lower
lower-front [] t x = (tt, x)
lower-front (c ∷ s) t x = let r = lower-front s t x.1 in ((x.0, r.0), r.1)

-- the digits but the last spell the quotient, and the last the rest
module _ (b : ℕ) (s : List ℕ) (c : ℕ) (big : 1 < b) (sh : Shows b (number b (s ++ (c ∷ []))) (s ++ (c ∷ []))) where
  value-snoc : number b (s ++ (c ∷ [])) ≡ number b s * b + digit_of c
  unfolding more
  value-snoc = more-append b 0 s (c ∷ [])

  digit-snoc : (digit_of c < b) × (c ≡ digit_byte (digit_of c))
  unfolding Digits Lower
  digit-snoc = ((digits-front b s (c ∷ []) sh.digits).1.0, (lower-front s (c ∷ []) sh.lower).1.0)

  front-shows : 0 < length s → Shows b (number b s) s
  front-shows h =
      record {
        digits = (digits-front b s (c ∷ []) sh.digits).0;
        lower = (lower-front s (c ∷ []) sh.lower).0;
        value = refl;
        some = h;
        lead = λ l e. sh.lead (omega (arith, length-append s (c ∷ []))) (ap digit_of (get_d_front s (c ∷ []) h) ∙ e);
      }

div-of : (b q d : ℕ) → d < b → (q * b + d) / b ≡ q
div-of b q d h = mul-add-div_right {m = b} (omega arith) q d ∙ omega (arith, div-eq_of_lt {n = d} {m = b} h)

mod-of : (b q d : ℕ) → d < b → (q * b + d) % b ≡ d
mod-of b q d h = mul-add-mod_self_right q b d ∙ mod-eq_of_lt h

one-digit : (b c : ℕ) → number b (c ∷ []) ≡ digit_of c
unfolding more
one-digit b c = omega arith

lead-of : (b : ℕ) (s : List ℕ) → 0 < length s → 0 < b → (digit_of (get_or s 0 0) ≡ 0 → ⊥) → 0 < number b s
unfolding more
lead-of b [] h p n = absurd (omega arith)
lead-of b (c ∷ s) h p n = let m = more-le b (0 * b + digit_of c) s p in omega (arith, n)

numeral-one : (b w v : ℕ) → v < b → numeral b (suc w) v ≡ digit_byte v ∷ []
unfolding numeral
numeral-one b w v h = ap (λ (t : Bool). pick t (digit_byte v ∷ []) (numeral b w (v / b) ++ (digit_byte (v % b) ∷ []))) (lt-ltb v b h)

numeral-more : (b w v : ℕ) → b ≤ v → numeral b (suc w) v ≡ numeral b w (v / b) ++ (digit_byte (v % b) ∷ [])
unfolding numeral
numeral-more b w v h = ap (λ (t : Bool). pick t (digit_byte v ∷ []) (numeral b w (v / b) ++ (digit_byte (v % b) ∷ []))) (le-ltb v b h)

-- a last digit behind what is one numeral already
once_more : (b w v : ℕ) (t s : List ℕ) (c : ℕ) → 1 < b → Shows b v t → length t ≤ suc w → t ≡ s ++ (c ∷ []) → ((u : List ℕ) → Shows b (number b u) u → length u ≤ w → u ≡ numeral b w (number b u)) → t ≡ numeral b (suc w) v
once_more b w v t s c big sh h e ih =
    let v-is : v ≡ number b (s ++ (c ∷ [])) = sym sh.value ∙ ap (number b) e in
    let sh2 : Shows b (number b (s ++ (c ∷ []))) (s ++ (c ∷ [])) = subst (λ (n : ℕ). Shows b n (s ++ (c ∷ []))) v-is (subst (λ (z : List ℕ). Shows b v z) e sh) in
    let q = value-snoc b s c big sh2 in
    let d = digit-snoc b s c big sh2 in
    e ∙ by_bool (ltb 0 (length s))
    (λ p. let some = ltb-true 0 (length s) p in
    let x = front-shows b s c big sh2 some in
    let long = length-append s (c ∷ []) in
    let pos : 0 < number b s = lead-of b s some (omega arith) (λ z. sh2.lead (omega arith) (ap digit_of (get_d_front s (c ∷ []) some) ∙ z)) in
    let m : 1 * b ≤ number b s * b = mul-le-mul_right b pos in
    let k : length s ≤ w = omega (arith, ap length e) in
    let quot : v / b ≡ number b s = ap (λ (n : ℕ). n / b) (v-is ∙ q) ∙ div-of b (number b s) (digit_of c) d.0 in
    let rest : v % b ≡ digit_of c = ap (λ (n : ℕ). n % b) (v-is ∙ q) ∙ mod-of b (number b s) (digit_of c) d.0 in
    sym (numeral-more b w v (omega (arith, one-mul b)) ∙ ap₂ (λ (y : List ℕ) (z : ℕ). y ++ (z ∷ [])) (ap (numeral b w) quot ∙ sym (ih s x k)) (ap digit_byte rest ∙ sym d.1)))
    (λ p. let nil = nil-of s (omega (arith, ltb-false 0 (length s) p)) in
    let one : v ≡ digit_of c = v-is ∙ ap (λ (z : List ℕ). number b (z ++ (c ∷ []))) nil ∙ one-digit b c in
    ap (λ (z : List ℕ). z ++ (c ∷ [])) nil ∙ sym (numeral-one b w v (omega (arith, d.0)) ∙ ap (λ (z : ℕ). z ∷ []) (ap digit_byte one ∙ sym d.1)))

pub shows-once : (b w v : ℕ) (t : List ℕ) → 1 < b → Shows b v t → length t ≤ w → t ≡ numeral b w v
shows-once b zero v t big sh h = absurd (omega (arith, sh.some))
shows-once b (suc w) v t big sh h =
    let r = snoc t sh.some in
    once_more b w v t r.0 r.1 big sh h r.2 (λ u su lu. shows-once b w (number b u) u big su lu)

-- a numeral is shown, where it has the places
pub shows-numeral : (b w v : ℕ) → 1 < b → b ≤ 16 → 0 < w → v < b ^ w → Shows b v (numeral b w v)
shows-numeral b zero v big h p lt = absurd (omega arith)
shows-numeral b (suc w) v big h p lt =
    by_bool (ltb v b)
    (λ t. let l = ltb-true v b t in subst (λ (z : List ℕ). Shows b v z) (sym (numeral-one b w v l)) (shows-one b v h l))
    (λ t. let l = ltb-false v b t in
    let d = pow-down b v (suc w) big l lt in
    let e : suc w - 1 ≡ w = omega arith in
    subst (λ (z : List ℕ). Shows b v z) (sym (numeral-more b w v l)) (shows_more b v (numeral b w (v / b)) big h l (shows-numeral b w (v / b) big h (omega (arith, d.0)) (subst (λ (z : ℕ). v / b < b ^ z) e d.1))))

pub length-numeral : (b w v : ℕ) → length (numeral b w v) ≤ w
unfolding numeral
length-numeral b zero v = omega arith
length-numeral b (suc w) v =
    by_bool (ltb v b)
    (λ t. omega (arith, ap length (numeral-one b w v (ltb-true v b t))))
    (λ t. omega (arith, ap length (numeral-more b w v (ltb-false v b t)), length-append (numeral b w (v / b)) (digit_byte (v % b) ∷ []), length-numeral b w (v / b)))

-- ---- what the printers leave

pub prints-number : (b v w at : ℕ) (x y : List ℕ) (r : ℕ) → 1 < b → Printed b v w at x y r → Prints (numeral b w v) at x y r
prints-number b v w at x y r big p =
    let e = shows-once b w v p.text big p.shows p.fits in
    record { ends = p.ends ∙ ap (λ (z : List ℕ). at + length z) e; wrote = p.wrote ∙ ap (λ (z : List ℕ). over at z x) e }

pub prints-zero : (w : List ℕ) (i at : ℕ) (x y : List ℕ) (k : ℕ) → i ≡ 4 → at + 64 ≤ length x → k ≡ at → Walked w i at x y k → Prints (id_text (upto w 4)) at x (set y k 48) (k + 1)
unfolding numeral digit_byte
prints-zero w i at x y k four room e p =
    let l : length p.text ≡ 0 = omega (arith, p.ends) in
    let v : upto w 4 ≡ 0 = ap (upto w) (sym four) ∙ sofar-nil (upto w i) p.text p.sofar l in
    let same : y ≡ x = p.wrote ∙ ap (λ (t : List ℕ). over at t x) (nil-of p.text l) ∙ sym (wrote_none at x) in
    let t : id_text (upto w 4) ≡ 48 ∷ [] = ap id_text v in
    record { ends = omega (arith, ap length t); wrote = ap₂ (λ (a : List ℕ) (b : ℕ). set a b 48) same e ∙ wrote_one at x 48 (omega arith) ∙ ap (λ (z : List ℕ). over at z x) (sym t) }

pub prints-some : (w : List ℕ) (i at : ℕ) (x y : List ℕ) (k : ℕ) → i ≡ 4 → (k ≡ at → ⊥) → Walked w i at x y k → Prints (id_text (upto w 4)) at x y k
prints-some w i at x y k four e p =
    let l : 0 < length p.text = omega (arith, p.ends, e) in
    let q : Shows 16 (upto w 4) p.text = record { digits = p.sofar.digits; lower = p.sofar.lower; value = p.sofar.value ∙ ap (upto w) four; some = l; lead = λ h. p.sofar.lead l } in
    let t : p.text ≡ id_text (upto w 4) = shows-once 16 64 (upto w 4) p.text (omega arith) q (omega (arith, p.fits)) in
    record { ends = p.ends ∙ ap (λ (z : List ℕ). at + length z) t; wrote = p.wrote ∙ ap (λ (z : List ℕ). over at z x) t }

-- four words are the number of their id
pub upto-four : (x : Id) → upto (x.a ∷ x.b ∷ x.c ∷ x.d ∷ []) 4 ≡ id_number x
unfolding upto id_number joined
upto-four x = let z : 0 * 2 ^ 64 + x.a ≡ x.a = omega arith in ap (λ (p : ℕ). joined (joined (joined p x.b) x.c) x.d) z

pub prints-id : (x : Id) (at : ℕ) (y z : List ℕ) (r : ℕ) → Prints (id_text (upto (x.a ∷ x.b ∷ x.c ∷ x.d ∷ []) 4)) at y z r → Prints (id_text (id_number x)) at y z r
prints-id x at y z r p = subst (λ (n : ℕ). Prints (id_text n) at y z r) (upto-four x) p

-- ---- THEOREM: reading what was printed gives it back

pub number-back : (v : ℕ) → v < 2 ^ 64 → decimal 18446744073709551615 (decimal_text v) ≡ Some v
number-back v h =
    let s = shows-numeral 10 20 v (omega arith) (omega arith) (omega arith) (omega arith) in
    decimal-yes 18446744073709551615 (decimal_text v) s.some s.digits (omega (arith, s.value)) ∙ ap Some s.value

join-below : (p w q : ℕ) → p < q → w < 2 ^ 64 → joined p w < q * 2 ^ 64
unfolding joined
join-below p w q h k = omega arith

id_below : (x : Id) → Words x → id_number x < 16 ^ 64
unfolding id_number
id_below x w =
    join-below (joined (joined x.a x.b) x.c) x.d (2 ^ 64 * 2 ^ 64 * 2 ^ 64)
    (join-below (joined x.a x.b) x.c (2 ^ 64 * 2 ^ 64) (join-below x.a x.b (2 ^ 64) w.0 w.1) w.2) w.3

joined-inj : (p q r s : ℕ) → r < 2 ^ 64 → s < 2 ^ 64 → joined p r ≡ joined q s → (p ≡ q) × (r ≡ s)
unfolding joined
joined-inj p q r s h k e = omega arith

-- two ids of the same number are the same
id_same : (x y : Id) → Words x → Words y → id_number x ≡ id_number y → x ≡ y
unfolding id_number
id_same x y wx wy e =
    let d = joined-inj _ _ _ _ wx.3 wy.3 e in
    let c = joined-inj _ _ _ _ wx.2 wy.2 d.0 in
    let b = joined-inj _ _ _ _ wx.1 wy.1 c.0 in
    λ i. record { a = b.0 i; b = b.1 i; c = c.1 i; d = d.1 i }

pub id-back : (x : Id) → Words x → id_read (id_text (id_number x)) ≡ Some x
id-back x w =
    let s = shows-numeral 16 64 (id_number x) (omega arith) (omega arith) (omega arith) (id_below x w) in
    let l = length-numeral 16 64 (id_number x) in
    id-yes (id_text (id_number x)) s.some l (digits-yes 16 _ s.digits)
    ∙ ap Some (id_same (id_of_digits (id_text (id_number x))) x (id-words _ l s.digits) w (id-number (id_text (id_number x)) ∙ s.value))

-- ---- THEOREM: leading zeros and the case of digits change nothing

zero_more : (b : ℕ) (s : List ℕ) → number b (48 ∷ s) ≡ number b s
unfolding more digit_of
zero_more b s = let z : 0 * b + 0 ≡ 0 = omega arith in ap (λ (n : ℕ). more b n s) z

pub decimal-zero : (limit : ℕ) (s : List ℕ) → 0 < length s → decimal limit (48 ∷ s) ≡ decimal limit s
unfolding decimal is_digits digit_of
decimal-zero limit s h =
    ap₂ (λ (t : Bool) (n : ℕ). pick t (pick (is_digits 10 s) (pick (leb n limit) (Some n) None) None) None) (lt-ltb 0 (suc (length s)) (omega arith)) (zero_more 10 s)
    ∙ sym (ap (λ (t : Bool). pick t (pick (is_digits 10 s) (pick (leb (number 10 s) limit) (Some (number 10 s)) None) None) None) (lt-ltb 0 (length s) h))

-- the same digits in another case
unfoldable pub Alike : List ℕ → List ℕ → Type 0
Alike [] t = t ≡ []
Alike (c ∷ s) t = (a : ℕ) × (u : List ℕ) × (t ≡ a ∷ u) × (digit_of c ≡ digit_of a) × Alike s u

alike-length : (s t : List ℕ) → Alike s t → length s ≡ length t
unfolding Alike
alike-length [] t e = sym (ap length e)
alike-length (c ∷ s) t e = ap suc (alike-length s e.1 e.4) ∙ sym (ap length e.2)

alike-digits : (s t : List ℕ) → Alike s t → is_digits 16 s ≡ is_digits 16 t
unfolding Alike is_digits
alike-digits [] t e = sym (ap (is_digits 16) e)
alike-digits (c ∷ s) t e = ap₂ (λ (n : ℕ) (u : Bool). pick (ltb n 16) u false) e.3 (alike-digits s e.1 e.4) ∙ sym (ap (is_digits 16) e.2)

alike-more : (n : ℕ) (s t : List ℕ) → Alike s t → more 16 n s ≡ more 16 n t
unfolding Alike more
alike-more n [] t e = sym (ap (more 16 n) e)
alike-more n (c ∷ s) t e = ap (λ (k : ℕ). more 16 (n * 16 + k) s) e.3 ∙ alike-more (n * 16 + digit_of e.0) s e.1 e.4 ∙ sym (ap (more 16 n) e.2)

-- two hexadecimal words of the same number are the same id
pub id-spelling : (s t : List ℕ) → is_hex s ≡ true → is_hex t ≡ true → number 16 s ≡ number 16 t → id_read s ≡ id_read t
unfolding id_read
id-spelling s t h k e =
    ap (λ (b : Bool). pick b (Some (id_of_digits s)) None) h ∙ ap Some (id_same (id_of_digits s) (id_of_digits t) (hex-words s h) (hex-words t k) (id-number s ∙ e ∙ sym (id-number t)))
    ∙ sym (ap (λ (b : Bool). pick b (Some (id_of_digits t)) None) k)
  where
    hex-words : (s : List ℕ) → is_hex s ≡ true → Words (id_of_digits s)
    hex-words s h = let d = hex-in s h in id-words s d.1 (digits_of 16 s d.2)

pub id-zero : (s : List ℕ) → is_hex s ≡ true → length s < 64 → id_read (48 ∷ s) ≡ id_read s
id-zero s h l = id-spelling (48 ∷ s) s (zero-hex s h l) h (zero_more 16 s)

pub id-case : (s t : List ℕ) → is_hex s ≡ true → Alike s t → id_read s ≡ id_read t
unfolding is_hex
id-case s t h a = id-spelling s t h (sym (ap₂ (λ (n : ℕ) (b : Bool). pick (ltb 0 n) (pick (leb n 64) b false) false) (alike-length s t a) (alike-digits s t a)) ∙ h) (alike-more 0 s t a)
