-- The spelling of a number is what poolrun prints of it (`plain-number`), and that of an id too (`plain-hex`): the printers of crate forms say the same as
-- "decimal and lower-case hexadecimal without leading zeros, 0 for zero".
use Rattle.std.specs.Prelude.{ℕ, ◌+◌, ◌-◌, ◌*◌, ◌^◌, ◌<◌, ◌≤◌, ◌≡◌, refl, Bool, true, false, List, [], ◌∷◌, length, get_or, leb, ltb, Some, None}
use Rattle.std.proofs.Common.{sym, ap, ap₂, ◌∙◌, subst, arith, lt_of_lt_of_le, ltb-true, le-leb}
use Rattle.std.proofs.Math.Nat.{pow-le-pow_right}
use Rattle.std.proofs.lemmas.Bool.{lt-leb}
use Rattle.words.specs.Lists.{pick}
use Rattle.forms.specs.Text.{within}
use Rattle.forms.specs.TextLaws.{by_bool, true-false}
use Rattle.forms.specs.Nums.{digit_of, is_digits, more, number, decimal, is_hex, id_number, id_of_digits, digit_byte, decimal_text, id_text, Digits, Lower, Shows}
use Rattle.forms.specs.NumLaws.{within_low, digit-1, digit-2, digit-3, digit-4, byte_low, byte_high, digits_of, hex-in, id-number, number_lt, shows-once, shows-numeral}
use Rattle.spelling.specs.Spelling.{lower, lowered, plain}
use Rattle.spelling.specs.WordLaws.{lower-up, lower-same, lower-digit, lowered-digits, lowered-more, by-lead}

-- ---- one digit

below : (a z c : ℕ) → c < a → within a z c ≡ false
below a z c h = ap (λ (y : Bool). pick y (leb c z) false) (lt-leb a c h)

above : (a z c : ℕ) → z < c → within a z c ≡ false
above a z c h = ap (λ (y : Bool). pick (leb a c) y false) (lt-leb c z h) ∙ any (leb a c)
  where
    any : (b : Bool) → pick b false false ≡ false
    any true = refl
    any false = refl

module _ (c : ℕ) (d : digit_of c < 16) where
  -- what is proved of the three ranges
  by-range : {A : Type 0} → ((48 ≤ c) × (c ≤ 57) → digit_of c ≡ c - 48 → A) → ((97 ≤ c) × (c ≤ 102) → digit_of c ≡ c - 87 → A) → ((65 ≤ c) × (c ≤ 70) → digit_of c ≡ c - 55 → A) → A
  by-range f g h =
      by_bool (within 48 57 c) (λ e. f (within_low 48 57 c e) (digit-1 c e))
      (λ e. by_bool (within 97 102 c) (λ p. g (within_low 97 102 c p) (digit-2 c e p))
      (λ p. by_bool (within 65 70 c) (λ q. h (within_low 65 70 c q) (digit-3 c e p q)) (λ q. absurd (omega (arith, digit-4 c e p q)))))

  lower-byte : lower c ≡ digit_byte (digit_of (lower c))
  lower-byte =
      by-range
      (λ r e. let s = lower-same c (below 65 70 c (omega arith)) in s ∙ sym (ap digit_byte (lower-digit c ∙ e) ∙ byte_low (c - 48) (omega arith) ∙ omega arith))
      (λ r e. let s = lower-same c (above 65 70 c (omega arith)) in s ∙ sym (ap digit_byte (lower-digit c ∙ e) ∙ byte_high (c - 87) (omega arith) ∙ omega arith))
      (λ r e. let s = lower-up c (in-range r.0 r.1) in s ∙ sym (ap digit_byte (lower-digit c ∙ e) ∙ byte_high (c - 55) (omega arith) ∙ omega arith))
    where
      in-range : 65 ≤ c → c ≤ 70 → within 65 70 c ≡ true
      in-range h k = ap₂ (λ (x y : Bool). pick x y false) (le-leb 65 c h) (le-leb c 70 k)

  zero-byte : digit_of c ≡ 0 → c ≡ 48
  zero-byte z = by-range (λ r e. omega arith) (λ r e. absurd (omega arith)) (λ r e. absurd (omega arith))

-- ---- the digits of a word

digits-sixteen : (b : ℕ) (w : List ℕ) → b ≤ 16 → Digits b w → Digits 16 w
unfolding Digits
digits-sixteen b [] h d = tt
digits-sixteen b (c ∷ w) h d = (omega (arith, d.0), digits-sixteen b w h d.1)

lowered-lower : (w : List ℕ) → Digits 16 w → Lower (lowered w)
unfolding Digits Lower lowered
lowered-lower [] d = tt
lowered-lower (c ∷ w) d = (lower-byte c d.0, lowered-lower w d.1)

plain-lower : (w : List ℕ) → Digits 16 w → Lower (plain w)
unfolding Digits Lower plain lowered
plain-lower [] d = tt
plain-lower (c ∷ w) d =
    by-lead (λ x z. Digits 16 x → Lower z) (λ b h. lowered-lower (b ∷ []) h) (λ b x r h. r h.1) (λ b e x n h. lowered-lower (b ∷ (e ∷ x)) h) c w d

plain-digits : (b : ℕ) (w : List ℕ) → is_digits b w ≡ true → is_digits b (plain w) ≡ true
unfolding plain lowered is_digits
plain-digits b [] e = refl
plain-digits b (c ∷ w) e =
    by-lead (λ x z. is_digits b x ≡ true → is_digits b z ≡ true) (λ a h. lowered-digits b (a ∷ []) ∙ h) (λ a x r h. r (tail a x (ltb (digit_of 48) b) h)) (λ a d x n h. lowered-digits b (a ∷ (d ∷ x)) ∙ h) c w e
  where
    tail : (a : ℕ) (x : List ℕ) (t : Bool) → pick t (is_digits b (a ∷ x)) false ≡ true → is_digits b (a ∷ x) ≡ true
    tail a x true h = h
    tail a x false h = true-false h refl

plain_value : (b : ℕ) (w : List ℕ) → number b (plain w) ≡ number b w
unfolding plain lowered more digit_of
plain_value b [] = refl
plain_value b (c ∷ w) =
    by-lead (λ x z. number b z ≡ number b x) (λ a. lowered-more b 0 (a ∷ [])) (λ a x r. r ∙ sym (zero_more a x)) (λ a d x n. lowered-more b 0 (a ∷ (d ∷ x))) c w
  where
    zero_more : (a : ℕ) (x : List ℕ) → number b (48 ∷ (a ∷ x)) ≡ number b (a ∷ x)
    zero_more a x = let z : 0 * b + 0 ≡ 0 = omega arith in ap (λ (n : ℕ). more b n (a ∷ x)) z

plain-lead : (w : List ℕ) → Digits 16 w → 1 < length (plain w) → digit_of (get_or (plain w) 0 0) ≡ 0 → ⊥
unfolding Digits plain lowered
plain-lead [] d h e = absurd (omega arith)
plain-lead (c ∷ w) d h e =
    by-lead (λ x z. Digits 16 x → 1 < length z → digit_of (get_or z 0 0) ≡ 0 → ⊥) (λ b k l f. absurd (omega arith)) (λ b x r k l f. r k.1 l f)
    (λ b a x n k l f. n (zero-byte b k.0 (sym (lower-digit b) ∙ f))) c w d h e

plain-some : (w : List ℕ) → 0 < length w → 0 < length (plain w)
unfolding plain lowered
plain-some [] h = absurd (omega arith)
plain-some (c ∷ w) h = by-lead (λ x z. 0 < length z) (λ b. omega arith) (λ b x r. r) (λ b d x n. omega arith) c w

-- the spelling is the numeral of the number
plain-shows : (b : ℕ) (w : List ℕ) → b ≤ 16 → 0 < length w → is_digits b w ≡ true → Shows b (number b w) (plain w)
plain-shows b w h k e =
    let d = digits-sixteen b w h (digits_of b w e) in
    record { digits = digits_of b (plain w) (plain-digits b w e); lower = plain-lower w d; value = plain_value b w; some = plain-some w k; lead = plain-lead w d }

one-numeral : (b v : ℕ) (t u : List ℕ) → 1 < b → Shows b v t → Shows b v u → t ≡ u
one-numeral b v t u h p q = shows-once b (length t + length u) v t h p (omega arith) ∙ sym (shows-once b (length t + length u) v u h q (omega arith))

-- ---- THEOREMS

pub decimal-in : (limit : ℕ) (s : List ℕ) (v : ℕ) → decimal limit s ≡ Some v → (0 < length s) × (is_digits 10 s ≡ true) × (number 10 s ≡ v)
unfolding decimal
decimal-in limit s v e = go (ltb 0 (length s)) refl (is_digits 10 s) refl (leb (number 10 s) limit) e
  where
    value-is : {m n : ℕ} → Some m ≡ Some n → m ≡ n
    value-is q = cc

    none_is : {A : Type 0} {n : ℕ} → None ≡ Some n → A
    none_is q = absurd (let z : ◌≡◌ {A = ℕ} 0 1 = cc in omega arith)

    go : (t : Bool) → ltb 0 (length s) ≡ t → (u : Bool) → is_digits 10 s ≡ u → (w : Bool) → pick t (pick u (pick w (Some (number 10 s)) None) None) None ≡ Some v → (0 < length s) × (is_digits 10 s ≡ true) × (number 10 s ≡ v)
    go true p true r true q = (ltb-true 0 (length s) p, r, value-is q)
    go true p true r false q = none_is q
    go true p false r w q = none_is q
    go false p u r w q = none_is q

pub plain-number : (limit : ℕ) (w : List ℕ) (v : ℕ) → decimal limit w ≡ Some v → v < 10 ^ 20 → plain w ≡ decimal_text v
plain-number limit w v e h =
    let d = decimal-in limit w v e in
    one-numeral 10 v (plain w) (decimal_text v) (omega arith) (subst (λ (n : ℕ). Shows 10 n (plain w)) d.2 (plain-shows 10 w (omega arith) d.0 d.1)) (shows-numeral 10 20 v (omega arith) (omega arith) (omega arith) h)

pub plain-hex : (w : List ℕ) → is_hex w ≡ true → plain w ≡ id_text (id_number (id_of_digits w))
plain-hex w e =
    let d = hex-in w e in
    let lt : number 16 w < 16 ^ length w = number_lt 16 w (digits_of 16 w d.2) (omega arith) in
    let le : 16 ^ length w ≤ 16 ^ 64 = pow-le-pow_right (omega arith) {i = length w} {j = 64} d.1 in
    one-numeral 16 (number 16 w) (plain w) (id_text (number 16 w)) (omega arith) (plain-shows 16 w (omega arith) d.0 d.2) (shows-numeral 16 64 (number 16 w) (omega arith) (omega arith) (omega arith) (lt_of_lt_of_le lt le))
    ∙ ap id_text (sym (id-number w))
