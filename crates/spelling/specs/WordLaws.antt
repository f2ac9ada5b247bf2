-- Laws of a word's spelling: it is a word again, spelling it twice is spelling it once, and it is read as the same number, id or keyword.
use Rattle.std.specs.Prelude.{ℕ, suc, ◌+◌, ◌*◌, ◌<◌, ◌≤◌, ◌≡◌, refl, Bool, true, false, List, [], ◌∷◌, length, eqb, leb, ltb, Some, None}
use Rattle.std.proofs.Common.{sym, ap₂, ◌∙◌, subst, arith, eqb-true, ne_eqb, le-leb, lt-ltb}
use Rattle.std.proofs.Math.Path.{ap}
use Rattle.std.proofs.lemmas.Bool.{eqb-false, lt-leb}
use Rattle.words.specs.Lists.{pick}
use Rattle.forms.specs.Text.{within, is_word, All, IsWord}
use Rattle.forms.specs.TextLaws.{by_bool, word-low}
use Rattle.forms.specs.Nums.{digit_of, is_digits, more, decimal, is_hex, id_read}
use Rattle.forms.specs.NumLaws.{within_low, digit-2, digit-3, decimal-zero, id-spelling, id-zero, hex-in}
use Rattle.spelling.specs.Spelling.{lower, lowered, plain}

-- ---- one byte

module _ (c : ℕ) where
  pub lower-up : within 65 70 c ≡ true → lower c ≡ c + 32
  unfolding lower
  lower-up e = ap (λ (b : Bool). pick b (c + 32) c) e

  pub lower-same : within 65 70 c ≡ false → lower c ≡ c
  unfolding lower
  lower-same e = ap (λ (b : Bool). pick b (c + 32) c) e

pub lower-high : (c : ℕ) → 65 ≤ c → c ≤ 70 → c + 32 ≡ lower c
lower-high c p q = sym (lower-up c (ap₂ (λ (x y : Bool). pick x y false) (le-leb 65 c p) (le-leb c 70 q)))

-- what is proved of a byte in upper case and of any other
pub by-case : {A : Type 0} (c : ℕ) → ((65 ≤ c) × (c ≤ 70) → lower c ≡ c + 32 → A) → (within 65 70 c ≡ false → lower c ≡ c → A) → A
by-case c f g = by_bool (within 65 70 c) (λ e. f (within_low 65 70 c e) (lower-up c e)) (λ e. g e (lower-same c e))

pub lower-other : (c : ℕ) → (65 ≤ c → c ≤ 70 → ⊥) → c ≡ lower c
lower-other c n = by-case c (λ r e. absurd (n r.0 r.1)) (λ r e. sym e)

in-range : (a z c : ℕ) → a ≤ c → c ≤ z → within a z c ≡ true
in-range a z c h k = ap₂ (λ (x y : Bool). pick x y false) (le-leb a c h) (le-leb c z k)

above : (a z c : ℕ) → z < c → within a z c ≡ false
above a z c h = ap (λ (y : Bool). pick (leb a c) y false) (lt-leb c z h) ∙ any (leb a c)
  where
    any : (b : Bool) → pick b false false ≡ false
    any true = refl
    any false = refl

pub lower_word : (c : ℕ) → is_word c ≡ true → is_word (lower c) ≡ true
lower_word c e =
    by-case c
    (λ h q. subst (λ (n : ℕ). is_word n ≡ true) (sym q) (sym (word-low (c + 32) (omega arith) (omega arith))))
    (λ h q. subst (λ (n : ℕ). is_word n ≡ true) (sym q) e)

pub lower-twice : (c : ℕ) → lower (lower c) ≡ lower c
lower-twice c =
    by-case c
    (λ h q. ap lower q ∙ lower-same (c + 32) (above 65 70 (c + 32) (omega arith)) ∙ sym q)
    (λ h q. ap lower q)

lower-zero : (c : ℕ) → (c ≡ 48 → ⊥) → lower c ≡ 48 → ⊥
lower-zero c n e = by-case c (λ h q. absurd (omega arith)) (λ h q. n (sym q ∙ e))

pub lower-digit : (c : ℕ) → digit_of (lower c) ≡ digit_of c
lower-digit c =
    by-case c
    (λ h q. ap digit_of q ∙ digit-2 (c + 32) (above 48 57 (c + 32) (omega arith)) (in-range 97 102 (c + 32) (omega arith) (omega arith)) ∙ omega arith
    ∙ sym (digit-3 c (above 48 57 c (omega arith)) (below 97 102 c (omega arith)) (in-range 65 70 c (omega arith) (omega arith))))
    (λ h q. ap digit_of q)
  where
    below : (a z c : ℕ) → c < a → within a z c ≡ false
    below a z c h = ap (λ (y : Bool). pick y (leb c z) false) (lt-leb a c h)

-- ---- the case of a word

pub lowered-twice : (w : List ℕ) → lowered (lowered w) ≡ lowered w
unfolding lowered
lowered-twice [] = refl
lowered-twice (c ∷ w) = ap₂ ◌∷◌ (lower-twice c) (lowered-twice w)

lowered-all : (w : List ℕ) → All is_word w → All is_word (lowered w)
unfolding lowered All
lowered-all [] a = tt
lowered-all (c ∷ w) a = (lower_word c a.0, lowered-all w a.1)

pub lowered-length : (w : List ℕ) → length (lowered w) ≡ length w
unfolding lowered
lowered-length [] = refl
lowered-length (c ∷ w) = ap suc (lowered-length w)

pub lowered-digits : (b : ℕ) (w : List ℕ) → is_digits b (lowered w) ≡ is_digits b w
unfolding lowered is_digits
lowered-digits b [] = refl
lowered-digits b (c ∷ w) = ap₂ (λ (n : ℕ) (t : Bool). pick (ltb n b) t false) (lower-digit c) (lowered-digits b w)

pub lowered-more : (b n : ℕ) (w : List ℕ) → more b n (lowered w) ≡ more b n w
unfolding lowered more
lowered-more b n [] = refl
lowered-more b n (c ∷ w) = ap (λ (k : ℕ). more b (n * b + k) (lowered w)) (lower-digit c) ∙ lowered-more b (n * b + digit_of c) w

lowered-decimal : (limit : ℕ) (w : List ℕ) → decimal limit (lowered w) ≡ decimal limit w
unfolding decimal
lowered-decimal limit w =
    λ i. pick (ltb 0 (lowered-length w i)) (pick (lowered-digits 10 w i) (pick (leb (lowered-more 10 0 w i) limit) (Some (lowered-more 10 0 w i)) None) None) None

lowered-hex : (w : List ℕ) → is_hex (lowered w) ≡ is_hex w
unfolding is_hex
lowered-hex w = λ i. pick (ltb 0 (lowered-length w i)) (pick (leb (lowered-length w i) 64) (lowered-digits 16 w i) false) false

-- ---- the zeros of a word

-- what is proved of one byte, of a word whose leading zero is dropped, and of any other word
pub by-lead : (P : List ℕ → List ℕ → Type 0) → ((c : ℕ) → P (c ∷ []) (lower c ∷ [])) → ((a : ℕ) (w : List ℕ) → P (a ∷ w) (plain (a ∷ w)) → P (48 ∷ (a ∷ w)) (plain (a ∷ w)))
    → ((c a : ℕ) (w : List ℕ) → (c ≡ 48 → ⊥) → P (c ∷ (a ∷ w)) (lowered (c ∷ (a ∷ w)))) → (c : ℕ) (w : List ℕ) → P (c ∷ w) (plain (c ∷ w))
unfolding plain
by-lead P one lead other c [] = one c
by-lead P one lead other c (a ∷ w) =
    let r = by-lead P one lead other a w in
    by_bool (eqb c 48)
    (λ e. subst (λ (z : List ℕ). P (c ∷ (a ∷ w)) z) (sym (ap (λ (b : Bool). pick b (plain (a ∷ w)) (lowered (c ∷ (a ∷ w)))) e)) (subst (λ (n : ℕ). P (n ∷ (a ∷ w)) (plain (a ∷ w))) (sym (eqb-true c 48 e)) (lead a w r)))
    (λ e. subst (λ (z : List ℕ). P (c ∷ (a ∷ w)) z) (sym (ap (λ (b : Bool). pick b (plain (a ∷ w)) (lowered (c ∷ (a ∷ w)))) e)) (other c a w (eqb-false c 48 e)))

pub plain_word : (w : List ℕ) → IsWord w → IsWord (plain w)
unfolding All lowered
plain_word [] h = absurd (omega arith)
plain_word (c ∷ w) h =
    by-lead (λ x z. All is_word x → IsWord z) (λ b a. (omega arith, (lower_word b a.0, tt))) (λ b x r a. r a.1) (λ b d x n a. (omega arith, lowered-all (b ∷ (d ∷ x)) a)) c w h.1

-- THEOREM: twice is once
pub plain-twice : (w : List ℕ) → plain (plain w) ≡ plain w
unfolding plain lowered
plain-twice [] = refl
plain-twice (c ∷ w) =
    by-lead (λ x z. plain z ≡ z) (λ b. ap (λ (n : ℕ). n ∷ []) (lower-twice b)) (λ b x r. r)
    (λ b d x n. ap (λ (t : Bool). pick t (plain (lower d ∷ lowered x)) (lowered (lower b ∷ (lower d ∷ lowered x)))) (ne_eqb (lower b) 48 (lower-zero b n)) ∙ lowered-twice (b ∷ (d ∷ x))) c w

pub plain-length : (w : List ℕ) → length (plain w) ≤ length w
unfolding plain lowered
plain-length [] = omega arith
plain-length (c ∷ w) =
    by-lead (λ x z. length z ≤ length x) (λ b. omega arith) (λ b x r. omega arith) (λ b d x n. omega (arith, lowered-length (b ∷ (d ∷ x)))) c w

-- THEOREM: the same number
pub plain-decimal : (limit : ℕ) (w : List ℕ) → decimal limit (plain w) ≡ decimal limit w
unfolding plain lowered
plain-decimal limit [] = refl
plain-decimal limit (c ∷ w) =
    by-lead (λ x z. decimal limit z ≡ decimal limit x) (λ b. lowered-decimal limit (b ∷ [])) (λ b x r. r ∙ sym (decimal-zero limit (b ∷ x) (omega arith))) (λ b d x n. lowered-decimal limit (b ∷ (d ∷ x))) c w

hex-of : (s : List ℕ) → 0 < length s → length s ≤ 64 → is_digits 16 s ≡ true → is_hex s ≡ true
unfolding is_hex
hex-of s h k d = ap₂ (λ (t u : Bool). pick t (pick u (is_digits 16 s) false) false) (lt-ltb 0 (length s) h) (le-leb (length s) 64 k) ∙ d

hex-tail : (b : ℕ) (x : List ℕ) → is_hex (48 ∷ (b ∷ x)) ≡ true → is_hex (b ∷ x) ≡ true
unfolding is_digits digit_of
hex-tail b x e = let h = hex-in (48 ∷ (b ∷ x)) e in hex-of (b ∷ x) (omega arith) (omega (arith, h.1)) h.2

-- THEOREM: the same id
pub plain-id : (w : List ℕ) → is_hex w ≡ true → (is_hex (plain w) ≡ true) × (id_read (plain w) ≡ id_read w)
unfolding plain lowered
plain-id [] e = (e, refl)
plain-id (c ∷ w) e =
    by-lead (λ x z. is_hex x ≡ true → (is_hex z ≡ true) × (id_read z ≡ id_read x)) (λ b h. low (b ∷ []) h)
    (λ b x r h. let t = hex-tail b x h in
    let q = r t in (q.0, q.1 ∙ sym (id-zero (b ∷ x) t (omega (arith, (hex-in (48 ∷ (b ∷ x)) h).1)))))
    (λ b d x n h. low (b ∷ (d ∷ x)) h) c w e
  where
    low : (x : List ℕ) → is_hex x ≡ true → (is_hex (lowered x) ≡ true) × (id_read (lowered x) ≡ id_read x)
    low x h = let k = lowered-hex x ∙ h in (k, id-spelling (lowered x) x k h (lowered-more 16 0 x))
