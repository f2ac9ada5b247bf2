-- Numbers in text. Document 01: "Numbers are decimal unless called hexadecimal"; "number beyond its field" is unreadable; "Ids are padded on the
-- left. Ids are 1 to 64 hexadecimal digits of either case, printed in lower case, leading zeros dropped, 0 for zero."
use Rattle.std.specs.Prelude.{ℕ, zero, suc, ◌+◌, ◌-◌, ◌*◌, ◌/◌, ◌%◌, ◌^◌, ◌<◌, ◌≤◌, ◌≡◌, refl, Bool, true, false, List, [], ◌∷◌, ◌++◌, length, get_or, take, drop, leb, ltb, Option, Some, None}
use Rattle.words.specs.Lists.{pick}
use Rattle.words.specs.declared.ids.Id.{Id}
use Rattle.forms.specs.Text.{within}

-- what a byte stands for as a digit: 0-9, a-f, A-F; 99 for a byte that is none
unfoldable pub digit_of : ℕ → ℕ
digit_of c = pick (within 48 57 c) (c - 48) (pick (within 97 102 c) (c - 87) (pick (within 65 70 c) (c - 55) 99))

-- every byte is a digit of the base
unfoldable pub is_digits : ℕ → List ℕ → Bool
is_digits b [] = true
is_digits b (c ∷ s) = pick (ltb (digit_of c) b) (is_digits b s) false

-- the number n with more digits behind it
unfoldable pub more : ℕ → ℕ → List ℕ → ℕ
more b n [] = n
more b n (c ∷ s) = more b (n * b + digit_of c) s

-- the number that digits spell: zeros in front change nothing
abbrev pub number : ℕ → List ℕ → ℕ
number b s = more b 0 s

-- a decimal number of at most `limit`, which has a digit
unfoldable pub decimal : ℕ → List ℕ → Option ℕ
decimal limit s = pick (ltb 0 (length s)) (pick (is_digits 10 s) (pick (leb (number 10 s) limit) (Some (number 10 s)) None) None) None

-- the number p with one word of 64 bits more behind it, and the number of an id's four words. (`id_of` of crate words, whose body is shut there.)
unfoldable pub joined : ℕ → ℕ → ℕ
joined p w = p * 2 ^ 64 + w

unfoldable pub id_number : Id → ℕ
id_number x = joined (joined (joined x.a x.b) x.c) x.d

-- 1 to 64 hexadecimal digits
unfoldable pub is_hex : List ℕ → Bool
is_hex s = pick (ltb 0 (length s)) (pick (leb (length s) 64) (is_digits 16 s) false) false

-- the digits but the last 16, and the last 16: those of one word
abbrev pub front : List ℕ → List ℕ
front s = take (length s - 16) s

abbrev pub last16 : List ℕ → List ℕ
last16 s = drop (length s - 16) s

-- the id of some digits, "padded on the left": its number is that of the digits (`id-number` of NumLaws)
unfoldable pub id_of_digits : List ℕ → Id
id_of_digits s =
    record {
      a = number 16 (front (front (front s)));
      b = number 16 (last16 (front (front s)));
      c = number 16 (last16 (front s));
      d = number 16 (last16 s);
    }

unfoldable pub id_read : List ℕ → Option Id
id_read s = pick (is_hex s) (Some (id_of_digits s)) None

-- ---- printing

-- the byte of a digit, in lower case
unfoldable pub digit_byte : ℕ → ℕ
digit_byte d = pick (ltb d 10) (48 + d) (87 + d)

-- the digits of v, at most w of them: "in lower case, leading zeros dropped, 0 for zero"
unfoldable pub numeral : ℕ → ℕ → ℕ → List ℕ
numeral b zero v = []
numeral b (suc w) v = pick (ltb v b) (digit_byte v ∷ []) (numeral b w (v / b) ++ (digit_byte (v % b) ∷ []))

-- a number of 64 bits has at most 20 digits, and an id 64
abbrev pub decimal_text : ℕ → List ℕ
decimal_text v = numeral 10 20 v

abbrev pub id_text : ℕ → List ℕ
id_text n = numeral 16 64 n

-- x with t written over it from at on
abbrev pub over : ℕ → List ℕ → List ℕ → List ℕ
over at t x = take at x ++ (t ++ drop (at + length t) x)

-- what a printer of t leaves, and the place past t that it returns
pub record Prints (t : List ℕ) (at : ℕ) (x y : List ℕ) (r : ℕ) : Type 0 where
  pub ends : r ≡ at + length t
  pub wrote : y ≡ over at t x

-- on the edges: "007", 2^32−1 against its own limit and one less, no digit, a byte that is none; an id in upper case; 0; a1
decimal-edges : (decimal 9 (48 ∷ 48 ∷ 55 ∷ []) ≡ Some 7) × (decimal 12 (49 ∷ 50 ∷ []) ≡ Some 12) × (decimal 11 (49 ∷ 50 ∷ []) ≡ None) × (decimal 9 [] ≡ None) × (decimal 99 (49 ∷ 97 ∷ []) ≡ None)
unfolding decimal is_digits more digit_of
decimal-edges = (refl, refl, refl, refl, refl)

id-edges : (id_read (65 ∷ 98 ∷ []) ≡ Some (record { a = 0; b = 0; c = 0; d = 171 })) × (id_text 0 ≡ 48 ∷ []) × (id_text 161 ≡ 97 ∷ 49 ∷ []) × (decimal_text 120 ≡ 49 ∷ 50 ∷ 48 ∷ [])
unfolding id_read is_hex is_digits more digit_of id_of_digits numeral digit_byte
id-edges = (refl, refl, refl, refl)

-- ---- what the functions inside say

-- every byte is a digit of the base
unfoldable pub Digits : ℕ → List ℕ → Type 0
Digits b [] = Unit {0}
Digits b (c ∷ s) = (digit_of c < b) × Digits b s

-- the answer of the reader in any base
unfoldable pub Numeral : ℕ → ℕ → List ℕ → Option ℕ → Type 0
Numeral b limit s (Some v) = Digits b s × (v ≡ number b s) × (v ≤ limit)
Numeral b limit s None = Digits b s → number b s ≤ limit → ⊥

-- one digit more, below a limit
unfoldable pub Stepped : ℕ → ℕ → Option ℕ → Type 0
Stepped limit n (Some v) = (v ≡ n) × (n ≤ limit)
Stepped limit n None = limit < n

-- no digit is in upper case
unfoldable pub Lower : List ℕ → Type 0
Lower [] = Unit {0}
Lower (c ∷ s) = (c ≡ digit_byte (digit_of c)) × Lower s

-- t is the numeral of v: without leading zeros, in lower case. There is only one (`shows-once` of NumLaws)
pub record Shows (b v : ℕ) (t : List ℕ) : Type 0 where
  pub digits : Digits b t
  pub lower : Lower t
  pub value : number b t ≡ v
  pub some : 0 < length t
  pub lead : 1 < length t → digit_of (get_or t 0 0) ≡ 0 → ⊥

pub record Printed (b v width at : ℕ) (x y : List ℕ) (r : ℕ) : Type 0 where
  pub text : List ℕ
  pub shows : Shows b v text
  pub fits : length text ≤ width
  pub ends : r ≡ at + length text
  pub wrote : y ≡ over at text x

-- the number of the first i words
unfoldable pub upto : List ℕ → ℕ → ℕ
upto w zero = 0
upto w (suc i) = joined (upto w i) (get_or w i 0)

-- exactly width digits
pub record Pads (b v width : ℕ) (t : List ℕ) : Type 0 where
  pub digits : Digits b t
  pub lower : Lower t
  pub value : number b t ≡ v
  pub long : length t ≡ width

pub record Padded (b v width at : ℕ) (x y : List ℕ) (r : ℕ) : Type 0 where
  pub text : List ℕ
  pub pads : Pads b v width text
  pub ends : r ≡ at + length text
  pub wrote : y ≡ over at text x

-- the numeral of v, where 0 is nothing yet
pub record Sofar (v : ℕ) (t : List ℕ) : Type 0 where
  pub digits : Digits 16 t
  pub lower : Lower t
  pub value : number 16 t ≡ v
  pub lead : 0 < length t → digit_of (get_or t 0 0) ≡ 0 → ⊥

-- one word more behind what was printed
pub record Words16 (started : Bool) (w at : ℕ) (x y : List ℕ) (r : ℕ) : Type 0 where
  pub text : List ℕ
  pub fits : length text ≤ 16
  pub ends : r ≡ at + length text
  pub wrote : y ≡ over at text x
  pub padded : started ≡ true → Pads 16 w 16 text
  pub fresh : started ≡ false → Sofar w text

-- x with the first i words printed from at on
pub record Walked (w : List ℕ) (i at : ℕ) (x y : List ℕ) (k : ℕ) : Type 0 where
  pub text : List ℕ
  pub sofar : Sofar (upto w i) text
  pub fits : length text ≤ 16 * i
  pub ends : k ≡ at + length text
  pub wrote : y ≡ over at text x
