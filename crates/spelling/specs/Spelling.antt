-- The single spelling of a form. Document 02: "one space between members and no other, decimal and lower-case hexadecimal without leading zeros, 0 for
-- zero."
use Rattle.std.specs.Prelude.{ℕ, ◌+◌, ◌≡◌, refl, Bool, true, false, List, [], ◌∷◌, ◌++◌, eqb}
use Rattle.words.specs.Lists.{pick}
use Rattle.forms.specs.Text.{Members, none, word, sub, within, is_word}

-- ---- a word: "lower-case", "without leading zeros, 0 for zero". A keyword has neither an upper-case letter nor a zero, and stays as it is

unfoldable pub lower : ℕ → ℕ
lower c = pick (within 65 70 c) (c + 32) c

unfoldable pub lowered : List ℕ → List ℕ
lowered [] = []
lowered (c ∷ w) = lower c ∷ lowered w

-- a zero is dropped where a byte follows it
unfoldable pub plain : List ℕ → List ℕ
plain [] = []
plain (c ∷ []) = lower c ∷ []
plain (c ∷ (a ∷ w)) = pick (eqb c 48) (plain (a ∷ w)) (lowered (c ∷ (a ∷ w)))

-- every word of a form so
unfoldable pub tidied : Members → Members
tidied none = none
tidied (word w m) = word (plain w) (tidied m)
tidied (sub i m) = sub (tidied i) (tidied m)

-- ---- the members and the closing bracket, "one space between members and no other": none behind an opening bracket (g)

unfoldable pub gap : Bool → List ℕ
gap true = []
gap false = 32 ∷ []

unfoldable pub text : Bool → Members → List ℕ
text g none = 41 ∷ []
text g (word w m) = gap g ++ (w ++ text false m)
text g (sub i m) = gap g ++ (40 ∷ (text true i ++ text false m))

-- THE SPECIFICATION: the single spelling of a form that has the members m
unfoldable pub spelled : Members → List ℕ
spelled m = 40 ∷ text true (tidied m)

-- on the edges: `00` is `0`, `00A1` is `a1`, `tx` stays, `0` stays, `010` is `10`; `( 0A  ( ) )` is `(a ())`
word-edges : (plain (48 ∷ 48 ∷ []) ≡ 48 ∷ []) × (plain (48 ∷ 48 ∷ 65 ∷ 49 ∷ []) ≡ 97 ∷ 49 ∷ []) × (plain (116 ∷ 120 ∷ []) ≡ 116 ∷ 120 ∷ [])
    × (plain (48 ∷ []) ≡ 48 ∷ []) × (plain (48 ∷ 49 ∷ 48 ∷ []) ≡ 49 ∷ 48 ∷ [])
unfolding plain lowered lower
word-edges = (refl, refl, refl, refl, refl)

spelled-edge : spelled (word (48 ∷ 65 ∷ []) (sub none none)) ≡ 40 ∷ 97 ∷ 32 ∷ 40 ∷ 41 ∷ 41 ∷ []
unfolding spelled text gap tidied plain lowered lower
spelled-edge = refl

-- `(contains 00 00A1)` is `(contains 0 a1)`, and `(block 00 ((0F ( )) (00 (1   2))))` is `(block 0 ((f ()) (0 (1 2))))`
spelled-contains : spelled (word (99 ∷ 111 ∷ 110 ∷ 116 ∷ 97 ∷ 105 ∷ 110 ∷ 115 ∷ []) (word (48 ∷ 48 ∷ []) (word (48 ∷ 48 ∷ 65 ∷ 49 ∷ []) none))) ≡ 40 ∷ 99 ∷ 111 ∷ 110 ∷ 116 ∷ 97 ∷ 105 ∷ 110 ∷ 115 ∷ 32 ∷ 48 ∷ 32 ∷ 97 ∷ 49 ∷ 41 ∷ []
unfolding spelled text gap tidied plain lowered lower
spelled-contains = refl

spelled-block : spelled (word (98 ∷ 108 ∷ 111 ∷ 99 ∷ 107 ∷ []) (word (48 ∷ 48 ∷ []) (sub (sub (word (48 ∷ 70 ∷ []) (sub none none)) (sub (word (48 ∷ 48 ∷ []) (sub (word (49 ∷ []) (word (50 ∷ []) none)) none)) none)) none)))
    ≡ 40 ∷ 98 ∷ 108 ∷ 111 ∷ 99 ∷ 107 ∷ 32 ∷ 48 ∷ 32 ∷ 40 ∷ 40 ∷ 102 ∷ 32 ∷ 40 ∷ 41 ∷ 41 ∷ 32 ∷ 40 ∷ 48 ∷ 32 ∷ 40 ∷ 49 ∷ 32 ∷ 50 ∷ 41 ∷ 41 ∷ 41 ∷ 41 ∷ []
unfolding spelled text gap tidied plain lowered lower
spelled-block = refl

-- ---- the same from the bytes of a line, one after the other: what the program does

-- a byte of a word stands next
unfoldable pub goes : List ℕ → Bool
goes [] = false
goes (c ∷ s) = is_word c

-- a zero in front of a word; t: a byte of a member stands right before it
unfoldable pub leads : Bool → ℕ → List ℕ → Bool
leads t c s = pick t false (pick (eqb c 48) (goes s) false)

-- the byte c, behind the space that is owed (o) to every byte but a closing bracket
unfoldable pub owes : Bool → ℕ → Bool
owes o c = pick o (pick (eqb c 41) false true) false

unfoldable pub put : Bool → ℕ → List ℕ
put o c = pick (owes o c) (32 ∷ lower c ∷ []) (lower c ∷ [])

-- behind an opening bracket no member stands
unfoldable pub joins : ℕ → Bool
joins c = pick (eqb c 40) false true

-- spaces are dropped, and one is owed behind a member
unfoldable pub squeezed : Bool → Bool → List ℕ → List ℕ
squeezed t o [] = []
squeezed t o (c ∷ s) = pick (eqb c 32) (squeezed false (pick t true o) s) (pick (leads t c s) (squeezed t o s) (put o c ++ squeezed (joins c) false s))

squeezed-edge : squeezed false false (32 ∷ 40 ∷ 32 ∷ 48 ∷ 65 ∷ 32 ∷ 32 ∷ 40 ∷ 32 ∷ 41 ∷ 32 ∷ 41 ∷ 32 ∷ []) ≡ 40 ∷ 97 ∷ 32 ∷ 40 ∷ 41 ∷ 41 ∷ []
unfolding squeezed leads goes is_word put owes joins lower
squeezed-edge = refl
