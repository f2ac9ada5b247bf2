-- The fields of a form, read one behind the other from what is left of its members: a number of a width, an id, one of two words, a number or a
-- word in its place, a verdict. Once a member is not what the form wants, nothing is left (`gone`), and every field behind it finds nothing.
use Rattle.std.specs.Prelude.{ℕ, ◌≡◌, refl, Bool, true, false, List, [], ◌∷◌, eqb, Option, Some, None}
use Rattle.words.specs.Lists.{pick}
use Rattle.words.specs.Sums.{cap}
use Rattle.words.specs.declared.ids.Id.{Id}
use Rattle.forms.specs.Text.{Members, none, word, sub, Reads, Behind}
use Rattle.forms.specs.Nums.{decimal, id_read, is_digits, more, digit_of}
use Rattle.pool_types.specs.declared.Verdict.{Verdict}
use Rattle.pool_types.specs.declared.Verdict.TheVariants.{Valid, Invalid, Absent}

-- what is left of a list's members
pub data Rest : Type 0 where
  gone : Rest
  here : Members → Rest

-- the word that stands next, and what is left behind it. A word is never empty
unfoldable pub word_of : Rest → List ℕ
word_of gone = []
word_of (here none) = []
word_of (here (word w n)) = w
word_of (here (sub i n)) = []

unfoldable pub past_word : Rest → Rest
past_word gone = gone
past_word (here none) = gone
past_word (here (word w n)) = here n
past_word (here (sub i n)) = gone

-- the members of the list that stands next, and what is left behind it
unfoldable pub list_of : Rest → Rest
list_of gone = gone
list_of (here none) = gone
list_of (here (word w n)) = gone
list_of (here (sub i n)) = here i

unfoldable pub past_list : Rest → Rest
past_list gone = gone
past_list (here none) = gone
past_list (here (word w n)) = gone
past_list (here (sub i n)) = here n

-- all members were read
unfoldable pub ended : Rest → Bool
ended gone = false
ended (here none) = true
ended (here (word w n)) = false
ended (here (sub i n)) = false

-- ---- a member that is one word: what its spelling stands for, and whether it may stand there

pub record Kind (A : Type 0) : Type 0 where
  pub of : List ℕ → A
  pub ok : List ℕ → Bool

module _ {A : Type 0} where
  unfoldable pub value : Kind A → Rest → A
  value k s = k.of (word_of s)

  unfoldable pub past : Kind A → Rest → Rest
  past k s = pick (k.ok (word_of s)) (past_word s) gone

abbrev pub value_or0 : Option ℕ → ℕ
value_or0 (Some v) = v
value_or0 None = 0

abbrev pub is_value : Option ℕ → Bool
is_value (Some v) = true
is_value None = false

-- a decimal number of at most `limit`
unfoldable pub numbers : ℕ → Kind ℕ
numbers limit = record { of = λ w. value_or0 (decimal limit w); ok = λ w. is_value (decimal limit w) }

-- of 64 and of 32 bits
abbrev pub number64 : Kind ℕ
number64 = numbers cap

abbrev pub number32 : Kind ℕ
number32 = numbers 4294967295

abbrev pub id_or0 : Option Id → Id
id_or0 (Some x) = x
id_or0 None = record { a = 0; b = 0; c = 0; d = 0 }

abbrev pub is_of : Option Id → Bool
is_of (Some x) = true
is_of None = false

unfoldable pub ids : Kind Id
ids = record { of = λ w. id_or0 (id_read w); ok = λ w. is_of (id_read w) }

-- the same bytes
unfoldable pub same : List ℕ → List ℕ → Bool
same [] [] = true
same [] (b ∷ t) = false
same (a ∷ s) [] = false
same (a ∷ s) (b ∷ t) = pick (eqb a b) (same s t) false

-- one of two words, the first for a and the second for b
unfoldable pub either : {A : Type 0} → List ℕ → A → List ℕ → A → Kind A
either y a n b = record { of = λ w. pick (same w y) a b; ok = λ w. pick (same w y) true (same w n) }

-- 1 for the first, 0 for the second
abbrev pub choices : List ℕ → List ℕ → Kind ℕ
choices y n = either y 1 n 0

-- a number, or a word in its place ("PEER is a number or `local`", "MEASURED a number or `none`")
unfoldable pub optional : List ℕ → Kind (Option ℕ)
optional v = record { of = λ w. pick (same w v) None (Some (value_or0 (decimal cap w))); ok = λ w. pick (same w v) true (is_value (decimal cap w)) }

-- ---- a verdict: `(ok COST)`, `(bad)` or `(none)`

abbrev pub w_ok : List ℕ
w_ok = 111 ∷ 107 ∷ []

abbrev pub w_bad : List ℕ
w_bad = 98 ∷ 97 ∷ 100 ∷ []

abbrev pub w_none : List ℕ
w_none = 110 ∷ 111 ∷ 110 ∷ 101 ∷ []

-- what the members inside its brackets say, and whether they are a verdict's
unfoldable pub judged : Rest → Verdict
judged i = pick (same (word_of i) w_ok) (Valid (value number64 (past_word i))) (pick (same (word_of i) w_bad) Invalid Absent)

unfoldable pub is_judged : Rest → Bool
is_judged i = pick (same (word_of i) w_ok) (ended (past number64 (past_word i))) (pick (same (word_of i) w_bad) (ended (past_word i)) (pick (same (word_of i) w_none) (ended (past_word i)) false))

unfoldable pub past_verdict : Rest → Rest
past_verdict s = pick (is_judged (list_of s)) (past_list s) gone

-- ---- what a reader of a field says, for whatever members stand there

-- s is what is left of a line where, of a list at the depth d that ends before t, the members z are left
unfoldable pub Stands : List ℕ → ℕ → List ℕ → Bool → Rest → Type 0
Stands s d t g gone = ⊥
Stands s d t g (here m) = Reads d g s m t

-- the field's value, and what is left behind it
pub record FieldAt {A : Type 0} (k : Kind A) (s : List ℕ) (g : Bool) (v : A) (r : List ℕ) : Type 0 where
  pub behind : Behind s r
  pub is : (d : ℕ) (t : List ℕ) (z : Rest) → Stands s d t g z → (v ≡ value k z) × Stands r d t false (past k z)

-- the member that stands next is no such field
unfoldable pub NoField : {A : Type 0} → Kind A → List ℕ → Bool → Type 0
NoField k s g = (d : ℕ) (t : List ℕ) (z : Rest) → Stands s d t g z → past k z ≡ gone

-- what was read, where the list ends behind it
unfoldable pub IfEnds : {A : Type 0} → List ℕ → A → Option A → Type 0
IfEnds s v r = (d : ℕ) (t : List ℕ) (z : Rest) → Stands s d t false z → r ≡ pick (ended z) (Some v) None

unfoldable pub JudgeAt : List ℕ → Verdict → Type 0
JudgeAt s v = (d : ℕ) (t : List ℕ) (i : Rest) → Stands s d t true i → (v ≡ judged i) × (is_judged i ≡ true)

unfoldable pub NoJudge : List ℕ → Type 0
NoJudge s = (d : ℕ) (t : List ℕ) (i : Rest) → Stands s d t true i → is_judged i ≡ false

pub record VerdictAt (s : List ℕ) (d : ℕ) (v : Verdict) (r : List ℕ) : Type 0 where
  pub behind : Behind s r
  pub is : (t : List ℕ) (z : Rest) → Stands s d t false z → (v ≡ judged (list_of z)) × Stands r d t false (past_verdict z)

unfoldable pub NoVerdict : List ℕ → ℕ → Type 0
NoVerdict s d = (t : List ℕ) (z : Rest) → Stands s d t false z → past_verdict z ≡ gone

-- on the edges: `local` is no number; "08" is 8, and 9 is beyond 8; a list is no number
field-edges : (value (optional (97 ∷ [])) (here (word (97 ∷ []) none)) ≡ None) × (value (optional (97 ∷ [])) (here (word (48 ∷ 56 ∷ []) none)) ≡ Some 8) × (past (numbers 8) (here (word (57 ∷ []) none)) ≡ gone) × (past (numbers 9) (here (sub none none)) ≡ gone)
unfolding value past numbers optional word_of past_word same decimal is_digits more digit_of
field-edges = (refl, refl, refl, refl)
