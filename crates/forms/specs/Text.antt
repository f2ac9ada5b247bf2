-- Readable lines. Document 01: "one bracket form a line (at most 4,096 bytes; a list holds words and further lists, at most 8 deep, the form itself
-- counted)"; "Members are parted by at least one space; more may stand outside words." What a line says, its members, stands apart from its spelling.
use Rattle.std.specs.Prelude.{ℕ, suc, ◌-◌, ◌<◌, ◌≤◌, ◌≡◌, refl, Bool, true, false, List, [], ◌∷◌, ◌++◌, length, replicate, take, drop, leb, eqb, Option, Some, None}
use Rattle.words.specs.Lists.{pick}
use Rattle.forms.specs.declared.text.Member.{Member}
use Rattle.forms.specs.declared.text.Member.TheVariants.{Word, Open, Close}
use Rattle.std.proofs.Common.{arith}

-- what a list says: its members, words and further lists, whatever spaces part them
pub data Members : Type 0 where
  none : Members
  word : List ℕ → Members → Members
  sub : Members → Members → Members

-- from a to z
abbrev pub within : ℕ → ℕ → ℕ → Bool
within a z c = pick (leb a c) (leb c z) false

-- a byte of a word: 0-9, a-z, A-F, which is all that the words, numbers and ids of the forms consist of. A tab, a carriage return, NUL and bytes
-- above 127 are no such bytes and no spaces, so that a line with one is unreadable.
unfoldable pub is_word : ℕ → Bool
is_word c = pick (within 48 57 c) true (pick (within 97 122 c) true (within 65 70 c))

abbrev pub is_space : ℕ → Bool
is_space c = eqb c 32

unfoldable pub All : (ℕ → Bool) → List ℕ → Type 0
All p [] = Unit {0}
All p (x ∷ s) = (p x ≡ true) × All p s

-- s does not begin with a p
unfoldable pub Stops : (ℕ → Bool) → List ℕ → Type 0
Stops p [] = Unit {0}
Stops p (x ∷ s) = p x ≡ false

abbrev pub IsWord : List ℕ → Type 0
IsWord w = (0 < length w) × All is_word w

abbrev pub spaces : ℕ → List ℕ
spaces k = replicate k 32

-- k spaces part a member from what stands before it. Behind an opening bracket (g) none is needed
unfoldable pub Gap : Bool → ℕ → Type 0
Gap true k = Unit {0}
Gap false k = 0 < k

-- s spells the members m and the closing bracket behind them, with at most d lists inside one another
unfoldable pub Spells : ℕ → Bool → Members → List ℕ → Type 0
Spells d g none s = (k : ℕ) × (s ≡ spaces k ++ (41 ∷ []))
Spells d g (word w m) s = (k : ℕ) × (u : List ℕ) × (s ≡ spaces k ++ (w ++ u)) × Gap g k × IsWord w × Spells d false m u
Spells d g (sub i m) s =
    (k : ℕ) × (e : ℕ) × (v : List ℕ) × (u : List ℕ) × (s ≡ spaces k ++ (40 ∷ (v ++ u))) × Gap g k × (d ≡ suc e) × Spells e true i v × Spells d false m u

-- THE SPECIFICATION. The line s spells a form of the members m: at most 4096 bytes, at most 8 deep, spaces before and behind
unfoldable pub Line : Members → List ℕ → Type 0
Line m s = (a : ℕ) × (b : ℕ) × (v : List ℕ) × (s ≡ spaces a ++ (40 ∷ (v ++ spaces b))) × (length s ≤ 4096) × Spells 7 true m v

-- the same with what follows: s spells m, and t is left
unfoldable pub Reads : ℕ → Bool → List ℕ → Members → List ℕ → Type 0
Reads d g s none t = (k : ℕ) × (s ≡ spaces k ++ (41 ∷ t))
Reads d g s (word w m) t = (k : ℕ) × (u : List ℕ) × (s ≡ spaces k ++ (w ++ u)) × Gap g k × IsWord w × Reads d false u m t
Reads d g s (sub i m) t =
    (k : ℕ) × (e : ℕ) × (v : List ℕ) × (u : List ℕ) × (s ≡ spaces k ++ (40 ∷ v)) × Gap g k × (d ≡ suc e) × Reads e true v i u × Reads d false u m t

-- how many of p stand at the front
unfoldable pub run : (ℕ → Bool) → List ℕ → ℕ
run p [] = 0
run p (x ∷ s) = pick (p x) (suc (run p s)) 0

-- from a up to e
abbrev pub part : ℕ → ℕ → List ℕ → List ℕ
part a e l = take (e - a) (drop a l)

-- ---- what the reader finds at a place, of which s is left: for later readers, which take a list apart member by member

-- behind the closing bracket t is left
abbrev pub NextClose : List ℕ → List ℕ → Type 0
NextClose s t = (k : ℕ) × (s ≡ spaces k ++ (41 ∷ t))

-- f is what is left from an opening bracket on, and v behind it
abbrev pub NextList : List ℕ → Bool → List ℕ → List ℕ → Type 0
NextList s g f v = (k : ℕ) × (s ≡ spaces k ++ f) × (f ≡ 40 ∷ v) × Gap g k

-- behind the word w, which is whole, t is left
abbrev pub NextWord : List ℕ → Bool → List ℕ → List ℕ → Type 0
NextWord s g w t = (k : ℕ) × (s ≡ spaces k ++ (w ++ t)) × Gap g k × IsWord w × Stops is_word t

-- no members can be read
abbrev pub NextNone : List ℕ → Bool → Type 0
NextNone s g = (d : ℕ) (m : Members) (t : List ℕ) → Reads d g s m t → ⊥

unfoldable pub Next : List ℕ → Bool → Option Member → Type 0
Next s g (Some (Close t)) = NextClose s t.now
Next s g (Some (Open f v)) = NextList s g f.now v.now
Next s g (Some (Word w t)) = NextWord s g w.now t.now
Next s g None = NextNone s g

-- some members can be read from s on, and t is left
abbrev pub SomeMembers : ℕ → Bool → List ℕ → List ℕ → Type 0
SomeMembers d g s t = (m : Members) × Reads d g s m t

-- a form: an opening bracket, and the members one level down
unfoldable pub SomeForm : ℕ → List ℕ → List ℕ → Type 0
SomeForm d s t = (e : ℕ) × (v : List ℕ) × (d ≡ suc e) × (s ≡ 40 ∷ v) × SomeMembers e true v t

abbrev pub NoMembers : ℕ → Bool → List ℕ → Type 0
NoMembers d g s = (t : List ℕ) → SomeMembers d g s t → ⊥

abbrev pub NoForm : ℕ → List ℕ → Type 0
NoForm d s = (t : List ℕ) → SomeForm d s t → ⊥

-- r is what is left of s behind one byte or more
abbrev pub Behind : List ℕ → List ℕ → Type 0
Behind s r = (p : List ℕ) × (s ≡ p ++ r) × (0 < length p)

-- the answer of the line's reader, both ways: what is left where the members of the line's form are read on, or no form at all
unfoldable pub Opened : List ℕ → List ℕ → Type 0
Opened s a = (m : Members) × (t : List ℕ) × Line m s × Reads 7 true a m t × Behind s a

abbrev pub NoLine : List ℕ → Type 0
NoLine s = (m : Members) → Line m s → ⊥

-- ---- what a reader of one kind of form goes by: for whatever members stand here

-- the word w stands next, and r is left
unfoldable pub WordHere : List ℕ → Bool → List ℕ → List ℕ → Type 0
WordHere s g w r =
    NextWord s g w r × ((d : ℕ) (m : Members) (t : List ℕ) → Reads d g s m t → (n : Members) × (m ≡ word w n) × Reads d false r n t)

unfoldable pub NoWord : List ℕ → Bool → Type 0
NoWord s g = (d : ℕ) (m : Members) (t : List ℕ) → Reads d g s m t → (w : List ℕ) (n : Members) → m ≡ word w n → ⊥

-- at the depth d a list stands next: v is left behind its opening bracket, and r behind the list
unfoldable pub ListHere : List ℕ → Bool → ℕ → List ℕ → List ℕ → Type 0
ListHere s g d v r =
    (k : ℕ) × (s ≡ spaces k ++ (40 ∷ v)) × Behind v r
    × ((m : Members) (t : List ℕ) → Reads d g s m t → (i : Members) × (n : Members) × (h : ℕ) × (m ≡ sub i n) × (d ≡ suc h) × Reads h true v i r × Reads d false r n t)

unfoldable pub NoList : List ℕ → Bool → ℕ → Type 0
NoList s g d = (m : Members) (t : List ℕ) → Reads d g s m t → (i n : Members) → m ≡ sub i n → ⊥

pub record EndHere (s : List ℕ) (g : Bool) (r : Bool) : Type 0 where
  pub inside : r ≡ true → 0 < length s
  pub is : r ≡ true → (d : ℕ) (m : Members) (t : List ℕ) → Reads d g s m t → m ≡ none
  pub not : r ≡ false → (d : ℕ) (m : Members) (t : List ℕ) → Reads d g s m t → m ≡ none → ⊥

-- on an edge: "( a () )" spells a word and an empty list
edge-spelled : Line (word (97 ∷ []) (sub none none)) (40 ∷ 32 ∷ 97 ∷ 32 ∷ 40 ∷ 41 ∷ 32 ∷ 41 ∷ [])
unfolding Line Spells Gap All is_word
edge-spelled =
    (0, 0, 32 ∷ 97 ∷ 32 ∷ 40 ∷ 41 ∷ 32 ∷ 41 ∷ [], refl, omega arith, (1, 32 ∷ 40 ∷ 41 ∷ 32 ∷ 41 ∷ [], refl, tt, (omega arith, (refl, tt)), (1, 6, 41 ∷ [], 32 ∷ 41 ∷ [], refl, omega arith, refl, (0, refl), (1, refl))))
