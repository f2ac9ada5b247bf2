-- What tidy is to do with its input, byte by byte: a line is held until it ends, and then comes out tidied (crate spelling); of a line that is longer than any
-- readable one what is held is written as it is. That the whole input so comes out tidied is `served-file` (Whole).
use Rattle.std.specs.Prelude.{ℕ, ◌<◌, ◌≤◌, ◌≡◌, Bool, true, false, List, [], ◌∷◌, ◌++◌, length, take}
use Rattle.spelling.specs.Tidied.{Tidied}

-- ---- what is held between two bytes

-- the bytes of the line in progress that are not written yet, whether some of its bytes are, and whether the input has ended
pub record State : Type 0 where
  pub line : List ℕ
  pub long : Bool
  pub over : Bool

-- as the program has it: of its line buffer the first n bytes are held
abbrev pub state_of : List ℕ → ℕ → Bool → Bool → State
state_of l n long over = record { line = take n l; long = long; over = over }

abbrev pub at_start : State
at_start = record { line = []; long = false; over = false }

-- ---- the next byte; t are the bytes written

-- one byte more is held, or the byte alone, or none
abbrev pub grown : ℕ → State → State
grown b s = record { line = s.line ++ (b ∷ []); long = s.long; over = s.over }

abbrev pub spilled : ℕ → State → State
spilled b s = record { line = b ∷ []; long = true; over = s.over }

abbrev pub begun : State → State
begun s = record { line = []; long = false; over = s.over }

-- the end of a line: all of it is held, and comes out tidied, or the rest of it, which stays
pub data Ending (s : State) : List ℕ → Type 0 where
  whole : {t : List ℕ} → s.long ≡ false → Tidied s.line t → Ending s t
  rest : s.long ≡ true → Ending s s.line

-- byte 10 ends a line. A line of 4,097 bytes is too long, and is written where another byte comes
pub data Step (b : ℕ) (s : State) : List ℕ → State → Type 0 where
  adds : (b ≡ 10 → ⊥) → length s.line < 4097 → Step b s [] (grown b s)
  spills : (b ≡ 10 → ⊥) → 4097 ≤ length s.line → Step b s s.line (spilled b s)
  ends : {t : List ℕ} → b ≡ 10 → Ending s t → Step b s (t ++ (10 ∷ [])) (begun s)

pub data Fed : List ℕ → State → List ℕ → State → Type 0 where
  none : {s : State} → Fed [] s [] s
  more : {b : ℕ} {bs t ts : List ℕ} {s s' s'' : State} → Step b s t s' → Fed bs s' ts s'' → Fed (b ∷ bs) s (t ++ ts) s''

-- ---- the end of the input

abbrev pub ended : State → State
ended s = record { line = s.line; long = s.long; over = true }

-- the last line comes out without a newline
pub data Finished (s : State) : List ℕ → State → Type 0 where
  last : {t : List ℕ} → Ending s t → Finished s t (ended s)

-- what one read brings: nothing at the end of the input
pub data Turn : List ℕ → State → List ℕ → State → Type 0 where
  over : {t : List ℕ} {s s' : State} → Finished s t s' → Turn [] s t s'
  some : {b : ℕ} {bs t : List ℕ} {s s' : State} → Fed (b ∷ bs) s t s' → Turn (b ∷ bs) s t s'

-- what the reads brought, one by one; nothing is read behind the end
pub data Served : List (List ℕ) → State → List ℕ → State → Type 0 where
  unread : {s : State} → Served [] s [] s
  reads : {r : List ℕ} {rs : List (List ℕ)} {t ts : List ℕ} {s s' s'' : State} → s.over ≡ false → Turn r s t s' → Served rs s' ts s'' → Served (r ∷ rs) s (t ++ ts) s''
