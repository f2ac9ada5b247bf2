-- What poolrun is to do with its input: the bytes are cut into lines, and each line is answered by what crate console's `line_of` says of the call that
-- its bytes read to. Document 01: "`poolrun` reads one bracket form a line (at most 4,096 bytes ..) and prints one." docs/FORMS.md: a line "ends with
-- a newline or with the end of the file".
use Rattle.std.specs.Prelude.{ℕ, ◌+◌, ◌≡◌, refl, Bool, true, false, List, [], ◌∷◌, ◌++◌, ltb, length}
use Rattle.words.specs.Lists.{pick}
use Rattle.words.specs.Sums.{capped}
use Rattle.lines.specs.Forms.{ReadAt}
use Rattle.lines.specs.declared.read.Form.{Form}
use Rattle.console.specs.Console.{Line, line_of, nothing}
use Rattle.console.specs.Calls.{call_of}
use Rattle.console.specs.After.{After, Told}
use Rattle.console.specs.Kept.{Kept}
use Rattle.console.specs.declared.desk.Desk.{Desk}

-- ---- what is held between two bytes

-- the words that are lent to the pool
pub record Words : Type 0 where
  pub entries : List ℕ
  pub boxes : List ℕ
  pub cache : List ℕ
  pub peers : List ℕ
  pub answer : List ℕ

-- the bytes of the line in progress, how many lines there were, whether the input has ended, the words, and what is held of the pool
pub record State : Type 0 where
  pub line : List ℕ
  pub number : ℕ
  pub over : Bool
  pub words : Words
  pub kept : Kept

abbrev pub words_of : List ℕ → List ℕ → List ℕ → List ℕ → List ℕ → Words
words_of e b k p a = record { entries = e; boxes = b; cache = k; peers = p; answer = a }

abbrev pub words_in : Desk → Words
words_in d = words_of d.entries.now d.boxes.now d.cache.now d.peers.now d.answer.now

-- before the first byte
abbrev pub at_start : List ℕ → List ℕ → List ℕ → List ℕ → List ℕ → State
at_start e b k p a = record { line = []; number = 0; over = false; words = words_of e b k p a; kept = nothing }

-- ---- a byte of a line

-- "at most 4,096 bytes": of a line that is too long one byte more than allowed is kept, so that it is seen
unfoldable pub add_byte : List ℕ → ℕ → List ℕ
add_byte l b = pick (ltb (length l) 4097) (l ++ (b ∷ [])) l

add-edge : add_byte (40 ∷ []) 41 ≡ 40 ∷ 41 ∷ []
unfolding add_byte
add-edge = refl

unfoldable pub added : ℕ → State → State
added b s = record { line = add_byte s.line b; number = s.number; over = s.over; words = s.words; kept = s.kept }

-- ---- the end of a line

-- a line's bytes are read to a form; the words of its lists stand at the front of the two buffers, which have 14,336 words each
pub record Reads (l first second : List ℕ) (form : Form) : Type 0 where
  pub one : List ℕ
  pub two : List ℕ
  pub one-room : length one ≡ 14336
  pub two-room : length two ≡ 14336
  pub read : ReadAt l one first two second form

-- the n-th line, of the bytes l, comes to m; lists that a query answers with have 1,024 words
pub record Comes (l : List ℕ) (n : ℕ) (w : Words) (h : Kept) (m : Line) : Type 0 where
  pub form : Form
  pub first : List ℕ
  pub second : List ℕ
  pub reads : Reads l first second form
  pub is : m ≡ line_of w.entries w.boxes w.cache w.peers w.answer h n 1024 first second (call_of form)

-- what is held then, and the text in the buffer `out` (`before` it was written), are what m says
abbrev pub Leaves : Words → List ℕ → List ℕ → Told → Line → Type 0
Leaves w before out t m = After w.entries w.boxes w.cache w.peers w.answer before out t m

-- the line in progress is answered by `text`, and the next one begins; lines are counted from 1, up to 2^64−1
pub record Answered (s : State) (text : List ℕ) (s' : State) : Type 0 where
  pub line : s'.line ≡ []
  pub number : s'.number ≡ capped (s.number + 1)
  pub over : s'.over ≡ s.over
  pub to : Line
  pub comes : Comes s.line s'.number s.words s.kept to
  pub says : text ≡ to.text
  pub before : List ℕ
  pub out : List ℕ
  pub leaves : Leaves s'.words before out (record { kept = s'.kept; len = length text }) to

-- ---- the next byte, and all bytes; t are the bytes printed

-- byte 10 ends a line, any other byte is added to it
pub data Step (b : ℕ) (s : State) : List ℕ → State → Type 0 where
  adds : (b ≡ 10 → ⊥) → Step b s [] (added b s)
  ends : {t : List ℕ} {s' : State} → b ≡ 10 → Answered s t s' → Step b s (t ++ (10 ∷ [])) s'

pub data Fed : List ℕ → State → List ℕ → State → Type 0 where
  none : {s : State} → Fed [] s [] s
  more : {b : ℕ} {bs t ts : List ℕ} {s s' s'' : State} → Step b s t s' → Fed bs s' ts s'' → Fed (b ∷ bs) s (t ++ ts) s''

-- ---- the end of the input

unfoldable pub ended : State → State
ended s = record { line = s.line; number = s.number; over = true; words = s.words; kept = s.kept }

-- a line in progress, which lacks its newline, is answered too
pub data Finished (s : State) : List ℕ → State → Type 0 where
  between : s.line ≡ [] → Finished s [] (ended s)
  last : {t : List ℕ} {s' : State} → (s.line ≡ [] → ⊥) → Answered s t s' → Finished s (t ++ (10 ∷ [])) (ended s')

-- what one read brings: nothing at the end of the input
pub data Turn : List ℕ → State → List ℕ → State → Type 0 where
  over : {t : List ℕ} {s s' : State} → Finished s t s' → Turn [] s t s'
  some : {b : ℕ} {bs t : List ℕ} {s s' : State} → Fed (b ∷ bs) s t s' → Turn (b ∷ bs) s t s'

-- what the reads brought, one by one; nothing is read behind the end
pub data Served : List (List ℕ) → State → List ℕ → State → Type 0 where
  unread : {s : State} → Served [] s [] s
  reads : {r : List ℕ} {rs : List (List ℕ)} {t ts : List ℕ} {s s' s'' : State} → s.over ≡ false → Turn r s t s' → Served rs s' ts s'' → Served (r ∷ rs) s (t ++ ts) s''
