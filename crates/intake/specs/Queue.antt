-- Document 02, "Ask 11. Fair intake", as lists: what a queue is, and what put and turn make of it. Nothing here knows of words.
use Rattle.std.specs.Prelude.{ℕ, zero, suc, ◌+◌, ◌%◌, Bool, true, List, [], ◌∷◌, ◌++◌, ltb, leb, length, get_or, drop, set, Option, Some, None, Result, Ok, Err}
use Rattle.words.specs.Lists.{pick}
use Rattle.words.specs.Rows.{tab}
use Rattle.intake.specs.declared.calls.Refusal.{Refusal}
use Rattle.intake.specs.declared.calls.Refusal.TheVariants.{NoRoom}
use Rattle.intake.specs.declared.calls.Served.{Served}

-- "a line of 16 handles (64-bit numbers) for each of 256 peers, lines numbered 0 to 255"
pub record Queue : Type 0 where
  -- each line's handles, the oldest first
  pub lines : List (List ℕ)
  -- "the one served last"
  pub last : ℕ

abbrev pub queue : List (List ℕ) → ℕ → Queue
queue ls s = record { lines = ls; last = s }

-- "an empty queue", "line 255 counting as that at the start"
unfoldable pub empty : Queue
empty = queue (tab (λ i. []) 256) 255

-- what a start or a put answers: done, or refused
abbrev pub Said : Type 0
Said = Result (Unit {0}) Refusal

-- what a turn answers, with a handle x of line i
abbrev pub served : ℕ → ℕ → Option Served
served i x = Some (record { line = i; handle = x })

-- ---- put

-- "the line already holds 16, or its number is above 255"
abbrev pub no_room : Queue → ℕ → Bool
no_room q i = pick (ltb 255 i) true (leb 16 (length (get_or q.lines i [])))

pub record AfterPut : Type 0 where
  pub queue : Queue
  pub outcome : Said

abbrev pub after_put : Queue → Said → AfterPut
after_put q o = record { queue = q; outcome = o }

-- "Refused: 32, exactly if the line already holds 16, or its number is above 255; nothing is stored"
abbrev pub put : Queue → ℕ → ℕ → AfterPut
put q i x = pick (no_room q i) (after_put q (Err NoRoom)) (after_put (queue (set q.lines i (get_or q.lines i [] ++ (x ∷ []))) q.last) (Ok tt))

-- ---- turn

-- "in circular order": n lines from line i on
abbrev pub lines_from : ℕ → ℕ → List ℕ
lines_from i zero = []
lines_from i (suc n) = i ∷ lines_from ((i + 1) % 256) n

-- "in circular order after the one served last": s + 1, .., 255, 0, .., s
unfoldable pub circle : ℕ → List ℕ
circle s = lines_from ((s + 1) % 256) 256

-- the first of these lines that is not empty
abbrev pub first_held : List (List ℕ) → List ℕ → Option ℕ
first_held ls [] = None
first_held ls (i ∷ is) = pick (ltb 0 (length (get_or ls i []))) (Some i) (first_held ls is)

pub record AfterTurn : Type 0 where
  pub queue : Queue
  pub outcome : Option Served

abbrev pub after_turn : Queue → Option Served → AfterTurn
after_turn q o = record { queue = q; outcome = o }

-- "handles come out in the order stored"; "An empty queue answers 'none' and changes nothing"
abbrev pub serve : Queue → Option ℕ → AfterTurn
serve q (Some i) = after_turn (queue (set q.lines i (drop 1 (get_or q.lines i []))) i) (served i (get_or (get_or q.lines i []) 0 0))
serve q None = after_turn q None

-- "Each turn serves the next nonempty line in circular order after the one served last"
abbrev pub turn : Queue → AfterTurn
turn q = serve q (first_held q.lines (circle q.last))
