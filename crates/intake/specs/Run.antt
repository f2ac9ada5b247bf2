-- Lists of calls (document 02, "Ask 11": "From an empty queue that only these calls change"), and what is claimed of each. A step is what the call's
-- contract promises, no more.
use Rattle.std.specs.Prelude.{ℕ, suc, ◌+◌, ◌*◌, ◌≤◌, ◌<◌, ◌≡◌, List, [], ◌∷◌, ◌++◌, eqb, length, get_or, Option, Some, None, Ok, Err}
use Rattle.words.specs.Lists.{pick}
use Rattle.intake.specs.declared.calls.Served.{Served}
use Rattle.intake.specs.Queue.{Said}
use Rattle.intake.specs.Words.{Room, line_of}
use Rattle.intake.specs.Promises.{PutPromise, TurnPromise}

-- a call and what it answered: a put of a line and a handle, or a turn
pub data Event : Type 0 where
  Puts : ℕ → ℕ → Said → Event
  Turns : Option Served → Event

-- no line holds a handle. Heads and tails may be any numbers of 32 bits, and any line may be the one served last
pub record Empty (m : List ℕ) : Type 0 where
  pub room : Room m
  pub none : (i : ℕ) → i < 256 → line_of m i ≡ []

-- the calls, the last one first, and the words that they left
pub data Run : List Event → List ℕ → Type 0 where
  begin : {m : List ℕ} → Empty m → Run [] m
  puts : {h : List Event} {m : List ℕ} → Run h m → (i x : ℕ) (o : Said) {n : List ℕ} → PutPromise m i x n o → Run (Puts i x o ∷ h) n
  turns : {h : List Event} {m : List ℕ} → Run h m → (o : Option Served) {n : List ℕ} → TurnPromise m n o → Run (Turns o ∷ h) n

-- ---- what is read off a list of calls

-- the handles stored in line i, the first one first
abbrev pub stored_in : ℕ → List Event → List ℕ
stored_in i [] = []
stored_in i (Puts k x (Ok done) ∷ h) = stored_in i h ++ pick (eqb k i) (x ∷ []) []
stored_in i (Puts k x (Err c) ∷ h) = stored_in i h
stored_in i (Turns o ∷ h) = stored_in i h

-- the handles handed out of line i, the first one first
abbrev pub handed_out : ℕ → List Event → List ℕ
handed_out i [] = []
handed_out i (Puts k x o ∷ h) = handed_out i h
handed_out i (Turns (Some s) ∷ h) = handed_out i h ++ pick (eqb s.line i) (s.handle ∷ []) []
handed_out i (Turns None ∷ h) = handed_out i h

abbrev pub turns_in : List Event → ℕ
turns_in [] = 0
turns_in (Puts k x o ∷ h) = turns_in h
turns_in (Turns o ∷ h) = suc (turns_in h)

-- ---- the claim

pub record Fair (h : List Event) (m : List ℕ) : Type 0 where
  -- "each line's handles come out in the order stored, once each": those handed out, then those held, are those stored
  pub order : (i : ℕ) → i < 256 → handed_out i h ++ line_of m i ≡ stored_in i h
  pub few : (i : ℕ) → i < 256 → length (line_of m i) ≤ 16
  -- "a handle with k before it in its line is handed out within 256 × (k + 1) turns, however the others fill theirs". The handle x is the one stored in
  -- line i by the call between `earlier` and `later`: the one of number `length (stored_in i earlier)` in its line, counted from 0; that many were
  -- stored before it, and all but k of them were handed out. Once 256 × (k + 1) turns came after it, it is among those handed out, at its number
  pub soon : (later earlier : List Event) (i x k : ℕ) → h ≡ later ++ (Puts i x (Ok tt) ∷ earlier)
      → length (stored_in i earlier) ≡ length (handed_out i earlier) + k
      → 256 * (k + 1) ≤ turns_in later
      → (length (stored_in i earlier) < length (handed_out i h)) × (get_or (handed_out i h) (length (stored_in i earlier)) 0 ≡ x)
