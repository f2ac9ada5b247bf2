-- How lent words are read as a queue: 256 lines of 18 words (head, tail, 16 places) and a word for the line served last.
-- "head and tail that run on and wrap at 32 bits". Every list of words reads as some queue, whoever wrote it.
use Rattle.std.specs.Prelude.{ℕ, ◌+◌, ◌-◌, ◌*◌, ◌%◌, ◌≤◌, ◌<◌, ◌≡◌, List, [], ◌∷◌, ◌++◌, length, get_or, drop, set}
use Rattle.words.specs.Rows.{tab}
use Rattle.intake.specs.Queue.{Queue, queue}

-- there are words enough
abbrev pub Room : List ℕ → Type 0
Room l = 4609 ≤ length l

-- where line i has its handle of this count
abbrev pub place : ℕ → ℕ → ℕ
place i count = i * 18 + 2 + count % 16

abbrev pub head_of : List ℕ → ℕ → ℕ
head_of l i = get_or l (i * 18) 0 % 4294967296

abbrev pub tail_of : List ℕ → ℕ → ℕ
tail_of l i = get_or l (i * 18 + 1) 0 % 4294967296

-- how many a line holds: tail − head modulo 2^32
abbrev pub held_of : List ℕ → ℕ → ℕ
held_of l i = (tail_of l i + 4294967296 - head_of l i) % 4294967296

-- the handles of line i, the oldest first
unfoldable pub line_of : List ℕ → ℕ → List ℕ
line_of l i = tab (λ j. get_or l (place i (head_of l i + j)) 0) (held_of l i)

unfoldable pub lines_of : List ℕ → List (List ℕ)
lines_of l = tab (line_of l) 256

-- the line served last
abbrev pub last_of : List ℕ → ℕ
last_of l = get_or l 4608 0 % 256

abbrev pub queue_of : List ℕ → Queue
queue_of l = queue (lines_of l) (last_of l)

-- the words behind the queue stay, and there are as many as before
pub record Outside (was is : List ℕ) : Type 0 where
  pub size : length is ≡ length was
  pub rest : drop 4609 is ≡ drop 4609 was

-- ---- what the steps of the calls leave

-- the first n lines have head and tail 0; the other words behind them stay
pub record Cleared (was is : List ℕ) (n : ℕ) : Type 0 where
  pub zeroes : (i : ℕ) → i < n → (get_or is (i * 18) 0 ≡ 0) × (get_or is (i * 18 + 1) 0 ≡ 0)
  pub outside : Outside was is

pub record Appended (was : List ℕ) (i x : ℕ) (is : List ℕ) : Type 0 where
  pub lines : lines_of is ≡ set (lines_of was) i (line_of was i ++ (x ∷ []))
  pub last : last_of is ≡ last_of was
  pub size : length is ≡ length was
  pub rest : drop 4609 is ≡ drop 4609 was

pub record Taken (was : List ℕ) (i x : ℕ) (is : List ℕ) : Type 0 where
  pub handle : x ≡ get_or (line_of was i) 0 0
  pub lines : lines_of is ≡ set (lines_of was) i (drop 1 (line_of was i))
  pub last : last_of is ≡ last_of was
  pub size : length is ≡ length was
  pub rest : drop 4609 is ≡ drop 4609 was
