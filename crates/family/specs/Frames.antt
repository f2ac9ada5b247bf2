-- The walk's stack: frames, each of a transaction's id and how many of the first slots still hold inputs to be looked at.
use Rattle.std.specs.Prelude.{ℕ, ◌+◌, ◌<◌, ◌≡◌, List, [], ◌∷◌, ◌++◌, map, length, take, slice_index_or, slice_set}
use Rattle.std.proofs.Common.{ap, ◌∙◌, add-one, take-suc, take-suc-set}
use Rattle.words.specs.Lists.{map-append}
use Rattle.words.specs.Ids.{id_of}
use Rattle.family.specs.declared.Frame.{Frame}

pub record Todo : Type 0 where
  pub id : ℕ
  pub bound : ℕ

-- a frame of the code
unfoldable pub todo_of : Frame → Todo
todo_of f = record { id = id_of f.id; bound = f.bound }

-- the first n, the lowest first
abbrev pub frames_of : List Frame → ℕ → List Todo
frames_of fs n = map todo_of (take n fs)

-- the next frame that is there, and the next that is stored
pub next-frame : (fs : List Frame) (n : ℕ) (d : Frame) → n < length fs → frames_of fs (n + 1) ≡ frames_of fs n ++ (todo_of (slice_index_or fs n d) ∷ [])
next-frame fs n d h = rw (add-one n) (ap (map todo_of) (take-suc fs n d h) ∙ map-append todo_of (take n fs) _)

pub put-frame : (fs : List Frame) (n : ℕ) (f : Frame) → n < length fs → frames_of (slice_set fs n f) (n + 1) ≡ frames_of fs n ++ (todo_of f ∷ [])
put-frame fs n f h = rw (add-one n) (ap (map todo_of) (take-suc-set fs n f h) ∙ map-append todo_of (take n fs) _)
