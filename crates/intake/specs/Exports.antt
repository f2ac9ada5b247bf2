-- The calls for C and Rust: the same promises, with an outcome told by a number.
use Rattle.std.specs.Prelude.{ℕ, ◌≤◌, ◌<◌, ◌≡◌, List, length, set, Option, Some, None, Ok, Err}
use Rattle.intake.specs.declared.calls.Refusal.TheVariants.{TooShort, NoRoom}
use Rattle.intake.specs.declared.calls.Served.{Served}
use Rattle.intake.specs.Queue.{Said}
use Rattle.intake.specs.Promises.{StartPromise, PutPromise, TurnPromise}

-- 0, or the number of a refusal: "Refused: 1" at a start, "Refused: 32" at a put
abbrev pub said_code : Said → ℕ
said_code (Ok done) = 0
said_code (Err TooShort) = 1
said_code (Err NoRoom) = 32

-- 1 where a handle was handed out
abbrev pub turn_code : Option Served → ℕ
turn_code (Some s) = 1
turn_code None = 0

-- the answer buffer: the handle and its line
abbrev pub answered : List ℕ → Option Served → List ℕ
answered a (Some s) = set (set a 0 s.handle) 1 s.line
answered a None = a

pub record ToldStart (was is : List ℕ) (r : ℕ) : Type 0 where
  pub said : Said
  pub code : r ≡ said_code said
  pub post : StartPromise was is said

pub record ToldPut (was : List ℕ) (i x : ℕ) (is : List ℕ) (r : ℕ) : Type 0 where
  pub said : Said
  pub code : r ≡ said_code said
  pub post : PutPromise was i x is said

pub record Turned (was is a b : List ℕ) (r : ℕ) : Type 0 where
  pub said : Option Served
  pub code : r ≡ turn_code said
  pub answer : b ≡ answered a said
  pub post : TurnPromise was is said

-- an answer buffer of fewer than 2 words gets no handle, and no handle is lost
pub record ToldTurn (was is a b : List ℕ) (r : ℕ) : Type 0 where
  pub turned : 2 ≤ length a → Turned was is a b r
  pub short : length a < 2 → (r ≡ 0) × (is ≡ was) × (b ≡ a)
