-- What the calls promise of the words that they find and leave. The theorem over lists of calls takes its steps from these definitions.
use Rattle.std.specs.Prelude.{ℕ, ◌+◌, ◌*◌, ◌<◌, ◌≡◌, List, length, get_or, Option, None, Ok, Err}
use Rattle.intake.specs.declared.calls.Refusal.{Refusal}
use Rattle.intake.specs.declared.calls.Refusal.TheVariants.{TooShort, NoRoom}
use Rattle.intake.specs.declared.calls.Served.{Served}
use Rattle.intake.specs.Queue.{Said, empty, put, turn, after_put, after_turn}
use Rattle.intake.specs.Words.{Room, Outside, queue_of}

-- ---- the calls

-- `start`: every line empty, its head and tail 0; "line 255 counting as that at the start". Too few words for a queue are refusal 1
pub record StartPromise (was is : List ℕ) (r : Said) : Type 0 where
  pub short : length was < 4609 → r ≡ Err TooShort
  pub enough : Room was → r ≡ Ok tt
  pub ready : r ≡ Ok tt → queue_of is ≡ empty
  pub zeroes : r ≡ Ok tt → (i : ℕ) → i < 256 → (get_or is (i * 18) 0 ≡ 0) × (get_or is (i * 18 + 1) 0 ≡ 0)
  pub refused : (e : Refusal) → r ≡ Err e → is ≡ was
  pub outside : Outside was is

-- `put`, of any line and any handle
pub record PutPromise (was : List ℕ) (i x : ℕ) (is : List ℕ) (r : Said) : Type 0 where
  pub short : length was < 4609 → r ≡ Err NoRoom
  pub puts : Room was → after_put (queue_of is) r ≡ put (queue_of was) i x
  pub refused : (e : Refusal) → r ≡ Err e → is ≡ was
  pub outside : Outside was is

-- `turn`
pub record TurnPromise (was is : List ℕ) (r : Option Served) : Type 0 where
  pub short : length was < 4609 → r ≡ None
  pub turns : Room was → after_turn (queue_of is) r ≡ turn (queue_of was)
  pub nothing : r ≡ None → is ≡ was
  pub outside : Outside was is
