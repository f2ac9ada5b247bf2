-- Computed: calls by name with their answers, and that the bound of 256 × (k + 1) turns is reached.
use Rattle.std.specs.Prelude.{ℕ, ◌≡◌, refl, List, [], ◌∷◌, ◌++◌, take, None, Ok, Err}
use Rattle.words.specs.Rows.{tab}
use Rattle.intake.specs.declared.calls.Refusal.TheVariants.{NoRoom}
use Rattle.intake.specs.Queue.{served, empty, circle}
use Rattle.intake.specs.Words.{Room}
use Rattle.intake.specs.Promises.{StartPromise}
use Rattle.intake.specs.Run.{Event, Puts, Turns, Run, handed_out, turns_in}
use Rattle.intake.specs.Played.{Call, Put, Turn, play, ran}

-- to be read from the end: the last call stands first
example : (play (Turn ∷ Turn ∷ Turn ∷ Put 0 14 ∷ Turn ∷ Turn ∷ Put 256 13 ∷ Put 0 12 ∷ Put 3 11 ∷ Put 3 10 ∷ Turn ∷ [])).events
    ≡ Turns None ∷ Turns (served 3 11) ∷ Turns (served 0 14) ∷ Puts 0 14 (Ok tt) ∷ Turns (served 3 10) ∷ Turns (served 0 12)
    ∷ Puts 256 13 (Err NoRoom) ∷ Puts 0 12 (Ok tt) ∷ Puts 3 11 (Ok tt) ∷ Puts 3 10 (Ok tt) ∷ Turns None ∷ []
unfolding empty circle
example = refl

-- a seventeenth handle is refused, and stored once a turn made room
full : (take 1 (play (Put 3 16 ∷ tab (λ j. Put 3 j) 16)).events ≡ Puts 3 16 (Err NoRoom) ∷ [])
    × (take 2 (play (Put 3 16 ∷ Turn ∷ tab (λ j. Put 3 j) 16)).events ≡ Puts 3 16 (Ok tt) ∷ Turns (served 3 15) ∷ [])
unfolding empty circle
full = (refl, refl)

-- ---- the bound is reached

-- handle 7 for line 255, which counts as the one served last; a handle for every other line; then n turns
abbrev pub turns_after : ℕ → List Event
turns_after n = (play (tab (λ j. Turn) n ++ (tab (λ j. Put j 1) 255 ++ (Put 255 7 ∷ [])))).events

-- with k = 0, no bound below 256 × (k + 1) would do: `later` has 255 turns, and the handle is not out
pub record Reached : Type 0 where
  pub words : List ℕ
  pub run : Run (turns_after 255) words
  pub later : List Event
  pub split : turns_after 255 ≡ later ++ (Puts 255 7 (Ok tt) ∷ [])
  pub turns : turns_in later ≡ 255
  pub not_yet : handed_out 255 (turns_after 255) ≡ []
  pub then-out : handed_out 255 (turns_after 256) ≡ 7 ∷ []

abbrev calls : List Call
calls = tab (λ j. Turn) 255 ++ (tab (λ j. Put j 1) 255 ++ (Put 255 7 ∷ []))

pub reached : (was is : List ℕ) → Room was → StartPromise was is (Ok tt) → Reached
unfolding empty circle
reached was is room start =
    let r = ran was is room start calls in
    record { words = r.words; run = r.run; later = take 510 (turns_after 255); split = refl; turns = refl; not_yet = refl; then-out = refl }
