-- The definitions of Input over the struct that the code hands on.
use Rattle.std.specs.Prelude.{Bool, false, take}
use Rattle.console.specs.Desk.{kept_of}
use Rattle.poolrun.specs.Input.{State, words_in}
use Rattle.poolrun.specs.declared.Machine.{Machine}

-- of its line buffer the first `len` bytes are the line in progress; whether the input has ended is no field of it
abbrev pub state_at : Bool → Machine → State
state_at over m = record { line = take m.len m.line.now; number = m.number; over = over; words = words_in m.desk; kept = kept_of m.desk.held }

-- .. and while there may be more to read
abbrev pub state_in : Machine → State
state_in m = state_at false m
