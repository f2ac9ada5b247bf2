-- The definitions of Input over the struct that the code hands on.
use Rattle.std.specs.Prelude.{Bool, false}
use Rattle.tidy.specs.Input.{State, state_of}
use Rattle.tidy.specs.declared.Tidier.{Tidier}

-- whether the input has ended is no field of it
abbrev pub state_at : Bool → Tidier → State
state_at over t = state_of t.line.now t.len t.long over

-- .. and while there may be more to read
abbrev pub state_in : Tidier → State
state_in t = state_at false t
