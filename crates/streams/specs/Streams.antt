-- What reads bring and writes leave, where the bytes that a reader has left and those that a writer holds are known.
use Rattle.std.specs.Prelude.{ℕ, ◌<◌, ◌≡◌, List, [], None}
use Rattle.std.specs.Io.KnownBytes.{Appends, Consumes, IsAtEnd}
use Rattle.std.specs.declared.io.Error.{Error}
use Rattle.std.specs.declared.option.Option.{Option}

-- where a stream stands: what failed first, and the bytes that a reader has left or a writer holds, where they are known
pub record Stand : Type 0 where
  pub error : Option Error
  pub known : Option (List ℕ)

abbrev pub stand : Option Error → Option (List ℕ) → Stand
stand e k = record { error = e; known = k }

-- the bytes t were written: where nothing failed, the known bytes have grown by them
pub record Written (o o' : Stand) (t : List ℕ) : Type 0 where
  pub fails : o'.error ≡ None → o.error ≡ None
  pub grows : o'.error ≡ None → Appends o.known o'.known t

-- the bytes t were read, by one read or more: they were the first of those left
pub record Taken (i i' : Stand) (t : List ℕ) : Type 0 where
  pub fails : i'.error ≡ None → i.error ≡ None
  pub takes : Consumes i.known i'.known t

-- one read of them, into a buffer of so many: where nothing failed, none means that none is left
pub record Brought (room : ℕ) (i i' : Stand) (t : List ℕ) : Type 0 where
  pub taken : Taken i i' t
  pub ends : i'.error ≡ None → 0 < room → t ≡ [] → IsAtEnd i'.known
