-- The numbers of the refusals (document 01, "Refusals from the input" and "Refusals from the state").
use Rattle.std.specs.Prelude.{ℕ, ◌≡◌, Result, Ok, Err}
use Rattle.std.proofs.Common.{arith}
use Rattle.pool_types.specs.declared.Refusal.{Refusal}
use Rattle.pool_types.specs.declared.Refusal.TheVariants.{Lists, AnswerTooSmall, Size, FeeSum, Cost, Settings, TooManyInputs, HeightAhead, InvalidVerdict, FeeBelowMinimum, Bins, PassOpen, NoPass, HeldInvalid, AlreadyPooled, BlockLimit, PeerLimit, NoPeerRecord, NoRoom, InputNotFound, DoubleSpend, PoolFull}

abbrev pub refusal_number : Refusal → ℕ
-- "a list is no whole number of records, or its counts disagree"
refusal_number Lists = 1
-- "answer buffer below pooled + 1 ids (or listed entries), or bins + 1 pairs"
refusal_number AnswerTooSmall = 2
-- "size above 98,304; in the wait query also 0"
refusal_number Size = 3
-- "fee sum above 2^64−1"
refusal_number FeeSum = 4
-- "valid verdict on a submission costs over 2^32−1"
refusal_number Cost = 5
-- "settings: E, R or K outside its range, .."
refusal_number Settings = 6
-- "more than 5,000 inputs"
refusal_number TooManyInputs = 7
-- "an output's height above the preheader"
refusal_number HeightAhead = 8
-- "invalid verdict; the id enters the cache"
refusal_number InvalidVerdict = 9
-- "fee below minimum; the charge stands"
refusal_number FeeBelowMinimum = 10
-- "bins 0, or longest wait below bins"
refusal_number Bins = 11
-- "a pass is open (every changing call but start, next and answer)"
refusal_number PassOpen = 20
-- "none is open (those two), or for answer no candidate is out"
refusal_number NoPass = 21
-- "id held in the cache"
refusal_number HeldInvalid = 22
-- "already pooled"
refusal_number AlreadyPooled = 23
-- "block sum at or above its limit (remote)"
refusal_number BlockLimit = 24
-- "the peer has a record at or above its limit"
refusal_number PeerLimit = 25
-- "it has no record and all 256 are used"
refusal_number NoPeerRecord = 26
-- "no free entry, or fewer free box records than inputs plus outputs, counted before removals"
refusal_number NoRoom = 27
-- "an input neither confirmed nor in the producer index"
refusal_number InputNotFound = 28
-- "base at most the floored exact average of the conflicts' weights"
refusal_number DoubleSpend = 29
-- "pool full and base at most the lowest weight"
refusal_number PoolFull = 30

-- no refusal's number is 0
pub numbered : (r : Refusal) → refusal_number r ≡ 0 → ⊥
numbered Lists e = omega arith
numbered AnswerTooSmall e = omega arith
numbered Size e = omega arith
numbered FeeSum e = omega arith
numbered Cost e = omega arith
numbered Settings e = omega arith
numbered TooManyInputs e = omega arith
numbered HeightAhead e = omega arith
numbered InvalidVerdict e = omega arith
numbered FeeBelowMinimum e = omega arith
numbered Bins e = omega arith
numbered PassOpen e = omega arith
numbered NoPass e = omega arith
numbered HeldInvalid e = omega arith
numbered AlreadyPooled e = omega arith
numbered BlockLimit e = omega arith
numbered PeerLimit e = omega arith
numbered NoPeerRecord e = omega arith
numbered NoRoom e = omega arith
numbered InputNotFound e = omega arith
numbered DoubleSpend e = omega arith
numbered PoolFull e = omega arith

-- what a chain of tests gives: the number of the first that fails, and 0 where none does
abbrev pub code_of : {A : Type 0} → Result A Refusal → ℕ
code_of (Ok x) = 0
code_of (Err r) = refusal_number r
