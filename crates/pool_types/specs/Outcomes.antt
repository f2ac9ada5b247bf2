-- What each case of an outcome says in document 01's terms: a refusal's number, or the outcome with its values.
use Rattle.std.specs.Prelude.{ℕ, Bool, true, false, ◌≡◌, refl, Option, Some, None, Result, Ok, Err}
use Rattle.words.specs.Ids.{id_of}
use Rattle.pool_types.specs.Refusals.{refusal_number}
use Rattle.pool_types.specs.declared.Mempool.{Mempool}
use Rattle.pool_types.specs.declared.Refusal.{Refusal}
use Rattle.pool_types.specs.declared.PooledTx.{PooledTx}
use Rattle.pool_types.specs.declared.ProcessingOutcome.{ProcessingOutcome}
use Rattle.pool_types.specs.declared.ProcessingOutcome.TheVariants.{Accepted, Replaced, DoubleSpendLoser, VerdictNeeded, Declined}
use Rattle.pool_types.specs.declared.NextOutcome.{NextOutcome}
use Rattle.pool_types.specs.declared.NextOutcome.TheVariants.{Candidate, Ended}
use Rattle.pool_types.specs.declared.AnswerOutcome.{AnswerOutcome}
use Rattle.pool_types.specs.declared.AnswerOutcome.TheVariants.{InputMissing, AnswerNeeded, FoundInvalid, FoundValid}

-- an outcome, of whichever call
pub data Outcome : Type 0 where
  -- a refusal's number, and how many ids it wrote (none but at 29)
  refused : ℕ → ℕ → Outcome
  -- done, with nothing to say: ready, accepted, returned, invalidated, opened
  done : Outcome
  -- done, and so many ids, entries or pairs were written
  wrote : ℕ → Outcome
  -- 'verdict needed'
  needed : Outcome
  -- next: the candidate's id, or ended with the sum
  candidate : ℕ → Outcome
  ended : ℕ → Outcome
  -- answer: an input of this one was found nowhere; this one was invalid; this one was valid
  missing : ℕ → Outcome
  invalid : ℕ → Outcome
  valid : ℕ → Outcome
  -- a query's number
  number : ℕ → Outcome
  -- a query's yes or no
  said : Bool → Outcome
  -- a query's transaction: its id, weight and base; or that there is none
  entry : ℕ → ℕ → ℕ → Outcome
  none : Outcome

-- a call that has nothing to say where it is done
unfoldable pub done_of : Result Unit Refusal → Outcome
done_of (Ok u) = done
done_of (Err r) = refused (refusal_number r) 0

unfoldable pub start_of : Result Mempool Refusal → Outcome
start_of (Ok st) = done
start_of (Err r) = refused (refusal_number r) 0

unfoldable pub processed_of : ProcessingOutcome → Outcome
processed_of Accepted = done
processed_of (Replaced k) = wrote k
processed_of (DoubleSpendLoser k) = refused 29 k
processed_of VerdictNeeded = needed
processed_of (Declined r) = refused (refusal_number r) 0

-- a block, and a query that writes a list
unfoldable pub listed_of : Result ℕ Refusal → Outcome
listed_of (Ok k) = wrote k
listed_of (Err r) = refused (refusal_number r) 0

unfoldable pub next_of : Result NextOutcome Refusal → Outcome
next_of (Ok (Candidate x)) = candidate (id_of x)
next_of (Ok (Ended n)) = ended n
next_of (Err r) = refused (refusal_number r) 0

unfoldable pub answered_of : Result AnswerOutcome Refusal → Outcome
answered_of (Ok (InputMissing x)) = missing (id_of x)
answered_of (Ok AnswerNeeded) = needed
answered_of (Ok (FoundInvalid x)) = invalid (id_of x)
answered_of (Ok (FoundValid x)) = valid (id_of x)
answered_of (Err r) = refused (refusal_number r) 0

unfoldable pub number_of : Result ℕ Refusal → Outcome
number_of (Ok n) = number n
number_of (Err r) = refused (refusal_number r) 0

unfoldable pub tested_of : Result Bool Refusal → Outcome
tested_of (Ok b) = said b
tested_of (Err r) = refused (refusal_number r) 0

unfoldable pub looked_of : Result (Option PooledTx) Refusal → Outcome
looked_of (Ok (Some t)) = entry (id_of t.id) t.weight t.base
looked_of (Ok None) = none
looked_of (Err r) = refused (refusal_number r) 0

-- ---- what is read of an outcome where its call does not matter: the thirteen cases are told apart once, here

pub data Reading : Type 0 where
  -- a refusal's number, and how many ids it wrote
  declined : ℕ → ℕ → Reading
  -- done, and so many ids, entries or pairs were written
  did : ℕ → Reading
  -- next gave this candidate
  offers : ℕ → Reading
  -- this one left a pass: an input of it was found nowhere, or it was invalid
  fails : ℕ → Reading
  -- any other: nothing of it is read
  tells : Reading

abbrev pub reading_of : Outcome → Reading
reading_of (refused n k) = declined n k
reading_of done = did 0
reading_of (wrote n) = did n
reading_of needed = tells
reading_of (candidate k) = offers k
reading_of (ended n) = tells
reading_of (missing k) = fails k
reading_of (invalid k) = fails k
reading_of (valid k) = tells
reading_of (number n) = tells
reading_of (said t) = tells
reading_of (entry k w b) = tells
reading_of none = tells

-- how many ids, entries or pairs were written
abbrev pub counted : Reading → ℕ
counted (declined n k) = k
counted (did n) = n
counted (offers k) = 0
counted (fails k) = 0
counted tells = 0

unfoldable pub written_of : Outcome → ℕ
written_of o = counted (reading_of o)
