-- The ledger of demand 3 (document 01, "Demand 3"): "fed the start's settings and each call's arguments and outcome, nothing else. It holds transactions ..
-- with their credits, the charges, both indexes by the pool's rule, and the id that next gave last." No definition of a call of the pool is used here,
-- and no answer buffer: losers, evicted ones, those a block removes and the walk are reckoned on the ledger's own book. Shared with the pool's definitions
-- are words, namely the types of arguments and outcomes, and how flat words are read as ids (`ids_of`) and a block's two lists as transactions
-- (`confirmed_of`); and two rules: outputs as a fee (`fee_of`), and the base (`fee_per_factor`).
use Rattle.std.specs.Prelude.{ℕ, max, Bool, true, false, ◌||◌, List, [], ◌∷◌, eqb}
use Rattle.words.specs.Lists.{pick}
use Rattle.words.specs.Ids.{id_of}
use Rattle.pool_types.specs.declared.MempoolConfig.{MempoolConfig}
use Rattle.pool_types.specs.declared.Submission.{Submission}
use Rattle.pool_types.specs.declared.Verdict.{Verdict}
use Rattle.pool_types.specs.declared.Verdict.TheVariants.{Valid, Invalid, Absent}
use Rattle.pool_types.specs.Outcomes.{Outcome, Reading, declined, did, offers, fails, tells, reading_of}
use Rattle.weight.specs.Weight.{fee_per_factor}
use Rattle.arguments.specs.Arguments.{fee_of}
use Rattle.boxes.specs.Flat.{ids_of}
use Rattle.returns.specs.declared.UnconfirmedTx.{UnconfirmedTx}
use Rattle.blocks.specs.Blocks.{Confirmed, confirmed_of}
use Rattle.ledger.specs.Book.{Book, book, enters, leaves, all_leave, losers_leave, walks, evicts, confirms}
use Rattle.ledger.specs.Charges.{Charge, charges}

-- ---- the calls, with their arguments

-- the queries, which change nothing
pub data Query : Type 0 where
  Len : Query
  -- time, id
  Contains : ℕ → ℕ → Query
  -- box
  Spending : ℕ → Query
  -- how many at most, or all
  Top : ℕ → Query
  All : Query
  -- minutes, size
  Fee : ℕ → ℕ → Query
  -- time, fee, size
  Wait : ℕ → ℕ → ℕ → Query
  -- time, bins, longest wait
  Histogram : ℕ → ℕ → ℕ → Query
  -- the words of the confirmed boxes
  Rebroadcast : List ℕ → Query

pub data Call : Type 0 where
  -- a submission with the words of its inputs and outputs
  Submit : Submission → List ℕ → List ℕ → Call
  -- a return with the words of its inputs and outputs
  Return : UnconfirmedTx → List ℕ → List ℕ → Call
  -- time, and the words of a block's transactions and of their inputs
  Block : ℕ → List ℕ → List ℕ → Call
  -- time, id
  Invalidate : ℕ → ℕ → Call
  -- time, limit, preheader
  Open : ℕ → ℕ → ℕ → Call
  Next : Call
  -- the words of the flags, and the verdict
  Answer : List ℕ → Verdict → Call
  -- time, settings: one that is refused
  Start : ℕ → MempoolConfig → Call
  Ask : Query → Call

-- ---- the ledger

pub record Ledger : Type 0 where
  pub book : Book
  -- since the last block, the last first
  pub charged : List Charge
  -- "the id that next gave last": none, or one
  pub given : List ℕ

abbrev pub empty_ledger : Ledger
empty_ledger = record { book = book [] [] []; charged = []; given = [] }

abbrev pub with_book : Book → Ledger → Ledger
with_book b l = record { book = b; charged = l.charged; given = l.given }

abbrev pub with_given : List ℕ → Ledger → Ledger
with_given ks l = record { book = l.book; charged = l.charged; given = ks }

-- ---- a submission

-- "At most 500 visits"
abbrev pub visit_cap : ℕ
visit_cap = 500

-- "Cost = max(verdict cost, size)"; only a valid verdict has a cost
abbrev pub verdict_cost : Verdict → ℕ
verdict_cost (Valid c) = c
verdict_cost Invalid = 0
verdict_cost Absent = 0

abbrev pub submitted_cost : Submission → ℕ
submitted_cost a = max (verdict_cost a.verdict) a.size

-- its base: "Fee = sum of flagged values"
abbrev pub submitted_base : MempoolConfig → Submission → List ℕ → ℕ
submitted_base g a outs = fee_per_factor g.fee_strategy (fee_of outs) a.size (submitted_cost a)

-- "Outcomes `Accepted`, `Replaced`, 10, 29 and 30 charge a remote submission its cost"
unfoldable pub charge_for : Submission → Ledger → Ledger
charge_for a l = record { book = l.book; charged = charges a.source (submitted_cost a) l.charged; given = l.given }

-- "`Accepted`, `Replaced` .. enters one, without credits": losers have left, the newcomer has entered, and its walk has not begun ("In demand 3's ledger at
-- that moment, before eviction")
unfoldable pub entered : MempoolConfig → Submission → List ℕ → List ℕ → Book → Book
entered g a ins outs b = enters (id_of a.id) (submitted_base g a outs) (ids_of 5 ins) (ids_of 7 outs) (losers_leave (ids_of 5 ins) b)

-- "a submission's walk then runs on the ledger", and after it "eviction of the lowest until the capacity is met"
unfoldable pub enters_submission : MempoolConfig → Submission → List ℕ → List ℕ → Ledger → Ledger
enters_submission g a ins outs l =
    with_book (evicts g.capacity (walks visit_cap (submitted_base g a outs) (id_of a.id) (entered g a ins outs l.book))) (charge_for a l)

-- "Losers (at 30 too) .. leave"
unfoldable pub turned_away : ℕ → Submission → List ℕ → Ledger → Ledger
turned_away n a ins l =
    pick (eqb n 10 || eqb n 29) (charge_for a l)
    (pick (eqb n 30) (with_book (losers_leave (ids_of 5 ins) l.book) (charge_for a l)) l)

unfoldable pub hears_submission : MempoolConfig → Submission → List ℕ → List ℕ → Reading → Ledger → Ledger
hears_submission g a ins outs (did n) l = enters_submission g a ins outs l
hears_submission g a ins outs (declined n k) l = turned_away n a ins l
hears_submission g a ins outs (offers k) l = l
hears_submission g a ins outs (fails k) l = l
hears_submission g a ins outs tells l = l

-- ---- what is not refused

abbrev pub is_refused : Reading → Bool
is_refused (declined n k) = true
is_refused (did n) = false
is_refused (offers k) = false
is_refused (fails k) = false
is_refused tells = false

-- "a return not refused enters one, without credits": its base by the fee, size and cost that it brings
unfoldable pub enters_return : MempoolConfig → UnconfirmedTx → List ℕ → List ℕ → Ledger → Ledger
enters_return g u ins outs l =
    with_book (enters (id_of u.id) (fee_per_factor g.fee_strategy u.fee u.size u.cost) (ids_of 4 ins) (ids_of 5 outs) l.book) l

-- "those a block removes leave"; "a block not refused clears the charges"
abbrev pub confirms_all : List Confirmed → Book → Book
confirms_all [] b = b
confirms_all (t ∷ ts) b = confirms_all ts (confirms t.id t.inputs b)

unfoldable pub mined : List ℕ → List ℕ → Ledger → Ledger
mined txs ins l = record { book = confirms_all (confirmed_of txs ins) l.book; charged = []; given = l.given }

-- ---- a pass: next gives an id, and one that failed leaves: an input found nowhere, or found invalid

unfoldable pub gives_next : Reading → Ledger → Ledger
gives_next (offers k) l = with_given (k ∷ []) l
gives_next (declined n k) l = l
gives_next (did n) l = l
gives_next (fails k) l = l
gives_next tells l = l

unfoldable pub failed : Reading → Ledger → Ledger
failed (fails k) l = with_book (all_leave l.given l.book) l
failed (declined n k) l = l
failed (did n) l = l
failed (offers k) l = l
failed tells l = l

-- ---- one call with what is read of its outcome; "All else changes nothing."

unfoldable pub ledger : MempoolConfig → Call → Outcome → Ledger → Ledger
ledger g (Submit a ins outs) o l = hears_submission g a ins outs (reading_of o) l
ledger g (Return u ins outs) o l = pick (is_refused (reading_of o)) l (enters_return g u ins outs l)
ledger g (Block time txs ins) o l = pick (is_refused (reading_of o)) l (mined txs ins l)
ledger g (Invalidate time k) o l = pick (is_refused (reading_of o)) l (with_book (leaves k l.book) l)
ledger g (Open time limit preheader) o l = l
ledger g Next o l = gives_next (reading_of o) l
ledger g (Answer flags v) o l = failed (reading_of o) l
ledger g (Start time c) o l = l
ledger g (Ask q) o l = l

-- ---- lists of calls with their outcomes, the last first

pub record Heard : Type 0 where
  pub call : Call
  pub outcome : Outcome

abbrev pub told : MempoolConfig → List Heard → Ledger
told g [] = empty_ledger
told g (x ∷ h) = ledger g x.call x.outcome (told g h)
