-- The call that a form asks for (docs/FORMS.md).
use Rattle.std.specs.Prelude.{Bool, false, not}
use Rattle.words.specs.Sums.{cap}
use Rattle.lines.specs.declared.read.Form.{Form}
use Rattle.lines.specs.declared.read.Form.TheVariants.{Pool, Tx, Return, Block, Invalidate, Open, Next, Answer, Rebroadcast, List, Top, Len, Contains, Spending, Fee, Wait, Histogram, Charges, Written, Unread}
use Rattle.console.specs.declared.calls.Call.{Call}
use Rattle.console.specs.declared.calls.Call.TheVariants.{Start, Alter, Ask, Unreadable}
use Rattle.console.specs.declared.calls.Change.{Change}
use Rattle.console.specs.declared.calls.Change.TheVariants as change
use Rattle.console.specs.declared.calls.Query.TheVariants as query
use Rattle.console.specs.declared.calls.Words.{Words}

unfoldable pub call_of : Form → Call
call_of (Pool g) = Start g
call_of (Tx t) = Alter (change.Submit t)
call_of (Return g) = Alter (change.Return g)
call_of (Block g) = Alter (change.Block g)
call_of (Invalidate time x) = Alter (change.Invalidate time x)
call_of (Open time limit preheader) = Alter (change.Open time limit preheader)
call_of Next = Alter change.Next
call_of (Answer n verdict) = Alter (change.Answer n verdict)
call_of List = Ask (query.Listing cap)
call_of (Top limit) = Ask (query.Listing limit)
call_of Len = Ask query.Len
call_of (Contains time x) = Ask (query.Contains time x)
call_of (Spending x) = Ask (query.Spending x)
call_of (Fee minutes size) = Ask (query.Fee minutes size)
call_of (Wait time fee size) = Ask (query.Wait time fee size)
call_of (Histogram time bins longest) = Ask (query.Histogram time bins longest)
call_of (Rebroadcast n) = Ask (query.Rebroadcast n)
call_of Charges = Ask query.Charges
call_of Written = Ask query.Written
call_of Unread = Unreadable

-- "Before the first `(ready)` any form but `pool` prints `(no pool)`"; an unreadable line is unreadable then too
unfoldable pub lacks_pool : Bool → Call → Bool
lacks_pool ready (Start g) = false
lacks_pool ready (Alter g) = not ready
lacks_pool ready (Ask q) = not ready
lacks_pool ready Unreadable = false

-- how many words the lists of a changing form have in the two slices that they are read into
unfoldable pub words_of : Change → Words
words_of (change.Submit t) = record { one = t.inputs; two = t.outputs }
words_of (change.Return g) = record { one = g.inputs; two = g.outputs }
words_of (change.Block g) = record { one = g.transactions; two = g.inputs }
words_of (change.Invalidate time x) = record { one = 0; two = 0 }
words_of (change.Open time limit preheader) = record { one = 0; two = 0 }
words_of change.Next = record { one = 0; two = 0 }
words_of (change.Answer n v) = record { one = n; two = 0 }
