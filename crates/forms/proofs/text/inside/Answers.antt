-- `text::inside` meets its contract, from what `next` and `form` found.
use Rattle.forms.specs.Text as T
use Rattle.forms.specs.TextLaws as W
use Rattle.forms.proofs.text.inside.Goals as goal

pub returns-in_err-here : goal.returns-in_err-here
unfolding T.Next
returns-in_err-here c = W.if-none _ _ c.from_residual.ensures (W.none-no-list _ _ _ c.in_err-here.ensures)

pub returns-in_err-form-in-Open : goal.returns-in_err-form-in-Open
unfolding T.Next
returns-in_err-form-in-Open c =
    W.if-none _ _ c.from_residual-in_err-form-in-Open.ensures (W.form-no-list _ _ _ _ _ (W.next-is _ _ _ _ c.in-Open.is c.in_ok-here.ensures) c.in_err-form-in-Open.ensures)

pub returns-in_ok-form-in-Open : goal.returns-in_ok-form-in-Open
unfolding T.Next
returns-in_ok-form-in-Open c = W.here-list _ _ _ _ _ _ (W.next-is _ _ _ _ c.in-Open.is c.in_ok-here.ensures) c.in_ok-form-in-Open.ensures

pub returns-in-Word : goal.returns-in-Word
unfolding T.Next
returns-in-Word c = W.word-no-list _ _ _ _ _ (W.next-is _ _ _ _ c.in-Word.is c.in_ok-here.ensures)

pub returns-in-Close : goal.returns-in-Close
unfolding T.Next
returns-in-Close c = W.close-no-list _ _ _ _ (W.next-is _ _ _ _ c.in-Close.is c.in_ok-here.ensures)
