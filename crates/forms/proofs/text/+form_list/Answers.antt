-- `text::form` and `text::list` meet their contracts, from the laws of the form reader and the list reader.
use Rattle.forms.specs.Text as T
use Rattle.forms.specs.TextLaws as W
use Rattle.forms.proofs.text.+form_list.Goals as goal

pub form-returns-in_err-first : goal.form-returns-in_err-first
form-returns-in_err-first t c = W.if-none _ _ c.from_residual.ensures (W.form-nil _ _ c.in_err-first.ensures.cases)

pub form-returns-then-first-ne40 : goal.form-returns-then-first-ne40
form-returns-then-first-ne40 t c = W.form-other _ _ _ _ c.in_ok-first.ensures.cases.0 c.if-first-ne40.true

pub form-returns-then-depth-eq0 : goal.form-returns-then-depth-eq0
form-returns-then-depth-eq0 t c = W.form-zero _ _ _ _ c.in_ok-first.ensures.cases.0 c.if-depth-eq0.true

pub form-returns : goal.form-returns
form-returns t c = W.form-list _ _ _ _ c.in_ok-first.ensures.cases.0 (λ z. z.now) c.if-first-ne40.false c.if-depth-eq0.false c.list.result c.list.ensures

pub list-returns-in_err-behind : goal.list-returns-in_err-behind
unfolding T.Next
list-returns-in_err-behind t c = W.if-none _ _ c.from_residual.ensures (W.ends-bad _ _ _ _ c.loop-behind.invariant c.in_err-behind.ensures)

pub list-returns-in-Close : goal.list-returns-in-Close
unfolding T.Next
list-returns-in-Close t c = W.ends_close _ _ _ _ c.loop-behind.invariant _ (W.next-is _ _ _ _ c.in-Close.is c.in_ok-behind.ensures)

pub list-returns-in_err-rest-in-Open : goal.list-returns-in_err-rest-in-Open
unfolding T.Next
list-returns-in_err-rest-in-Open t c =
    W.if-none _ _ c.from_residual-in_err-rest-in-Open.ensures (W.ends-form _ _ _ _ c.loop-behind.invariant _ _ (W.next-is _ _ _ _ c.in-Open.is c.in_ok-behind.ensures) c.in_err-rest-in-Open.ensures)

pub list-loop-behind-smaller-in-Word : goal.list-loop-behind-smaller-in-Word
unfolding T.Next
list-loop-behind-smaller-in-Word t c = W.word-less _ _ _ _ (W.next-is _ _ _ _ c.in-Word.is c.in_ok-behind.ensures)

pub list-loop-behind-preserved-in-Word : goal.list-loop-behind-preserved-in-Word
unfolding T.Next
list-loop-behind-preserved-in-Word t c = W.goes-word _ _ _ _ c.loop-behind.invariant _ _ (W.next-is _ _ _ _ c.in-Word.is c.in_ok-behind.ensures)

pub list-loop-behind-smaller : goal.list-loop-behind-smaller
unfolding T.Next
list-loop-behind-smaller t c = W.list-less _ _ _ _ _ _ (W.next-is _ _ _ _ c.in-Open.is c.in_ok-behind.ensures) c.in_ok-rest-in-Open.ensures

pub list-loop-behind-preserved : goal.list-loop-behind-preserved
unfolding T.Next
list-loop-behind-preserved t c = W.goes-list _ _ _ _ c.loop-behind.invariant _ _ _ (W.next-is _ _ _ _ c.in-Open.is c.in_ok-behind.ensures) c.in_ok-rest-in-Open.ensures
