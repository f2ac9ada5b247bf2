-- `text::ends` meets its contract, from what `next` found.
use Rattle.forms.specs.Text as T
use Rattle.forms.specs.TextLaws as W
use Rattle.forms.proofs.text.ends.Goals as goal

pub returns-in-Some-Close : goal.returns-in-Some-Close
unfolding T.Next
returns-in-Some-Close c = W.end-close _ _ _ (W.next-is _ _ _ _ c.in-Some-Close.field-0-is c.in-Some-Close.ensures)

pub returns-in-Some-Word : goal.returns-in-Some-Word
unfolding T.Next
returns-in-Some-Word c = W.end-word _ _ _ _ (W.next-is _ _ _ _ c.in-Some-Word.field-0-is c.in-Some-Word.ensures)

pub returns-in-Some-Open : goal.returns-in-Some-Open
unfolding T.Next
returns-in-Some-Open c = W.end-open _ _ _ _ (W.next-is _ _ _ _ c.in-Some-Open.field-0-is c.in-Some-Open.ensures)

pub returns-in-None : goal.returns-in-None
unfolding T.Next
returns-in-None c = W.end-none _ _ c.in-None.ensures
