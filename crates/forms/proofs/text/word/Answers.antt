-- `text::word` meets its contract, from what `next` found.
use Rattle.forms.specs.Text as T
use Rattle.forms.specs.TextLaws as W
use Rattle.forms.proofs.text.word.Goals as goal

pub returns-in_err-word : goal.returns-in_err-word
unfolding T.Next
returns-in_err-word c = W.if-none _ _ c.from_residual.ensures (W.none-no-word _ _ c.in_err-word.ensures)

pub returns-in-Word : goal.returns-in-Word
unfolding T.Next
returns-in-Word c = W.here-word _ _ _ _ (W.next-is _ _ _ _ c.in-Word.is c.in_ok-word.ensures)

pub returns-in-Open : goal.returns-in-Open
unfolding T.Next
returns-in-Open c = W.open-no-word _ _ _ _ (W.next-is _ _ _ _ c.in-Open.is c.in_ok-word.ensures)

pub returns-in-Close : goal.returns-in-Close
unfolding T.Next
returns-in-Close c = W.close-no-word _ _ _ (W.next-is _ _ _ _ c.in-Close.is c.in_ok-word.ensures)
