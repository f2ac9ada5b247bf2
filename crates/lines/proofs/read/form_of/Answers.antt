-- `read::form_of` meets its contract: a line is a form or none (`Opened`), and the form's first member is a word or none.
use Rattle.lines.specs.FormLaws as L
use Rattle.lines.proofs.read.form_of.Goals as goal

pub returns-in_err-inside : goal.returns-in_err-inside
returns-in_err-inside c = L.read-not _ _ _ _ _ _ c.in_err-inside.ensures (L.none-unread _ c.from_residual.ensures)

pub returns-in_err-word : goal.returns-in_err-word
returns-in_err-word c = L.read-no-word _ _ _ _ _ _ _ c.in_ok-inside.ensures c.in_err-word.ensures (L.none-unread _ c.from_residual-in_err-word.ensures)

pub returns : goal.returns
returns c = L.read_word _ _ _ _ _ _ _ c.in_ok-inside.ensures _ _ c.in_ok-word.ensures c.worded.ensures
