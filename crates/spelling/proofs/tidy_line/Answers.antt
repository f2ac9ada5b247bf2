-- `tidy_line` meets its contract: a line that is none or is not read stays, and the squeezed bytes of any other are its single spelling (`squeezed-line`).
use Rattle.spelling.specs.Tidied.{tidies-not, tidies-read, tidies-kept}
use Rattle.spelling.proofs.tidy_line.Goals as goal

pub returns-in_default : goal.returns-in_default
returns-in_default c = tidies-not _ _ _ _ c.in_default.ensures c.text.ensures

pub returns-then-is_read : goal.returns-then-is_read
returns-then-is_read c = tidies-read _ _ _ _ _ _ _ _ _ c.requires.0 c.requires.1 c.read_form-form.ensures _ _ c.in-Some.ensures c.is_read.ensures c.if-is_read.true c.squeeze.ensures

pub returns : goal.returns
returns c = tidies-kept _ _ _ _ _ _ _ _ _ c.requires.0 c.requires.1 c.read_form-form.ensures _ c.is_read.ensures c.if-is_read.false c.text-2.ensures
