-- `read::read_form` meets its contract: what is no form is unread.
use Rattle.std.proofs.Common.{sym, subst}
use Rattle.lines.specs.declared.read.Form.{Form}
use Rattle.lines.specs.Forms as F
use Rattle.lines.proofs.read.read_form.Goals as goal

pub returns : goal.returns
returns c = subst (λ (r : Form). F.ReadAt c.args.line.now c.args.first.now c.form_of.new.first c.args.second.now c.form_of.new.second r) (sym c.unwrap_or.ensures) c.form_of.ensures
