-- `text::read_line` meets its contract: a form, with spaces before and after it and nothing else.
use Rattle.std.proofs.Common.{arith}
use Rattle.forms.specs.TextLaws as W
use Rattle.forms.proofs.text.read_line.Goals as goal

pub returns-then-line-gt4096 : goal.returns-then-line-gt4096
returns-then-line-gt4096 c = W.line-long _ c.if-line-gt4096.true

pub returns-in_err-behind : goal.returns-in_err-behind
returns-in_err-behind c = W.if-none _ _ c.from_residual.ensures (W.line-none _ _ c.past_spaces-here.ensures c.in_err-behind.ensures)

pub returns-then-not-is_empty : goal.returns-then-not-is_empty
returns-then-not-is_empty c = W.line-tail _ _ c.past_spaces-here.ensures _ _ c.in_ok-behind.ensures c.past_spaces.ensures (W.not-empty _ _ c.is_empty.ensures c.if-not-is_empty.true)

pub returns-in_err-inside : goal.returns-in_err-inside
returns-in_err-inside c =
    W.if-none _ _ c.from_residual-in_err-inside.ensures (W.line-none _ _ c.past_spaces-here.ensures (W.form-nil _ _ c.in_err-inside.ensures.cases))

pub returns : goal.returns
returns c =
    W.line_at _ _ c.past_spaces-here.ensures _ _ c.in_ok-behind.ensures c.past_spaces.ensures (omega (arith, c.if-line-gt4096.false)) (W.empty _ _ c.is_empty.ensures c.if-not-is_empty.false) _ _ c.in_ok-inside.ensures.cases.0
