-- `nums::read_id` meets its contract: the parts that it reads are the last 16 digits, those before them, and so on.
use Rattle.std.proofs.Common.{arith, sym, ◌∙◌}
use Rattle.forms.specs.TextLaws.{empty, not-empty}
use Rattle.forms.specs.NumLaws as W
use Rattle.forms.proofs.nums.read_id.Goals as goal

pub returns-then-is_empty : goal.returns-then-is_empty
returns-then-is_empty c = sym (W.id-none _ (empty _ _ c.is_empty.ensures c.if-is_empty.true))

pub returns-then-word-gt64 : goal.returns-then-word-gt64
returns-then-word-gt64 c = sym (W.id-long _ c.if-word-gt64.true)

pub returns-in_err-read_number : goal.returns-in_err-read_number
returns-in_err-read_number c =
    c.from_residual.ensures ∙ (W.cut-no-a _ _ _ _ _ _ _ (omega (arith, not-empty _ _ c.is_empty.ensures c.if-is_empty.false)) (omega (arith, c.if-word-gt64.false)) c.cut_word.ensures.front c.cut_word.ensures.last c.cut_word-2.ensures.front c.cut_word-2.ensures.last c.cut_word-3.ensures.front c.cut_word-3.ensures.last c.in_err-read_number.ensures)

pub returns-in_err-read_number-2 : goal.returns-in_err-read_number-2
returns-in_err-read_number-2 c =
    c.from_residual-in_err-read_number-2.ensures ∙ (W.cut-no-b _ _ _ _ _ _ _ (omega (arith, not-empty _ _ c.is_empty.ensures c.if-is_empty.false)) (omega (arith, c.if-word-gt64.false)) c.cut_word.ensures.front c.cut_word.ensures.last c.cut_word-2.ensures.front c.cut_word-2.ensures.last c.cut_word-3.ensures.front c.cut_word-3.ensures.last c.in_err-read_number-2.ensures)

pub returns-in_err-read_number-3 : goal.returns-in_err-read_number-3
returns-in_err-read_number-3 c =
    c.from_residual-in_err-read_number-3.ensures ∙ (W.cut-no-c _ _ _ _ _ _ _ (omega (arith, not-empty _ _ c.is_empty.ensures c.if-is_empty.false)) (omega (arith, c.if-word-gt64.false)) c.cut_word.ensures.front c.cut_word.ensures.last c.cut_word-2.ensures.front c.cut_word-2.ensures.last c.cut_word-3.ensures.front c.cut_word-3.ensures.last c.in_err-read_number-3.ensures)

pub returns-in_err-read_number-4 : goal.returns-in_err-read_number-4
returns-in_err-read_number-4 c =
    c.from_residual-in_err-read_number-4.ensures ∙ (W.cut-no-d _ _ _ _ _ _ _ (omega (arith, not-empty _ _ c.is_empty.ensures c.if-is_empty.false)) (omega (arith, c.if-word-gt64.false)) c.cut_word.ensures.front c.cut_word.ensures.last c.cut_word-2.ensures.front c.cut_word-2.ensures.last c.cut_word-3.ensures.front c.cut_word-3.ensures.last c.in_err-read_number-4.ensures)

pub returns : goal.returns
returns c =
    W.cut-id _ _ _ _ _ _ _ (omega (arith, not-empty _ _ c.is_empty.ensures c.if-is_empty.false)) (omega (arith, c.if-word-gt64.false)) c.cut_word.ensures.front c.cut_word.ensures.last c.cut_word-2.ensures.front c.cut_word-2.ensures.last c.cut_word-3.ensures.front c.cut_word-3.ensures.last _ _ _ _ c.in_ok-read_number.ensures c.in_ok-read_number-2.ensures c.in_ok-read_number-3.ensures c.in_ok-read_number-4.ensures
