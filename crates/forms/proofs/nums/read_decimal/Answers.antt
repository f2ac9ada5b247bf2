-- `nums::read_decimal` meets its contract: no digit is no number.
use Rattle.std.proofs.Common.{arith, sym}
use Rattle.forms.specs.TextLaws.{empty, not-empty}
use Rattle.forms.specs.NumLaws as W
use Rattle.forms.proofs.nums.read_decimal.Goals as goal

pub returns-then-is_empty : goal.returns-then-is_empty
returns-then-is_empty c = sym (W.decimal-none _ _ (empty _ _ c.is_empty.ensures c.if-is_empty.true))

pub returns : goal.returns
returns c = W.decimal-is _ _ _ (omega (arith, not-empty _ _ c.is_empty.ensures c.if-is_empty.false)) c.read_number.ensures
