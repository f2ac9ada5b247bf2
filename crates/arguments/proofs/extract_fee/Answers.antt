-- `extract_fee` meets its contract: what is summed and what is left are the whole fee. Assumes nothing.
use Rattle.arguments.specs.Laws.{fee-begins, fee-again, fee-beyond, fee-ends}
use Rattle.std.proofs.Common.{arith, ◌∙◌}
use Rattle.arguments.proofs.extract_fee.Goals as goal

pub loop-i-init : goal.loop-i-init
loop-i-init c = (fee-begins _, omega arith)

pub returns-in_err-sum : goal.returns-in_err-sum
returns-in_err-sum c = c.from_residual.ensures ∙ fee-beyond _ _ _ c.loop-i.invariant.0 (omega (arith, c.count_records-i-end.ensures)) (omega (arith, c.in_err-sum.ensures, c.fee_at.ensures))

pub loop-i-preserved : goal.loop-i-preserved
loop-i-preserved c = (omega (arith, c.in_ok-sum.ensures, c.fee_at.ensures, fee-again _ _ _ c.loop-i.invariant.0 (omega (arith, c.count_records-i-end.ensures))), omega (arith, c.in_ok-sum.ensures))

pub returns : goal.returns
returns c = fee-ends _ _ _ c.loop-i.invariant.0 (omega (arith, c.loop-i-test.false, c.count_records-i-end.ensures)) c.loop-i.invariant.1
