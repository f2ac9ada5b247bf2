-- `fee_for_wait` meets its contract: the bin that is found tells the fee. Assumes nothing.
use Rattle.std.proofs.Common.{ap, ◌∙◌, Some}
use Rattle.stats.specs.Scan.{fee_found}
use Rattle.stats.proofs.fee_for_wait.Goals as goal

pub returns-in_err-bin : goal.returns-in_err-bin
returns-in_err-bin c =
    c.from_residual.ensures ∙ fee_found _ c.args.totals.now c.args.size _ _ _ c.last_bin-last.ensures c.empty_bins.ensures _ c.in_err-bin.ensures.first

pub returns : goal.returns
returns c = ap Some c.bin_fee.ensures ∙ fee_found _ _ _ _ _ _ c.last_bin-last.ensures c.empty_bins.ensures _ c.in_ok-bin.ensures.first
