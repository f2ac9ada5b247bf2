use Rattle.forms.proofs.nums.+print.Given as goal

abbrev pub decreases-print : goal.decreases-print
decreases-print l = l.width
