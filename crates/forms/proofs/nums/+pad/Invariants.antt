use Rattle.forms.proofs.nums.+pad.Given as goal

abbrev pub decreases-pad : goal.decreases-pad
decreases-pad l = l.width
